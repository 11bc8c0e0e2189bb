use Rattle.zarrs_chunk_axes.proofs.equal_or.EqualOrAxis.origin_of.Goals as goal

pub returns-in-Other : goal.returns-in-Other
returns-in-Other g c = rw c.in-Other.is c.origin_of-in-Other.ensures
