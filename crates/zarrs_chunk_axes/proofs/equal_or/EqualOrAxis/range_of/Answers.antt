use Rattle.zarrs_chunk_axes.proofs.equal_or.EqualOrAxis.range_of.Goals as goal

pub returns-in-Equal : goal.returns-in-Equal
returns-in-Equal g c = rw c.in-Equal.is c.range_of.ensures

pub returns-in-Other : goal.returns-in-Other
returns-in-Other g c = rw c.in-Other.is c.range_of-in-Other.ensures
