use Rattle.zarrs_chunk_plan.proofs.SomeResizes.{have_resize}
use Rattle.zarrs_chunk_plan.proofs.laws.there_is_a_resize.Goals as goal

pub returns : goal.returns
returns g c = λ uses include_unchanged chunks are.
    have_resize _ _ _ (g.met.G.ChunkGridTraits.chained c.args.before.now) (g.met.H.ChunkGridTraits.chained c.args.after.now)
    (rw c.array_shape.ensures at c.all_fit.ensures) (rw c.array_shape-2.ensures at c.all_fit-2.ensures)
    (g.met.E.ChunkKeyEncodingTraits.has_key c.args.encoding.now) uses are include_unchanged chunks
