use Rattle.zarrs_chunk_plan.proofs.Common.{rules, ◌-◌, inl, inr, refl}
use Rattle.zarrs_chunk_plan.proofs.resize.Kept.{keeps_along}
use Rattle.zarrs_chunk_plan.proofs.resize.used.kept_in.Goals as goal

pub returns-then-eq-clause-kept : goal.returns-then-eq-clause-kept
returns-then-eq-clause-kept g c = λ some.
    keeps_along (g.G.ChunkGridTraits.dimensions c.args.before.now) (g.H.ChunkGridTraits.dimensions c.args.after.now) c.args.dimension c.args.both
    c.args.both c.in_ok-one.one c.in_ok-other.other
    (g.met.G.ChunkGridTraits.chained c.args.before.now) (g.met.H.ChunkGridTraits.chained c.args.after.now) some c.in_ok-one.ensures c.in_ok-other.ensures
    (inl (search rules, refl))

pub returns-else-eq-clause-kept : goal.returns-else-eq-clause-kept
returns-else-eq-clause-kept g c = λ some.
    keeps_along (g.G.ChunkGridTraits.dimensions c.args.before.now) (g.H.ChunkGridTraits.dimensions c.args.after.now) c.args.dimension c.args.both
    (c.args.both - 1) c.in_ok-one.one c.in_ok-other.other
    (g.met.G.ChunkGridTraits.chained c.args.before.now) (g.met.H.ChunkGridTraits.chained c.args.after.now) some c.in_ok-one.ensures c.in_ok-other.ensures
    (inr (search rules, refl))
