use Rattle.std.proofs.Common.{◌∙◌, inl, inr, refl}
use Rattle.zarrs_chunk_base.specs.Dimension.{Holds}
use Rattle.zarrs_chunk_prepared.proofs.EachDimension.{in_each, no_home}
use Rattle.zarrs_chunk_prepared.proofs.covers.find_chunks.Goals as goal

pub returns-then-not-reach-clause-chunks : goal.returns-then-not-reach-clause-chunks
returns-then-not-reach-clause-chunks c ds are =
    let (k, within, misses) = c.if-not-reach.ensures.one refl in
    inl (no_home ds c.args.axes.now c.args.start.now are (λ k. (c.type_inv.start k).fits) k within misses)

pub returns-then-not-reach-2-clause-chunks : goal.returns-then-not-reach-2-clause-chunks
returns-then-not-reach-2-clause-chunks c ds are =
    let (k, within, misses) = c.if-not-reach-2.ensures.one refl in
    inr (no_home ds c.args.axes.now c.args.end.now are (λ k. (c.type_inv.end k).fits) k within misses)

pub returns-clause-chunks : goal.returns-clause-chunks
returns-clause-chunks c ds are =
    let axes = c.args.axes.now in (
      in_each (λ d chunk index. Holds d chunk index) ds axes c.write_home.new.chunk c.args.start.now are (c.write_home.auto.chunk ∙ c.requires.first)
          c.requires.start (λ k within d is. c.write_home.ensures.chunks k within d is),
      in_each (λ d chunk index. Holds d chunk index) ds axes c.write_home-2.new.chunk c.args.end.now are (c.write_home-2.auto.chunk ∙ c.requires.last)
          c.requires.end (λ k within d is. c.write_home-2.ensures.chunks k within d is),
    )
