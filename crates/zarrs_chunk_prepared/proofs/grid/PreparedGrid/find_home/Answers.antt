use Rattle.std.proofs.Common.{◌∙◌, arith, refl}
use Rattle.zarrs_chunk_base.specs.Dimension.{Holds}
use Rattle.zarrs_chunk_prepared.proofs.EachDimension.{as_many, in_each, is_place, no_home}
use Rattle.zarrs_chunk_prepared.proofs.grid.PreparedGrid.find_home.Goals as goal

pub returns-then-not-reach-clause-home : goal.returns-then-not-reach-clause-home
returns-then-not-reach-clause-home c grid are =
    let (k, within, misses) = rw c.deref.ensures.value at (c.if-not-reach.ensures.one refl) in
    no_home grid.dimensions c.args.self.now.axes.items c.args.index.now are (λ k. (c.type_inv.index k).fits) k within misses

pub returns-clause-home : goal.returns-clause-home
returns-clause-home c grid are =
    let axes = c.args.self.now.axes.items in
    let wrote = rw c.deref-2.ensures.value at c.write_home.ensures in
    let index_long = c.in_ok-check.ensures in
    let chunk_long = c.write_home.auto.chunk ∙ c.in_ok-check-2.ensures in
    let many = as_many grid.dimensions axes are in (
      in_each (λ d chunk index. Holds d chunk index) grid.dimensions axes c.write_home.new.chunk c.args.index.now are chunk_long index_long
          (λ k within d is. wrote.chunks k within d is),
      λ long. is_place grid.dimensions axes c.args.index.now c.write_home.new.chunk c.write_home.new.place are index_long chunk_long (long ∙ many)
          (λ k within. wrote.places k within (omega (arith, long, many))),
    )
