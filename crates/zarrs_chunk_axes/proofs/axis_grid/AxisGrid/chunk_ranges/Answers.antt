use Rattle.std.proofs.Common.{ℕ, List, arith}
use Rattle.std.proofs.lemmas.List.{length-map}
use Rattle.zarrs_chunk_base.specs.Dimension.{Dimension}
use Rattle.zarrs_chunk_axes.specs.LookUp.{AreRanges, HasRange}
use Rattle.zarrs_chunk_axes.specs.lemmas.LookUpEach.{AreFound}
use Rattle.zarrs_chunk_axes.proofs.EachAxis.{none_in_each}
use Rattle.zarrs_chunk_axes.proofs.PairsFound.{each_range, ranges}
use Rattle.zarrs_chunk_axes.proofs.axis_grid.AxisGrid.chunk_ranges.Goals as goal

-- the ranges that all look-ups find are the starts and sizes in all dimensions
are_ranges : (ds : List Dimension) (chunk starts sizes : List ℕ) → AreFound HasRange ds chunk starts sizes → AreRanges ds chunk starts sizes
are_ranges ds chunk starts sizes h = rw (h.firsts_are, h.seconds_are) (ranges _ _ _ h.each)

pub returns-then-find_each : goal.returns-then-find_each
returns-then-find_each g c =
    let found = rw (c.if-find_each.true, c.deref.ensures.value) at c.find_each.ensures in (
      grind (arith, c.if-chunk-len.false, c.len.ensures, length-map c.args.self.now.axes.items g.A.Axis.dimension),
      are_ranges _ _ _ _ found,
    )

pub returns-else-find_each : goal.returns-else-find_each
returns-else-find_each g c =
    let none = rw (c.if-find_each.false, c.deref.ensures.value) at c.find_each.ensures in (
      grind (arith, c.if-chunk-len.false, c.len.ensures, length-map c.args.self.now.axes.items g.A.Axis.dimension),
      λ starts sizes are.
          let (pairs, each) = each_range _ _ starts sizes are in
          none_in_each _ HasRange (λ d c range absent. absent range) _ _ pairs none each,
    )
