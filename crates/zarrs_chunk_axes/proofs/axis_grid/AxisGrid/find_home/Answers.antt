use Rattle.std.proofs.Common.{◌≡◌, ℕ, List, length, Bool, true, false, cond, Ok, arith}
use Rattle.std.proofs.lemmas.List.{length-map}
use Rattle.zarrs_chunk_base.specs.Dimension.{Dimension, Holds}
use Rattle.zarrs_chunk_base.proofs.InEach.{turned}
use Rattle.zarrs_chunk_axes.specs.LookUp.{AnswersHome}
use Rattle.zarrs_chunk_axes.specs.lemmas.LookUpEach.{AreFound, SomeMisses}
use Rattle.zarrs_chunk_axes.proofs.EachAxis.{none_in_each}
use Rattle.zarrs_chunk_axes.proofs.PairsFound.{IsHomeIn, homes}
use Rattle.zarrs_chunk_axes.proofs.axis_grid.AxisGrid.find_home.Goals as goal

-- what the look-ups find is the home in all dimensions
answer : (ds : List Dimension) (index chunk place : List ℕ) (found : Bool) → length index ≡ length ds
    → cond found (AreFound IsHomeIn ds index chunk place) (SomeMisses (λ d i. (c : ℕ) → ¬ Holds d c i) ds index)
    → AnswersHome ds index (Ok found) chunk place
answer ds index chunk place true same h = let (box, at) = homes _ _ _ h.each in rw (h.firsts_are, h.seconds_are) (same, box, at)
answer ds index chunk place false same h =
    (same, λ chunk box. none_in_each _ (λ d i c. Holds d c i) (λ d i c absent. absent c) ds index chunk h (turned Holds ds chunk index box))

pub returns-clause-answers : goal.returns-clause-answers
returns-clause-answers g c =
    let found = rw c.deref.ensures.value at c.find_each.ensures in
    let dimensions = length-map c.args.self.now.axes.items g.A.Axis.dimension in
    answer _ _ _ _ c.find_each.result (grind (arith, c.if-indices-len.false, c.len.ensures, dimensions)) found
