use Rattle.std.proofs.Common.{◌≡◌, ℕ, IfSome, List, length, MatchOption, Option, Some, None, Ok, Vec, Global, arith}
use Rattle.std.proofs.lemmas.List.{length-map}
use Rattle.zarrs_chunk_base.specs.Dimension.{Dimension, InBox}
use Rattle.zarrs_chunk_base.specs.DimensionEdges.{DimensionEdges}
use Rattle.zarrs_chunk_axes.specs.Counted.{HasOneForEach}
use Rattle.zarrs_chunk_axes.specs.LookUp.{AnswersChunk}
use Rattle.zarrs_chunk_axes.specs.seen.EqualOr.{equal_or}
use Rattle.zarrs_chunk_axes.specs.seen.RunsAxis.{runs_dimension}
use Rattle.zarrs_chunk_axes.specs.seen.Searched.{AreSearched}
use Rattle.zarrs_chunk_axes.proofs.Searched.{counted, in_order, one_each}
use Rattle.zarrs_chunk_axes.proofs.axis_grid.counted.AxisGrid+EqualOr+RunsAxis.chunk_indices_counted.Goals as goal

-- what is found among as many dimensions as indices is the answer
found_is_answer : (ds : List Dimension) (index : List ℕ) (found : Option (Vec ℕ Global)) → length index ≡ length ds
    → MatchOption found ((chunk : List ℕ) → ¬ InBox ds chunk index) (λ chunk. InBox ds chunk.items index) → AnswersChunk ds index (Ok found)
found_is_answer ds index (Some chunk) lengths h = (lengths, h)
found_is_answer ds index None lengths h = (lengths, h)

pub returns-clause-answers : goal.returns-clause-answers
returns-clause-answers c =
    let same = length-map c.args.self.now.axes.items (equal_or runs_dimension) in
    let found = rw c.deref.ensures.value at c.in_ok-find_chunks.ensures.found in
    found_is_answer _ _ _ (grind (arith, c.if-indices-len.false, c.len.ensures, same)) found

-- each of listed edges adds one where there is a chunk
adds_one : (ds : List Dimension) (edges : List DimensionEdges) (index : List ℕ) (before after : ℕ) (found : Option (Vec ℕ Global))
    → AreSearched ds edges index before after
    → MatchOption found ((chunk : List ℕ) → ¬ InBox ds chunk index) (λ chunk. InBox ds chunk.items index)
    → IfSome found (λ _. HasOneForEach edges before after)
adds_one ds edges index before after (Some chunk) searched box = one_each ds edges index before after chunk.items searched box
adds_one ds edges index before after None searched absent = tt

pub returns-clause-counted : goal.returns-clause-counted
returns-clause-counted c = counted _ _ _ _ _ (rw c.deref.ensures.value at c.in_ok-find_chunks.ensures.searched)

pub returns-clause-each : goal.returns-clause-each
returns-clause-each c =
    let ensures = rw c.deref.ensures.value at c.in_ok-find_chunks.ensures in
    adds_one _ _ _ _ _ _ ensures.searched ensures.found

pub returns-clause-in_order : goal.returns-clause-in_order
returns-clause-in_order c = in_order _ _ _ _ _ (rw c.deref.ensures.value at c.in_ok-find_chunks.ensures.searched)
