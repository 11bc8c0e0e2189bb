-- A plan that was counted is there.
use Rattle.programs.proofs.chunkplan.Common.{◌≡◌, List, length, Box, IsBox, ChunkKeyEncoding, AreReadCounts, Part, plan_over, ChunkGrid, chained_in}
use Rattle.zarrs_chunk_plan.specs.declared.counts.ReadCounts.{ReadCounts}
use Rattle.zarrs_chunk_plan.specs.declared.stored_array.StoredArray.{StoredArray}
use Rattle.zarrs_chunk_plan.specs.seen.ReadCounts.{AreCountsOf}
use Rattle.programs.specs.chunkplan.Planned.{IsReadPlan}
use Rattle.programs.specs.chunkplan.seen.Opened.{dimensions_of, key_of}
use Rattle.zarrs_chunk_questions.proofs.PartsAhead.{keys_in}

pub counted_parts : (array : StoredArray ChunkGrid ChunkKeyEncoding) (subset : Box) (counts : ReadCounts) → IsBox subset
    → length subset.start ≡ length (dimensions_of array) → AreCountsOf (dimensions_of array) (key_of array) subset counts
    → (parts : List Part) × IsReadPlan (dimensions_of array) (key_of array) subset parts × AreReadCounts subset parts counts
counted_parts array subset counts is_box many are =
    let (parts, plan) = plan_over (dimensions_of array) (key_of array) (chained_in array.grid) (keys_in array.encoding) subset are.cover is_box are.is_cover in
    (parts, record { lengths = many; plan = plan }, are.of_plan parts plan)
