-- The counts that are found of a read.
use Rattle.std.specs.Prelude.{◌≡◌, ℕ, List}
use Rattle.zarrs_chunk_base.specs.ArraySubset.{Box}
use Rattle.zarrs_chunk_base.specs.Dimension.{Dimension}
use Rattle.zarrs_chunk_plan.specs.Counts.{AreReadCounts}
use Rattle.zarrs_chunk_parts.specs.Plan.{Covers, IsPlan}
use Rattle.zarrs_chunk_plan.specs.declared.counts.ReadCounts.{ReadCounts}
use Rattle.zarrs_chunk_parts.specs.declared.part.Part.{Part}

-- The box has a cover. Along each dimension the counts are how many chunks the cover has, and how many elements the box has. They are the counts of the plan.
pub record AreCountsOf (ds : List Dimension) (IsKey : List ℕ → List ℕ → Type 0) (b : Box) (counts : ReadCounts) : Type 0 where
  pub cover : Box
  pub is_cover : Covers ds b cover
  pub chunks : counts.chunks_read.items ≡ cover.shape
  pub elements : counts.elements_moved.items ≡ b.shape
  pub of_plan : (parts : List Part) → IsPlan ds IsKey b parts → AreReadCounts b parts counts
