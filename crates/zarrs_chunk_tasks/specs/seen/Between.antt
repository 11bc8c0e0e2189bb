-- Two stages, by one intermediate array.
use Rattle.std.specs.Prelude.{◌≡◌, ◌⊎◌, ℕ, ◌+◌, ◌<◌, ◌≤◌, ◌/◌, ◌%◌, Bool, IsTrue, List, [], ◌∷◌, MatchOption, Option, None, Some, slice_index_or, length, map, min, ◌&&◌}
use Rattle.std.specs.Int.NonZero.{non_zero_u64_get}
use Rattle.std.specs.List.{AllZip, Contains}
use Rattle.std.specs.declared.num.NonZeroU64.{NonZeroU64}
use Rattle.zarrs_chunk_base.specs.ArraySubset.{Box, IsEmptyBox}
use Rattle.zarrs_chunk_base.specs.Dimension.{Dimension, array_sizes}
use Rattle.zarrs_chunk_axes.specs.EqualEdges.{AreEqualEdges}
use Rattle.zarrs_chunk_plan.specs.Region.{CanBeMoved, moved}
use Rattle.zarrs_chunk_plan.specs.ArrayBoxes.{array_box}
use Rattle.zarrs_chunk_tasks.specs.Counts.{greatest_of_128}
use Rattle.zarrs_chunk_tasks.specs.Stages.{BothCostAtLeast, CostAtLeast, IsStage, NoneOfBothFit}
use Rattle.zarrs_chunk_tasks.specs.declared.between.Compared.{Compared}
use Rattle.zarrs_chunk_tasks.specs.declared.between.LeastOfBoth.{LeastOfBoth}
use Rattle.zarrs_chunk_tasks.specs.declared.between.Staged.{Staged}
use Rattle.zarrs_chunk_tasks.specs.declared.between.TwoStages.{TwoStages}

-- the edges of a chunk shape, which is one of those that they make
abbrev pub IsOneOf : List (List NonZeroU64) → List NonZeroU64 → Type 0
IsOneOf = AllZip Contains

-- The chunk shape of a number. Along the first dimension its remainder is the edge's place in the row, and its quotient is the number for the other dimensions.
abbrev pub IsShapeAt : List (List NonZeroU64) → (number : ℕ) → List NonZeroU64 → Type 0
IsShapeAt [] number [] = Unit {0}
IsShapeAt (row ∷ rows) number (edge ∷ shape) = (slice_index_or row (number % length row) edge ≡ edge) × IsShapeAt rows (number / length row) shape
IsShapeAt _ _ _ = ⊥

-- what both stages cost, up to the greatest number
abbrev pub cost_of_both : TwoStages → ℕ
cost_of_both two = min greatest_of_128 (two.first.cost + two.second.cost)

-- both are exact
abbrev pub both_are_exact : TwoStages → Bool
both_are_exact two = two.first.is_exact && two.second.is_exact

-- the cost of the best two stages, if there are any
abbrev pub best_cost : Option TwoStages → Option ℕ
best_cost None = None
best_cost (Some two) = Some (cost_of_both two)

-- the cheaper one of two
abbrev pub IsCheaper : (one other cheaper : TwoStages) → Type 0
IsCheaper one other cheaper =
    ((cheaper ≡ one) × (cost_of_both one ≤ cost_of_both other)) ⊎ ((cheaper ≡ other) × (cost_of_both other < cost_of_both one))

-- what is kept of the best two stages, if there are any, after others are found: the cheaper one
abbrev pub KeepsOne : (best : Option TwoStages) (found : TwoStages) (after : Option TwoStages) → Type 0
KeepsOne None found after = after ≡ Some found
KeepsOne (Some one) found after = (cheaper : TwoStages) × IsCheaper one found cheaper × (after ≡ Some cheaper)

-- what is compared, after others are found or not
abbrev pub Keeps : (before : Compared) → (found : Option TwoStages) → (after : Compared) → Type 0
Keeps before None after = after ≡ before
Keeps before (Some two) after =
    (after.is_exact ≡ (before.is_exact && both_are_exact two)) × KeepsOne before.best two after.best

module _ (source target : List Dimension) (region : Box) (at : List ℕ) (most read_elements : ℕ) where
  -- the tasks of both stages by an intermediate array are chosen
  pub record AreBy (between : List Dimension) (two : TwoStages) : Type 0 where
    pub first : IsStage source between region (array_box between).start most read_elements two.first
    pub second : IsStage between target (array_box between) at most read_elements two.second

  -- no tasks cost less than the bound, if there is one; otherwise none fit
  abbrev pub NoneIsBelow : (between : List Dimension) → Option ℕ → Type 0
  NoneIsBelow between None = NoneOfBothFit source target region at most between
  NoneIsBelow between (Some cost) = BothCostAtLeast source target region at most between read_elements cost

  -- what each stage by chunks of one shape costs at least
  pub record CostLeast (between : List Dimension) (least : LeastOfBoth) : Type 0 where
    pub write : CostAtLeast source between region (array_box between).start most read_elements least.write
    pub read : CostAtLeast between target (array_box between) at most read_elements least.read

  -- the same, or none, if no tasks of both stages fit
  pub record IsLeast (shape : List NonZeroU64) (least : Option LeastOfBoth) : Type 0 where
    pub between : List Dimension
    pub made : AreEqualEdges between region.shape (map non_zero_u64_get shape)
    pub is_least : MatchOption least (NoneOfBothFit source target region at most between) (CostLeast between)

  -- what is found by chunks of one shape: both stages, or none, if they cost no less than the bound
  pub record FindsBoth (shape : List NonZeroU64) (bound : Option ℕ) (found : Option TwoStages) : Type 0 where
    pub between : List Dimension
    pub made : AreEqualEdges between region.shape (map non_zero_u64_get shape)
    pub finds : MatchOption found (NoneIsBelow between bound) (λ two. (two.chunks.items ≡ shape) × AreBy between two)

  -- the best two stages are chosen, by chunks of one of some shapes
  pub record AreChosen (rows : List (List NonZeroU64)) (two : TwoStages) : Type 0 where
    pub one_of : IsOneOf rows two.chunks.items
    pub between : List Dimension
    pub made : AreEqualEdges between region.shape (map non_zero_u64_get two.chunks.items)
    pub are_by : AreBy between two

  -- chunks of the shape are no better than the best two stages that were compared
  pub record IsCompared (compared : Compared) (shape : List NonZeroU64) : Type 0 where
    pub between : List Dimension
    pub made : AreEqualEdges between region.shape (map non_zero_u64_get shape)
    pub no_better : IsTrue compared.is_exact → NoneIsBelow between (best_cost compared.best)
    pub none_fit : compared.best ≡ None → NoneOfBothFit source target region at most between

  -- the stages by the chunk shape of a number are compared with the best ones before them
  pub record ComparesShape (rows : List (List NonZeroU64)) (number : ℕ) (before after : Compared) : Type 0 where
    pub shape : List NonZeroU64
    pub is_shape : IsShapeAt rows number shape
    pub found : Option TwoStages
    pub finds : FindsBoth shape (best_cost before.best) found
    pub keeps : Keeps before found after

  -- two stages by chunks of any of some shapes are exact
  abbrev pub AreExactBy : List (List NonZeroU64) → Type 0
  AreExactBy rows =
      (shape : List NonZeroU64) → IsOneOf rows shape → (between : List Dimension) → AreEqualEdges between region.shape (map non_zero_u64_get shape)
      → (two : TwoStages) → AreBy between two → IsTrue (both_are_exact two)

module _ {G H : Type 0} where
  -- the elements lie in both arrays, and there are some
  pub record CanBeStaged (source : G → List Dimension) (target : H → List Dimension) (staged : Staged G H) : Type 0 where
    pub can : CanBeMoved (array_sizes (source staged.source.now)) (array_sizes (target staged.target.now)) staged.region.now staged.moved.now.start
    pub same : staged.moved.now ≡ moved staged.moved.now.start staged.region.now
    pub some : ¬ IsEmptyBox staged.region.now
