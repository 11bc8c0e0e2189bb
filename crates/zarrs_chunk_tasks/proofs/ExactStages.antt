-- The stages are exact if the pieces and the target's chunks are few.
use Rattle.std.proofs.Common.{◌≡◌, ◌∙◌, ℕ, ◌≤◌, ◌<◌, ◌&&◌, IsTrue, List, Vec, Global, Bool, IfSome, Option, None, Some, map, subst, ⊎_elim, arith}
use Rattle.std.proofs.lemmas.Bool.{and_from}
use Rattle.std.specs.Int.NonZero.{non_zero_u64_get}
use Rattle.std.specs.List.{AllByRecursion, AllZip, Contains}
use Rattle.std.specs.declared.num.NonZeroU64.{NonZeroU64}
use Rattle.zarrs_chunk_base.specs.ArraySubset.{Box, IsBox, IsEmptyBox, ends}
use Rattle.zarrs_chunk_base.specs.Dimension.{Dimension, IsChain, array_sizes}
use Rattle.zarrs_chunk_parts.specs.Plan.{Covers}
use Rattle.zarrs_chunk_plan.specs.Counts.{product}
use Rattle.zarrs_chunk_plan.specs.ArrayBoxes.{array_box}
use Rattle.zarrs_chunk_plan.specs.Region.{LiesIn, moved}
use Rattle.zarrs_chunk_plan.proofs.MovedBoxes.{within_below}
use Rattle.zarrs_chunk_plan.proofs.SomePlan.{array_homes, covers_all}
use Rattle.zarrs_chunk_tasks.specs.Cheapest.{FindsTasks, IsExactIfFew, most_choices, most_sizes}
use Rattle.zarrs_chunk_tasks.specs.Edges.{AreFewPieces, IsTriedShape}
use Rattle.zarrs_chunk_tasks.specs.Stages.{AreExactIfFew}
use Rattle.zarrs_chunk_tasks.specs.declared.between.Compared.{Compared}
use Rattle.zarrs_chunk_tasks.specs.declared.between.TwoStages.{TwoStages}
use Rattle.zarrs_chunk_tasks.specs.declared.cheapest.CheapestTasks.{CheapestTasks}
use Rattle.zarrs_chunk_tasks.specs.declared.stages.CheapestStages.{CheapestStages}
use Rattle.zarrs_chunk_tasks.specs.seen.Between.{AreExactBy, cost_of_both}
use Rattle.zarrs_chunk_tasks.specs.seen.Choices.{rows_of}
use Rattle.zarrs_chunk_tasks.specs.seen.Stages.{IsOfOne, IsOfTwo, IsTheCheaper}
use Rattle.zarrs_chunk_tasks.specs.seen.TriedEdges.{rows_of_edges}
use Rattle.zarrs_chunk_tasks.proofs.ChosenStages.{lower_cost, numbers_of_shape}
use Rattle.zarrs_chunk_tasks.proofs.FewPieces.{few_between}
use Rattle.zarrs_chunk_tasks.proofs.OneGrid.{sizes_are}
use Rattle.zarrs_chunk_tasks.proofs.TriedEdges.{one_cover}
use Rattle.zarrs_chunk_tasks.proofs.TwoStages.{exact_at_least, none_fits}

module _ (source target : List Dimension) (region : Box) (at : List ℕ) (most worth : ℕ) (is_region : IsBox region) (is_moved : IsBox (moved at region))
    (some : ¬ IsEmptyBox region) (chains : AllByRecursion IsChain target) (lies : LiesIn (moved at region) (array_sizes target)) where
  -- tasks are exact if the target's chunks are few, whichever cover tells it
  exact_by_cover : (tasks : CheapestTasks) → IsExactIfFew target region at tasks → (cover : Box) → Covers target (moved at region) cover
      → AllByRecursion (λ n. n ≤ most_sizes) (ends cover.start cover.shape) → product (ends cover.start cover.shape) ≤ most_choices → IsTrue tasks.is_exact
  exact_by_cover tasks is cover covers few up_to =
      let same : cover ≡ is.cover = one_cover target (moved at region) cover is.cover is_moved some covers is.is_cover in
      is.exact (subst (λ (c : Box). AllByRecursion (λ n. n ≤ most_sizes) (ends c.start c.shape)) same few)
      (subst (λ (c : Box). product (ends c.start c.shape) ≤ most_choices) same up_to)

  module _ (rows : List (Vec NonZeroU64 Global)) (are_all : Bool) (compared : Compared) (one : Option CheapestTasks)
      (found_one : FindsTasks source target region at most worth one) (one_few : IfSome one (IsExactIfFew target region at))
      (sound : (shape : List ℕ) → AllZip Contains (rows_of_edges rows) shape → IsTriedShape source target region at shape)
      (few : AreFewPieces source target region at → IsTrue are_all)
      (all_exact : AreExactBy source target region at most worth (rows_of rows) → IsTrue compared.is_exact) where
    -- where the pieces and the target's chunks are few, all two stages are exact
    two_exact : (cover : Box) → Covers target (moved at region) cover → AreFewPieces source target region at
        → AllByRecursion (λ n. n ≤ most_sizes) (ends cover.start cover.shape) → product (ends cover.start cover.shape) ≤ most_choices
        → AreExactBy source target region at most worth (rows_of rows)
    two_exact cover covers pieces few_ends up_to = λ shape one_of between made two are_by.
        let edges = map non_zero_u64_get shape in
        let tried = sound edges (numbers_of_shape rows shape one_of) in
        let first = are_by.first.exact in
        let (each, all) = few_between source target region at between edges first.cover some is_region is_moved pieces tried made first.is_cover in
        let sizes = sizes_are between region.shape edges made in
        let second = subst (λ shape. IsExactIfFew target (record { start = (array_box between).start; shape = shape }) at two.second) sizes are_by.second.exact in
        and_from two.first.is_exact two.second.is_exact (first.exact each all) (exact_by_cover two.second (record { cover = second.cover; is_cover = second.is_cover; exact = second.exact }) cover covers few_ends up_to)

    pub exact_if_few : (is_exact : Bool) (found : Option CheapestStages) → is_exact ≡ (are_all && compared.is_exact) → IsTheCheaper one compared.best is_exact found
        → IfSome found (AreExactIfFew source target region at most worth)
    exact_if_few is_exact found exact_is cheaper =
        let homes = array_homes target chains (moved at region) (λ index inside. within_below at region.shape (array_sizes target) index lies inside) in
        let (cover, covers) = covers_all target chains (moved at region) is_moved homes in
        by_cases cover covers one found_one one_few compared.best found cheaper
      where
        all_few : (cover : Box) → Covers target (moved at region) cover → AreFewPieces source target region at
            → AllByRecursion (λ n. n ≤ most_sizes) (ends cover.start cover.shape) → product (ends cover.start cover.shape) ≤ most_choices → IsTrue is_exact
        all_few cover covers pieces few_ends up_to =
            exact_is ∙ and_from are_all compared.is_exact (few pieces) (all_exact (two_exact cover covers pieces few_ends up_to))

        of_first : (cover : Box) → Covers target (moved at region) cover → (tasks : CheapestTasks) → FindsTasks source target region at most worth (Some tasks)
            → IsExactIfFew target region at tasks → (stages : CheapestStages) → IsOfOne tasks is_exact stages
            → AreExactIfFew source target region at most worth stages
        of_first cover covers tasks found first_few stages is = record {
          cover = cover;
          is_cover = covers;
          no_dearer = λ few_ends up_to.
              rw is.cost (exact_at_least source target region at most worth tasks found (exact_by_cover tasks first_few cover covers few_ends up_to));
          exact = λ pieces few_ends up_to.
              is.exact
              ∙ and_from is_exact tasks.is_exact (all_few cover covers pieces few_ends up_to) (exact_by_cover tasks first_few cover covers few_ends up_to);
        }

        by_cases : (cover : Box) → Covers target (moved at region) cover → (first : Option CheapestTasks) → FindsTasks source target region at most worth first
            → IfSome first (IsExactIfFew target region at) → (second : Option TwoStages) → (found : Option CheapestStages) → IsTheCheaper first second is_exact found
            → IfSome found (AreExactIfFew source target region at most worth)
        by_cases cover covers None found_first first_few None found is = rw is tt
        by_cases cover covers (Some tasks) found_first first_few None (Some stages) is = of_first cover covers tasks found_first first_few stages is
        by_cases cover covers None found_first first_few (Some two) (Some stages) is = record {
          cover = cover;
          is_cover = covers;
          no_dearer = λ few_ends up_to each tasks fit. absurd (none_fits source target region at most worth found_first each tasks fit);
          exact = λ pieces few_ends up_to. is.exact ∙ all_few cover covers pieces few_ends up_to;
        }
        by_cases cover covers (Some tasks) found_first first_few (Some two) (Some stages) is =
            ⊎_elim (λ (first : IsOfOne tasks is_exact stages × (tasks.cost ≤ cost_of_both two)). of_first cover covers tasks found_first first_few stages first.0)
            (λ (second : IsOfTwo two (is_exact && tasks.is_exact) stages × (cost_of_both two < tasks.cost)).
            record {
              cover = cover;
              is_cover = covers;
              no_dearer = λ few_ends up_to.
                  rw second.0.cost
                  (lower_cost source target region at most worth tasks.cost (cost_of_both two) (omega (arith, second.1))
                  (exact_at_least source target region at most worth tasks found_first (exact_by_cover tasks first_few cover covers few_ends up_to)));
              exact = λ pieces few_ends up_to.
                  second.0.exact
                  ∙ and_from is_exact tasks.is_exact (all_few cover covers pieces few_ends up_to) (exact_by_cover tasks first_few cover covers few_ends up_to);
            }) is
        by_cases cover covers (Some tasks) found_first first_few None None is = absurd is
        by_cases cover covers None found_first first_few (Some two) None is = absurd is
        by_cases cover covers (Some tasks) found_first first_few (Some two) None is = absurd is
