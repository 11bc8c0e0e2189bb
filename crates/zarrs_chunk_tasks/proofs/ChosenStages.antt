-- The cheaper ones of one stage and two are the cheapest stages.
use Rattle.std.proofs.Common.{◌≡◌, ◌∙◌, ℕ, ◌<◌, ◌≤◌, ◌&&◌, IsTrue, List, [], ◌∷◌, Vec, Global, Bool, true, IfSome, MatchOption, Option, None, Some, map, refl, ap, subst, arith, ⊎_elim, Contains}
use Rattle.std.specs.Int.NonZero.{non_zero_u64_get}
use Rattle.std.specs.List.{AllZip}
use Rattle.std.specs.declared.num.NonZeroU64.{NonZeroU64}
use Rattle.zarrs_chunk_axes.specs.EqualEdges.{AreEqualEdges}
use Rattle.zarrs_chunk_base.specs.ArraySubset.{Box}
use Rattle.zarrs_chunk_base.specs.Dimension.{Dimension}
use Rattle.zarrs_chunk_tasks.specs.Cheapest.{FindsTasks, IsExactIfFew, IsOfNoTasks, OnesAreNoCheaper}
use Rattle.zarrs_chunk_tasks.specs.Edges.{AreFewPieces, IsTriedShape}
use Rattle.zarrs_chunk_tasks.specs.Stages.{AreChosenStages, BothCostAtLeast, CostAtLeast, FindsStages, Fit, IsOfEmptyRegion, IsStage, NoneFit, NoneOfBothFit, OfEachTried, StagesCostAtLeast}
use Rattle.zarrs_chunk_tasks.specs.declared.between.Compared.{Compared}
use Rattle.zarrs_chunk_tasks.specs.declared.between.TwoStages.{TwoStages}
use Rattle.zarrs_chunk_tasks.specs.declared.cheapest.CheapestTasks.{CheapestTasks}
use Rattle.zarrs_chunk_tasks.specs.declared.stages.CheapestStages.{CheapestStages}
use Rattle.zarrs_chunk_tasks.specs.declared.task.Task.{Task}
use Rattle.zarrs_chunk_tasks.specs.seen.Between.{AreBy, AreChosen, IsCompared, IsOneOf, NoneIsBelow, best_cost, cost_of_both}
use Rattle.zarrs_chunk_tasks.specs.seen.Choices.{rows_of}
use Rattle.zarrs_chunk_tasks.specs.seen.Stages.{IsOfOne, IsOfTwo, IsTheCheaper}
use Rattle.zarrs_chunk_tasks.specs.seen.TriedEdges.{rows_of_edges}
use Rattle.zarrs_chunk_tasks.proofs.OneGrid.{one_grid}
use Rattle.zarrs_chunk_tasks.proofs.TriedEdges.{edge_of_number, number_of_edge}
use Rattle.zarrs_chunk_tasks.proofs.TwoStages.{both_true, exact_at_least, lower_bound, none_below, none_fits}

-- so is a shape one of rows of them
shape_of_numbers : (rows : List (Vec NonZeroU64 Global)) (shape : List ℕ) → AllZip Contains (rows_of_edges rows) shape
    → (edges : List NonZeroU64) × IsOneOf (rows_of rows) edges × (map non_zero_u64_get edges ≡ shape)
shape_of_numbers [] [] is = ([], tt, refl)
shape_of_numbers (row ∷ rows) (edge ∷ shape) is =
    let (e, contains, same) = edge_of_number row.items edge is.0 in
    let (edges, is_one, are) = shape_of_numbers rows shape is.1 in
    (e ∷ edges, (contains, is_one), ap (λ n. n ∷ map non_zero_u64_get edges) same ∙ ap (λ ns. edge ∷ ns) are)
shape_of_numbers [] (_ ∷ _) is = absurd is
shape_of_numbers (_ ∷ _) [] is = absurd is

pub numbers_of_shape : (rows : List (Vec NonZeroU64 Global)) (shape : List NonZeroU64) → IsOneOf (rows_of rows) shape
    → AllZip Contains (rows_of_edges rows) (map non_zero_u64_get shape)
numbers_of_shape [] [] is = tt
numbers_of_shape (row ∷ rows) (edge ∷ shape) is = (number_of_edge row.items edge is.0, numbers_of_shape rows shape is.1)
numbers_of_shape [] (_ ∷ _) is = absurd is
numbers_of_shape (_ ∷ _) [] is = absurd is

module _ (source target : List Dimension) (region : Box) (at : List ℕ) (most worth : ℕ) where
  -- a cost that is no greater
  pub lower_cost : (cost less : ℕ) → less ≤ cost → CostAtLeast source target region at most worth cost → CostAtLeast source target region at most worth less
  lower_cost cost less le at_least = λ each tasks fit. let (its, is, up_to) = at_least each tasks fit in (its, is, omega (arith, up_to, le))

  lower_ones : (cost less : ℕ) → less ≤ cost → OnesAreNoCheaper source target region at worth cost → OnesAreNoCheaper source target region at worth less
  lower_ones cost less le no_cheaper = λ ones long are tasks are_tasks.
      let (its, is, up_to) = no_cheaper ones long are tasks are_tasks in (its, is, omega (arith, up_to, le))

  abbrev Both : (cost : ℕ) → List Dimension → Type 0
  Both cost between = BothCostAtLeast source target region at most between worth cost

  module _ (rows : List (Vec NonZeroU64 Global)) (are_all : Bool) (compared : Compared) (one : Option CheapestTasks)
      (found_one : FindsTasks source target region at most worth one) (one_few : IfSome one (IsExactIfFew target region at))
      (best : IfSome compared.best (AreChosen source target region at most worth (rows_of rows)))
      (each : (shape : List NonZeroU64) → IsOneOf (rows_of rows) shape → IsCompared source target region at most worth compared shape)
      (all : IsTrue are_all → (shape : List ℕ) → IsTriedShape source target region at shape → AllZip Contains (rows_of_edges rows) shape)
      (sound : (shape : List ℕ) → AllZip Contains (rows_of_edges rows) shape → IsTriedShape source target region at shape)
      (few : AreFewPieces source target region at → IsTrue are_all) where
    -- what holds of each shape that is compared holds of each that is tried
    of_tried : IsTrue are_all → (P : List Dimension → Type 0)
        → ((shape : List NonZeroU64) (is : IsCompared source target region at most worth compared shape) → P is.between) → OfEachTried source target region at P
    of_tried whole P holds = λ shape is between made.
        let (edges, is_one, same) = shape_of_numbers rows shape (all whole shape is) in
        let here = each edges is_one in
        subst P (one_grid here.between between region.shape shape (subst (AreEqualEdges here.between region.shape) same here.made) made) (holds edges here)

    found_some : (tasks : CheapestTasks) → one ≡ Some tasks → IsStage source target region at most worth tasks
    found_some tasks is = record {
      chosen = subst (FindsTasks source target region at most worth) is found_one;
      exact = subst (λ o. IfSome o (IsExactIfFew target region at)) is one_few;
    }

    found_none : one ≡ None → NoneFit source target region at most
    found_none is = none_fits source target region at most worth (subst (FindsTasks source target region at most worth) is found_one)

    -- one stage, if no two stages are found, or if they cost no less
    of_one : (tasks : CheapestTasks) (is_exact : Bool) (stages : CheapestStages) → one ≡ Some tasks → IsOfOne tasks is_exact stages
        → (IsTrue is_exact → OfEachTried source target region at (Both tasks.cost)) → AreChosenStages source target region at most worth stages
    of_one tasks is_exact stages is_one is two =
        let stage = found_some tasks is_one in
        record {
          few = rw is.no_chunks (omega arith);
          as_many = rw (is.no_chunks, is.tasks) refl;
          tried = rw is.no_chunks tt;
          are = rw (is.no_chunks, is.tasks) stage;
          cost_is = rw (is.tasks, is.cost) (omega (arith, is.fits));
          no_dearer = λ ks all_tasks fit. rw is.cost stage.chosen.choice.no_dearer;
          cheapest = λ exact.
              let both = both_true is_exact tasks.is_exact (subst IsTrue is.exact exact) in
              rw is.cost (record { one = exact_at_least source target region at most worth tasks stage.chosen both.1; two = two both.0 });
        }

    -- two stages, if one stage isn't found, or if it costs more
    of_two : (two : TwoStages) (is_exact : Bool) (stages : CheapestStages) → AreChosen source target region at most worth (rows_of rows) two
        → IsOfTwo two is_exact stages → ((ks : List NonZeroU64) (tasks : List Task) → Fit source target region at most ks tasks
        → OnesAreNoCheaper source target region at worth (cost_of_both two))
        → (IsTrue is_exact → StagesCostAtLeast source target region at most worth (cost_of_both two)) → AreChosenStages source target region at most worth stages
    of_two two is_exact stages chosen is ones least = record {
      few = rw is.chunks (omega arith);
      as_many = rw (is.chunks, is.tasks) refl;
      tried = rw is.chunks (sound (map non_zero_u64_get two.chunks.items) (numbers_of_shape rows two.chunks.items chosen.one_of), tt);
      are = rw (is.chunks, is.tasks)
          (λ between made.
          let same = one_grid chosen.between between region.shape (map non_zero_u64_get two.chunks.items) chosen.made made in
          let are_by = subst (λ ds. AreBy source target region at most worth ds two) same chosen.are_by in
          (are_by.first, are_by.second));
      cost_is = rw (is.tasks, is.cost) (omega arith);
      no_dearer = rw is.cost ones;
      cheapest = λ exact. rw is.cost (least (subst IsTrue is.exact exact));
    }

    pub finds : (is_exact : Bool) (found : Option CheapestStages) → is_exact ≡ (are_all && compared.is_exact) → IsTheCheaper one compared.best is_exact found
        → FindsStages source target region at most worth found
    finds is_exact found exact_is cheaper = by_cases one refl compared.best refl found cheaper
      where
        whole : IsTrue is_exact → IsTrue are_all × IsTrue compared.is_exact
        whole exact = both_true are_all compared.is_exact (subst IsTrue exact_is exact)

        below : IsTrue is_exact → (two : TwoStages) → compared.best ≡ Some two → OfEachTried source target region at (Both (cost_of_both two))
        below exact two is =
            of_tried (whole exact).0 (Both (cost_of_both two))
            (λ shape here. subst (λ best. NoneIsBelow source target region at most worth here.between (best_cost best)) is (here.no_better (whole exact).1))

        chosen_two : (two : TwoStages) → compared.best ≡ Some two → AreChosen source target region at most worth (rows_of rows) two
        chosen_two two some = subst (λ b. IfSome b (AreChosen source target region at most worth (rows_of rows))) some best

        by_cases : (first : Option CheapestTasks) → one ≡ first → (second : Option TwoStages) → compared.best ≡ second → (found : Option CheapestStages)
            → IsTheCheaper first second is_exact found → FindsStages source target region at most worth found
        by_cases None none None no_two found is =
            rw is
            (record {
              one = found_none none;
              two = λ pieces. of_tried (few pieces) (NoneOfBothFit source target region at most) (λ shape here. here.none_fit no_two);
            })
        by_cases (Some tasks) some None no_two (Some stages) is =
            of_one tasks is_exact stages some is
            (λ exact. of_tried (whole exact).0 (Both tasks.cost)
            (λ shape here. none_below source target region at most worth here.between (here.none_fit no_two) (Some tasks.cost)))
        by_cases None none (Some two) some (Some stages) is =
            of_two two is_exact stages (chosen_two two some) is (λ ks tasks fit. absurd (found_none none ks tasks fit))
            (λ exact. record { one = λ ks tasks fit. absurd (found_none none ks tasks fit); two = below exact two some })
        by_cases (Some tasks) is_one (Some two) some (Some stages) is =
            ⊎_elim
            (λ (first : IsOfOne tasks is_exact stages × (tasks.cost ≤ cost_of_both two)).
            of_one tasks is_exact stages is_one first.0
            (λ exact shape tried between made.
            lower_bound source target region at most worth between (cost_of_both two) tasks.cost first.1 (below exact two some shape tried between made)))
            (λ (second : IsOfTwo two (is_exact && tasks.is_exact) stages × (cost_of_both two < tasks.cost)).
            let stage = found_some tasks is_one in
            of_two two (is_exact && tasks.is_exact) stages (chosen_two two some) second.0
            (λ ks all_tasks fit. lower_ones tasks.cost (cost_of_both two) (omega (arith, second.1)) stage.chosen.choice.no_dearer)
            (λ exact.
            let both = both_true is_exact tasks.is_exact exact in
            record {
              one =
                  lower_cost tasks.cost (cost_of_both two) (omega (arith, second.1))
                  (exact_at_least source target region at most worth tasks stage.chosen both.1);
              two = below both.0 two some;
            })) is
        by_cases (Some tasks) some None no_two None is = absurd is
        by_cases None none (Some two) some None is = absurd is
        by_cases (Some tasks) is_one (Some two) some None is = absurd is

-- ---- no elements

pub of_nothing : (source : List Dimension) (one : Option CheapestTasks) (found : Option CheapestStages) → MatchOption one ⊥ (IsOfNoTasks source)
    → IfSome one (λ tasks. MatchOption found ⊥ (IsOfOne tasks true)) → MatchOption found ⊥ (IsOfEmptyRegion source)
of_nothing source None found none is = absurd none
of_nothing source (Some tasks) None none is = absurd is
of_nothing source (Some tasks) (Some stages) none is = record {
  no_chunks = is.no_chunks;
  one = (tasks, is.tasks, none);
  cost = is.cost ∙ none.cost;
  is_exact = is.exact ∙ none.is_exact;
}
