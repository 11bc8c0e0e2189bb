-- The cheapest two stages, by one intermediate array.
use Rattle.std.proofs.Common.{◌≡◌, ◌∙◌, ℕ, zero, suc, ◌+◌, ◌*◌, ◌/◌, ◌%◌, ◌<◌, ◌≤◌, IsTrue, List, [], ◌∷◌, ◌++◌, Vec, Global, Bool, true, false, IfSome, MatchOption, Option, None, Some, drop, length, map, min, slice_index_or, refl, ap, ap₂, subst, sym, arith, ⊎_elim, ◌&&◌, replicate}
use Rattle.std.proofs.Math.Nat.{div-eq_of_lt-le, mod-add-div', mod-lt, mul-le-mul_right, mul_comm}
use Rattle.std.proofs.lemmas.List.{append-nil, drop_all, length-map}
use Rattle.std.proofs.lemmas.Bool.{and_from, cases_lt, true≢false}
use Rattle.std.specs.Int.NonZero.{non_zero_u64_get}
use Rattle.std.specs.declared.num.NonZeroU64.{NonZeroU64}
use Rattle.zarrs_chunk_base.specs.ArraySubset.{Box}
use Rattle.zarrs_chunk_base.specs.Dimension.{Dimension, array_sizes}
use Rattle.zarrs_chunk_axes.specs.EqualEdges.{AreEqualEdges}
use Rattle.zarrs_chunk_plan.specs.Counts.{product}
use Rattle.zarrs_chunk_plan.specs.ArrayBoxes.{array_box}
use Rattle.zarrs_chunk_plan.specs.Region.{CanBeMoved, EndWithin}
use Rattle.zarrs_chunk_plan.proofs.MovedBoxes.{whole_within}
use Rattle.zarrs_chunk_tasks.specs.Cheapest.{FindsTasks, IsChosen}
use Rattle.zarrs_chunk_tasks.specs.Counts.{greatest_of_128}
use Rattle.zarrs_chunk_tasks.specs.Stages.{BothCostAtLeast, CostAtLeast, NoneFit, NoneOfBothFit}
use Rattle.zarrs_chunk_tasks.specs.declared.between.Compared.{Compared}
use Rattle.zarrs_chunk_tasks.specs.declared.between.TwoStages.{TwoStages}
use Rattle.zarrs_chunk_tasks.specs.declared.cheapest.CheapestTasks.{CheapestTasks}
use Rattle.zarrs_chunk_tasks.specs.seen.Between.{AreBy, AreChosen, AreExactBy, FindsBoth, IsCheaper, IsCompared, IsOneOf, IsShapeAt, Keeps, KeepsOne, NoneIsBelow, best_cost, both_are_exact, cost_of_both}
use Rattle.zarrs_chunk_tasks.specs.seen.Choices.{IsBelow, rows_of}
use Rattle.zarrs_chunk_tasks.proofs.ThinnedRows.{HaveSome}

-- ---- shapes

-- the shape of a number so far: what comes after it is the shape of what is left of the number
abbrev pub IsShapeTo : List (List NonZeroU64) → (number k left : ℕ) → List NonZeroU64 → Type 0
IsShapeTo rows number k left shape = (rest : List NonZeroU64) → IsShapeAt (drop k rows) left rest → IsShapeAt rows number (shape ++ rest)

drop_row : (rows : List (Vec NonZeroU64 Global)) (k : ℕ) (row : Vec NonZeroU64 Global) → k < length rows → row ≡ slice_index_or rows k row
    → drop k (rows_of rows) ≡ row.items ∷ drop (k + 1) (rows_of rows)
drop_row (r ∷ rows) zero row within is = ap (λ (v : Vec NonZeroU64 Global). v.items ∷ rows_of rows) (sym is)
drop_row (r ∷ rows) (suc k) row within is = let next : suc k + 1 ≡ suc (k + 1) = omega arith in rw next (drop_row rows k row (omega arith) is)
drop_row [] k row within is = absurd (omega arith)

pub one_edge_more : (rows : List (Vec NonZeroU64 Global)) (number k left : ℕ) (row : Vec NonZeroU64 Global) (edge : NonZeroU64) (shape : List NonZeroU64)
    → k < length rows → row ≡ slice_index_or rows k row → edge ≡ slice_index_or row.items (left % length row.items) edge
    → IsShapeTo (rows_of rows) number k left shape → IsShapeTo (rows_of rows) number (k + 1) (left / length row.items) (shape ++ edge ∷ [])
one_edge_more rows number k left row edge shape within is edge_is so_far = λ rest are.
    let here : IsShapeAt (row.items ∷ drop (k + 1) (rows_of rows)) left (edge ∷ rest) = (sym edge_is, are) in
    let whole = so_far (edge ∷ rest) (subst (λ r. IsShapeAt r left (edge ∷ rest)) (sym (drop_row rows k row within is)) here) in
    subst (IsShapeAt (rows_of rows) number) (appended shape edge rest) whole
  where
    appended : (shape : List NonZeroU64) (edge : NonZeroU64) (rest : List NonZeroU64) → shape ++ edge ∷ rest ≡ (shape ++ edge ∷ []) ++ rest
    appended [] edge rest = refl
    appended (e ∷ shape) edge rest = ap (λ s. e ∷ s) (appended shape edge rest)

pub some_in_row : (rows : List (Vec NonZeroU64 Global)) (k : ℕ) (row : Vec NonZeroU64 Global) → HaveSome (rows_of rows) → k < length rows
    → row ≡ slice_index_or rows k row → 0 < length row.items
some_in_row (r ∷ rows) zero row some within is = rw is some.0
some_in_row (r ∷ rows) (suc k) row some within is = some_in_row rows k row some.1 (omega arith) is
some_in_row [] k row some within is = absurd (omega arith)

-- all edges are there
pub no_more_edges : (rows : List (Vec NonZeroU64 Global)) (number k left : ℕ) (shape : List NonZeroU64) → length rows ≤ k
    → IsShapeTo (rows_of rows) number k left shape → IsShapeAt (rows_of rows) number shape
no_more_edges rows number k left shape long so_far =
    let none : drop k (rows_of rows) ≡ [] = drop_all k (rows_of rows) (omega (arith, long, length-map rows (λ (row : Vec NonZeroU64 Global). row.items))) in
    subst (IsShapeAt (rows_of rows) number) (append-nil shape) (so_far [] (subst (λ r. IsShapeAt r left []) (sym none) tt))

-- another default gives the same element
same_at : {X : Type 0} (xs : List X) (k : ℕ) (x y : X) → k < length xs → slice_index_or xs k x ≡ slice_index_or xs k y
same_at (x ∷ xs) zero y z within = refl
same_at (x ∷ xs) (suc k) y z within = same_at xs k y z (omega arith)
same_at [] k y z within = absurd (omega arith)

mod_below : (number many : ℕ) → 0 < many → number % many < many
mod_below number many some = mod-lt number some

-- it has as many edges as there are rows
pub one_each : (rows : List (Vec NonZeroU64 Global)) (number : ℕ) (shape : List NonZeroU64) → IsShapeAt (rows_of rows) number shape → length shape ≡ length rows
one_each [] number [] is = refl
one_each (row ∷ rows) number (e ∷ shape) is = ap suc (one_each rows (number / length row.items) shape is.1)
one_each [] number (_ ∷ _) is = absurd is
one_each (_ ∷ _) number [] is = absurd is

-- a number has one shape
pub one_shape : (rows : List (List NonZeroU64)) (number : ℕ) (shape other : List NonZeroU64) → HaveSome rows → IsShapeAt rows number shape
    → IsShapeAt rows number other → shape ≡ other
one_shape [] number [] [] some is are = refl
one_shape (row ∷ rows) number (e ∷ shape) (f ∷ other) some is are =
    let same : e ≡ f = sym is.0 ∙ same_at row (number % length row) e f (mod_below number (length row) some.0) ∙ are.0 in
    ap₂ (λ x xs. x ∷ xs) same (one_shape rows (number / length row) shape other some.1 is.1 are.1)
one_shape [] number (_ ∷ _) other some is are = absurd is
one_shape [] number [] (_ ∷ _) some is are = absurd are
one_shape (_ ∷ _) number [] other some is are = absurd is
one_shape (_ ∷ _) number (_ ∷ _) [] some is are = absurd are

-- the shape of a number is one of them
pub is_one_of : (rows : List (List NonZeroU64)) (number : ℕ) (shape : List NonZeroU64) → HaveSome rows → IsShapeAt rows number shape → IsOneOf rows shape
is_one_of [] number [] some is = tt
is_one_of (row ∷ rows) number (e ∷ shape) some is =
    ((number % length row, mod_below number (length row) some.0, is.0), is_one_of rows (number / length row) shape some.1 is.1)
is_one_of [] number (_ ∷ _) some is = absurd is
is_one_of (_ ∷ _) number [] some is = absurd is

-- each of the shapes has a number
pub has_number : (rows : List (List NonZeroU64)) (shape : List NonZeroU64) → IsOneOf rows shape
    → (number : ℕ) × (number < product (map length rows)) × IsShapeAt rows number shape
has_number [] [] is = (0, omega arith, tt)
has_number (row ∷ rows) (edge ∷ shape) ((k, within, at), rest) =
    let (number, below, is) = has_number rows shape rest in
    let many = length row in
    let next : (number + 1) * many ≡ number * many + many = omega arith in
    let quotient : (number * many + k) / many ≡ number = div-eq_of_lt-le many (omega arith) (omega (arith, next)) in
    let parts = mod-add-div' (number * many + k) many in
    let whole : (number * many + k) / many * many ≡ number * many = ap (λ q. q * many) quotient in
    let remainder : (number * many + k) % many ≡ k = omega (arith, parts, whole) in
    let up = mul-le-mul_right {m = number + 1} {n = product (map length rows)} many (omega arith) in
    let swap = mul_comm many (product (map length rows)) in
    (number * many + k, omega (arith, up, swap, next), (ap (λ r. slice_index_or row r edge) remainder ∙ at, subst (λ n. IsShapeAt rows n shape) (sym quotient) is))
has_number [] (_ ∷ _) is = absurd is
has_number (_ ∷ _) [] is = absurd is

-- ---- costs

pub both_true : (a b : Bool) → IsTrue (a && b) → IsTrue a × IsTrue b
both_true true true both = (refl, refl)
both_true true false both = absurd (true≢false (sym both))
both_true false b both = absurd (true≢false (sym both))

is_some : {X : Type 0} {x : X} → Some x ≡ None → ⊥
is_some same = subst (λ o. MatchOption o ⊥ (λ _. Unit {0})) same tt

module _ (source target : List Dimension) (region : Box) (at : List ℕ) (most worth : ℕ) where
  -- tasks that are chosen, and exact, cost the least
  pub exact_at_least : (chosen : CheapestTasks) → FindsTasks source target region at most worth (Some chosen) → IsTrue chosen.is_exact
      → CostAtLeast source target region at most worth chosen.cost
  exact_at_least chosen found exact = λ each tasks fit.
      let is : IsChosen source target region at found.largest most worth chosen = found.choice in
      is.cheapest exact each fit.long tasks fit.are_tasks (fit.hold found.largest found.is_largest)

  -- none fit where none are found
  pub none_fits : FindsTasks source target region at most worth None → NoneFit source target region at most
  none_fits found = λ each tasks fit. found.choice each fit.long tasks fit.are_tasks (fit.hold found.largest found.is_largest)

module _ (source target : List Dimension) (region : Box) (at : List ℕ) (most worth : ℕ) (between : List Dimension) where
  abbrev first_fits : ℕ → Type 0
  first_fits cost = CostAtLeast source between region (array_box between).start most worth cost

  abbrev second_fits : ℕ → Type 0
  second_fits cost = CostAtLeast between target (array_box between) at most worth cost

  pub both_at_least : (a b cost : ℕ) → first_fits a → second_fits b → cost ≤ a + b → BothCostAtLeast source target region at most between worth cost
  both_at_least a b cost first second less = λ one other tasks others fit.
      let (c, is_c, a_least) = first one tasks fit.0 in
      let (d, is_d, b_least) = second other others fit.1 in
      (c, d, is_c, is_d, omega (arith, a_least, b_least, less))

  -- where none fit, none cost less than a bound
  pub none_below : NoneOfBothFit source target region at most between → (bound : Option ℕ) → NoneIsBelow source target region at most worth between bound
  none_below none None = none
  none_below none (Some cost) = λ one other tasks others fit. absurd (none one other tasks others fit)

  pub first_none : NoneFit source between region (array_box between).start most → NoneOfBothFit source target region at most between
  first_none none = λ one other tasks others fit. none one tasks fit.0

  pub second_none : NoneFit between target (array_box between) at most → NoneOfBothFit source target region at most between
  second_none none = λ one other tasks others fit. none other others fit.1

  -- where both stages cost a bound or more together, none cost less
  pub bound_reached : (a b together : ℕ) (bound : Option ℕ) → first_fits a → second_fits b → together ≡ min (a + b) greatest_of_128
      → ¬ IsBelow bound together → NoneIsBelow source target region at most worth between bound
  bound_reached a b together None first second is reached = absurd (reached tt)
  bound_reached a b together (Some cost) first second is reached = λ one other tasks others fit.
      let (c, d, is_c, is_d, up_to) = both_at_least a b together first second (omega (arith, is)) one other tasks others fit in
      (c, d, is_c, is_d, omega (arith, up_to, not_less together cost reached))
    where
      not_less : (n m : ℕ) → ¬ (n < m) → m ≤ n
      not_less n m not = omega (arith, not)

  -- the intermediate array has the region's shape: the region goes to it, and from it
  module _ (sizes : array_sizes between ≡ region.shape) (can : CanBeMoved (array_sizes source) (array_sizes target) region at) where
    whole : EndWithin (replicate (length between) 0) (array_sizes between) (array_sizes between)
    whole =
        subst (λ n. EndWithin (replicate n 0) (array_sizes between) (array_sizes between)) (length-map between (λ (d : Dimension). d.array_size))
        (whole_within (array_sizes between))

    pub can_write : CanBeMoved (array_sizes source) (array_sizes between) region (array_box between).start
    can_write = record {
      in_source = can.in_source;
      in_target = subst (λ shape. EndWithin (replicate (length between) 0) shape (array_sizes between)) sizes whole;
    }

    pub can_read : CanBeMoved (array_sizes between) (array_sizes target) (array_box between) at
    can_read = record { in_source = whole; in_target = subst (λ shape. EndWithin at shape (array_sizes target)) (sym sizes) can.in_target }

  -- stages that are chosen, and exact, cost the least
  exact_both : (two : TwoStages) → AreBy source target region at most worth between two → IsTrue (both_are_exact two)
      → BothCostAtLeast source target region at most between worth (cost_of_both two)
  exact_both two are exact =
      let (one, other) = both_true two.first.is_exact two.second.is_exact exact in
      both_at_least two.first.cost two.second.cost (cost_of_both two)
      (exact_at_least source between region (array_box between).start most worth two.first are.first.chosen one)
      (exact_at_least between target (array_box between) at most worth two.second are.second.chosen other) (omega arith)

-- ---- comparing

module _ (source target : List Dimension) (region : Box) (at : List ℕ) (most worth : ℕ) where
  abbrev Chosen : List (List NonZeroU64) → TwoStages → Type 0
  Chosen = AreChosen source target region at most worth

  abbrev Compares : Compared → List NonZeroU64 → Type 0
  Compares = IsCompared source target region at most worth

  abbrev Finds : List NonZeroU64 → Option ℕ → Option TwoStages → Type 0
  Finds = FindsBoth source target region at most worth

  -- a bound that is no greater
  pub lower_bound : (between : List Dimension) (cost less : ℕ) → less ≤ cost → BothCostAtLeast source target region at most between worth cost
      → BothCostAtLeast source target region at most between worth less
  lower_bound between cost less le at_least = λ one other tasks others fit.
      let (a, b, is_a, is_b, up_to) = at_least one other tasks others fit in
      (a, b, is_a, is_b, omega (arith, up_to, le))

  no_dearer : (one two cheaper : TwoStages) → IsCheaper one two cheaper
      → (cost_of_both cheaper ≤ cost_of_both one) × (cost_of_both cheaper ≤ cost_of_both two)
  no_dearer one two cheaper picked =
      ⊎_elim (λ (first : (cheaper ≡ one) × (cost_of_both one ≤ cost_of_both two)). rw first.0 (omega arith, first.1))
      (λ (second : (cheaper ≡ two) × (cost_of_both two < cost_of_both one)). rw second.0 (omega (arith, second.1), omega arith)) picked

  -- what is kept is no dearer than what was kept before, and than what was found
  kept_before : (best : Option TwoStages) (two : TwoStages) (after : Option TwoStages) (between : List Dimension) → KeepsOne best two after
      → NoneIsBelow source target region at most worth between (best_cost best) → NoneIsBelow source target region at most worth between (best_cost after)
  kept_before None two after between kept none = rw kept (none_below source target region at most worth between none (Some (cost_of_both two)))
  kept_before (Some one) two after between (cheaper, picked, kept) none =
      rw kept (lower_bound between (cost_of_both one) (cost_of_both cheaper) (no_dearer one two cheaper picked).0 none)

  kept_now : (best : Option TwoStages) (two : TwoStages) (after : Option TwoStages) (between : List Dimension) → KeepsOne best two after
      → BothCostAtLeast source target region at most between worth (cost_of_both two)
      → NoneIsBelow source target region at most worth between (best_cost after)
  kept_now None two after between kept both = rw kept both
  kept_now (Some one) two after between (cheaper, picked, kept) both =
      rw kept (lower_bound between (cost_of_both two) (cost_of_both cheaper) (no_dearer one two cheaper picked).1 both)

  some_kept : (best : Option TwoStages) (two : TwoStages) (after : Option TwoStages) → KeepsOne best two after → ¬ (after ≡ None)
  some_kept None two after kept none = is_some (sym kept ∙ none)
  some_kept (Some one) two after (cheaper, picked, kept) none = is_some (sym kept ∙ none)

  pub still_compared : (before after : Compared) (found : Option TwoStages) (shape : List NonZeroU64) → Keeps before found after → Compares before shape
      → Compares after shape
  still_compared before after None shape keeps is = rw keeps is
  still_compared before after (Some two) shape keeps is = record {
    between = is.between;
    made = is.made;
    no_better = λ exact.
        kept_before before.best two after.best is.between keeps.1
        (is.no_better (both_true before.is_exact (both_are_exact two) (subst IsTrue keeps.0 exact)).0);
    none_fit = λ none. absurd (some_kept before.best two after.best keeps.1 none);
  }

  -- the shape that was looked at is compared, too
  pub now_compared : (before after : Compared) (found : Option TwoStages) (shape : List NonZeroU64) → Keeps before found after
      → Finds shape (best_cost before.best) found → Compares after shape
  now_compared before after None shape keeps finds = rw keeps (record {
    between = finds.between;
    made = finds.made;
    no_better = λ exact. finds.finds;
    none_fit = λ none. subst (λ best. NoneIsBelow source target region at most worth finds.between (best_cost best)) none finds.finds;
  })
  now_compared before after (Some two) shape keeps finds = record {
    between = finds.between;
    made = finds.made;
    no_better = λ exact.
        kept_now before.best two after.best finds.between keeps.1
        (exact_both source target region at most worth finds.between two finds.finds.1
        (both_true before.is_exact (both_are_exact two) (subst IsTrue keeps.0 exact)).1);
    none_fit = λ none. absurd (some_kept before.best two after.best keeps.1 none);
  }

  -- the best two stages are chosen
  chosen_after : (rows : List (List NonZeroU64)) (best : Option TwoStages) (two : TwoStages) (after : Option TwoStages) → KeepsOne best two after
      → Chosen rows two → IfSome best (Chosen rows) → IfSome after (Chosen rows)
  chosen_after rows None two after kept is chosen = rw kept is
  chosen_after rows (Some one) two after (cheaper, picked, kept) is chosen =
      rw kept (⊎_elim (λ (first : (cheaper ≡ one) × (cost_of_both one ≤ cost_of_both two)). rw first.0 chosen)
      (λ (second : (cheaper ≡ two) × (cost_of_both two < cost_of_both one)). rw second.0 is) picked)

  pub best_chosen : (before after : Compared) (found : Option TwoStages) (rows : List (List NonZeroU64)) (shape : List NonZeroU64) → IsOneOf rows shape
      → Keeps before found after → Finds shape (best_cost before.best) found → IfSome before.best (Chosen rows) → IfSome after.best (Chosen rows)
  best_chosen before after None rows shape one_of keeps finds chosen = rw keeps chosen
  best_chosen before after (Some two) rows shape one_of keeps finds chosen =
      let is : Chosen rows two = record {
        one_of = subst (IsOneOf rows) (sym finds.finds.0) one_of;
        between = finds.between;
        made = subst (λ edges. AreEqualEdges finds.between region.shape (map non_zero_u64_get edges)) (sym finds.finds.0) finds.made;
        are_by = finds.finds.1;
      } in
      chosen_after rows before.best two after.best keeps.1 is chosen

  -- where all two stages are exact, the best ones are
  pub still_exact : (before after : Compared) (found : Option TwoStages) (rows : List (List NonZeroU64)) (shape : List NonZeroU64) → IsOneOf rows shape
      → Keeps before found after → Finds shape (best_cost before.best) found
      → (AreExactBy source target region at most worth rows → IsTrue before.is_exact) → AreExactBy source target region at most worth rows → IsTrue after.is_exact
  still_exact before after None rows shape one_of keeps finds so_far all = subst (λ (c : Compared). IsTrue c.is_exact) (sym keeps) (so_far all)
  still_exact before after (Some two) rows shape one_of keeps finds so_far all =
      keeps.0
      ∙ and_from before.is_exact (both_are_exact two) (so_far all) (all shape one_of finds.between finds.made two finds.finds.1)

  -- the shapes up to a number are compared
  pub shapes_compared : (before after : Compared) (found : Option TwoStages) (rows : List (List NonZeroU64)) (number : ℕ) (shape : List NonZeroU64)
      → HaveSome rows → IsShapeAt rows number shape → Keeps before found after → Finds shape (best_cost before.best) found
      → ((n : ℕ) (s : List NonZeroU64) → n < number → IsShapeAt rows n s → Compares before s)
      → (n : ℕ) (s : List NonZeroU64) → n < number + 1 → IsShapeAt rows n s → Compares after s
  shapes_compared before after found rows number shape some is keeps finds so_far n s below at =
      ⊎_elim (λ (earlier : n < number). still_compared before after found s keeps (so_far n s earlier at))
      (λ (later : number ≤ n).
      let here : n ≡ number = omega (arith, below, later) in
      let same = one_shape rows number shape s some is (subst (λ m. IsShapeAt rows m s) here at) in
      subst (Compares after) same (now_compared before after found shape keeps finds)) (cases_lt n number)
