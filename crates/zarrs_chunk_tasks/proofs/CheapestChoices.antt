-- The cheapest choice of one size from each of some rows.
use Rattle.std.proofs.Common.{◌≡◌, ◌∙◌, ℕ, zero, suc, ◌+◌, ◌*◌, ◌/◌, ◌<◌, ◌≤◌, List, [], ◌∷◌, ◌++◌, Option, None, Some}
use Rattle.std.proofs.Common.{IfSome, MatchOption, ap, ap₂, arith, length, map, min, refl, slice_index_or, subst, sym, ⊎_elim, le-div_iff_mul-le, mul_assoc, mul_comm}
use Rattle.std.proofs.Math.Nat.{le-mul_of_pos_right, mul-pos, mul-suc}
use Rattle.std.proofs.lemmas.Bool.{cases_lt}
use Rattle.std.proofs.lemmas.List.{map-append, reverse-append}
use Rattle.std.proofs.lemmas.List.Elements.{All-contains, All-from_recursion, Contains-append_left, Contains-push, Contains-push_cases}
use Rattle.std.specs.Int.NonZero.{non_zero_u64_get}
use Rattle.std.specs.List.{AllByRecursion}
use Rattle.zarrs_chunk_plan.specs.Counts.{product}
use Rattle.zarrs_chunk_tasks.specs.declared.choices.Choice.{Choice}
use Rattle.zarrs_chunk_tasks.specs.declared.sizes.Size.{Size}
use Rattle.zarrs_chunk_tasks.specs.seen.Choices.{FindsCheapest, IsBelow, IsCheapestChoice, IsChoice, bound_after, capped_cost, first_of, held}
use Rattle.zarrs_chunk_tasks.specs.seen.Sizes.{each_of}
use Rattle.zarrs_chunk_tasks.specs.Counts.{greatest_of_128}

-- ---- products up to a greatest number

-- a factor that is cut at the greatest number makes no difference where what comes of it is cut, too
capped : (g x p rest : ℕ) → min g (min x g * p + rest) ≡ min g (x * p + rest)
capped g x p rest =
    ⊎_elim
    (λ (more : g < x). past p more)
    (λ (le : x ≤ g). let same : min x g ≡ x = omega arith in rw same refl)
    (cases_lt g x) where
      past : (p : ℕ) → g < x → min g (min x g * p + rest) ≡ min g (x * p + rest)
      past zero more = omega arith
      past (suc p) more =
          let same : min x g ≡ g = omega arith in
          let one = mul-suc g p in
          let other = mul-suc x p in
          rw same (omega (arith, one, other))

both_capped : (g x p y q : ℕ) → min g (min x g * p + min y g * q) ≡ min g (x * p + y * q)
both_capped g x p y q =
    let swap : x * p + min y g * q ≡ min y g * q + x * p = omega arith in
    let back : y * q + x * p ≡ x * p + y * q = omega arith in
    capped g x p (min y g * q) ∙ ap (min g) swap ∙ capped g y q (x * p) ∙ ap (min g) back

-- a product of four numbers, the first two of which are multiplied first
regrouped : (r c p w : ℕ) → r * c * (p * w) ≡ r * (c * p) * w
regrouped r c p w = mul_assoc r c (p * w) ∙ ap (λ n. r * n) (sym (mul_assoc c p w)) ∙ sym (mul_assoc r (c * p) w)

capped_costs : (g r c p w d e q : ℕ) → min g (min (r * c) g * p * w + min (d * e) g * q) ≡ min g (r * (c * p) * w + d * (e * q))
capped_costs g r c p w d e q =
    ap (λ n. min g (n + min (d * e) g * q)) (mul_assoc (min (r * c) g) p w)
    ∙ both_capped g (r * c) (p * w) (d * e) q
    ∙ ap₂ (λ n m. min g (n + m)) (regrouped r c p w) (mul_assoc d e q)

-- what a choice costs, with a size before it
pub cost_with : (worth read decoded : ℕ) (s : Size) (choice : List Size)
    → capped_cost worth (min (read * s.chunks) greatest_of_128) (min (decoded * s.elements) greatest_of_128) choice
    ≡ capped_cost worth read decoded (s ∷ choice)
cost_with worth read decoded s choice =
    capped_costs greatest_of_128 read s.chunks (product (map (λ (other : Size). other.chunks) choice)) worth decoded s.elements
    (product (map (λ (other : Size). other.elements) choice))

-- ---- what fits

-- the largest buffer of a choice has an element
pub some_held : (rows : List (List Size)) → AllByRecursion (AllByRecursion (λ (s : Size). 0 < s.largest)) rows → (choice : List Size)
    → IsChoice rows choice → 0 < held choice
some_held [] some [] chosen = omega arith
some_held [] some (s ∷ choice) chosen = absurd chosen
some_held (row ∷ rows) some [] chosen = absurd chosen
some_held (row ∷ rows) some (s ∷ choice) (in_row, chosen) =
    let here = All-contains (λ (s : Size). 0 < s.largest) row s (All-from_recursion _ row some.0) in_row in
    mul-pos here (some_held rows some.1 choice chosen)

-- the largest buffer of a size has an element
pub some_largest : (row : List Size) (k : ℕ) (s : Size) → AllByRecursion (λ (s : Size). 0 < s.largest) row → k < length row
    → s ≡ slice_index_or row k s → 0 < s.largest
some_largest row k s some within is = All-contains (λ (s : Size). 0 < s.largest) row s (All-from_recursion _ row some) (k, within, sym is)

-- a choice fits in what a size before it leaves where both fit
fits_with : (room : ℕ) (s : Size) (choice : List Size) → 0 < s.largest → held (s ∷ choice) ≤ room → held choice ≤ room / s.largest
fits_with room s choice some fits = (le-div_iff_mul-le some).1 (let swap = mul_comm s.largest (held choice) in omega (arith, swap))

with_fits : (room : ℕ) (s : Size) (choice : List Size) → 0 < s.largest → held choice ≤ room / s.largest → held (s ∷ choice) ≤ room
with_fits room s choice some fits = let swap = mul_comm s.largest (held choice) in omega (arith, swap, (le-div_iff_mul-le some).0 fits)

-- ---- bounds

at_least : (cost most : ℕ) → ¬ (cost < most) → most ≤ cost
at_least cost most dear = ⊎_elim (λ (less : cost < most). absurd (dear less)) (λ (le : most ≤ cost). le) (cases_lt cost most)

-- what is less than a bound costs no more than what isn't
no_more : (bound : Option ℕ) (cost other : ℕ) → IsBelow bound cost → ¬ IsBelow bound other → cost ≤ other
no_more None cost other below dear = absurd (dear tt)
no_more (Some most) cost other below dear = let most_at_most = at_least other most dear in omega arith

lower : (bound : Option ℕ) (cost other : ℕ) → IsBelow bound cost → other < cost → IsBelow bound other
lower None cost other below less = tt
lower (Some most) cost other below less = omega arith

-- ---- rows

-- what is found with a size is what was found, with the size behind it
pub data IsWith (s : Size) (found with : Option Choice) : Type 0 where
  with_none : found ≡ None → with ≡ None → IsWith s found with
  with_some : (before after : Choice) → found ≡ Some before → with ≡ Some after
      → map non_zero_u64_get after.each.items ≡ map non_zero_u64_get before.each.items ++ each_of s ∷ [] → after.cost ≡ before.cost → IsWith s found with

pub is_with : (s : Size) (found with : Option Choice) → (found ≡ None → with ≡ None)
    → IfSome found (λ before. MatchOption with ⊥ (λ after. (after.each.items ≡ before.each.items ++ s.each ∷ []) × (after.cost ≡ before.cost)))
    → IsWith s found with
is_with s None with of_none of_some = with_none refl (of_none refl)
is_with s (Some before) None of_none of_some = absurd of_some
is_with s (Some before) (Some after) of_none (each, cost) =
    with_some before after refl refl (ap (map non_zero_u64_get) each ∙ map-append non_zero_u64_get before.each.items (s.each ∷ [])) cost

module _ (rows : List (List Size)) (room worth read decoded : ℕ) (bound : Option ℕ) where
  -- of no sizes
  pub of_none : FindsCheapest ([] ∷ rows) room worth read decoded bound None
  of_none [] chosen = absurd chosen
  of_none (c ∷ choice) ((k, within, is), chosen) = absurd (omega arith)

  module _ (part : List Size) (s : Size) where
    -- a choice from a row of one more size has that size, or one of those before
    by_size : (P : List Size → Type 0) → ((choice : List Size) → IsChoice (part ∷ rows) choice → P choice)
        → ((choice : List Size) → IsChoice rows choice → P (s ∷ choice)) → (choice : List Size) → IsChoice ((part ++ s ∷ []) ∷ rows) choice → P choice
    by_size P before last [] chosen = absurd chosen
    by_size P before last (c ∷ choice) (in_row, chosen) =
        ⊎_elim (λ here. before (c ∷ choice) (here, chosen)) (λ is. subst (λ x. P (x ∷ choice)) is (last choice chosen)) (Contains-push_cases part s c in_row)

    -- what is found in some sizes of a row stays the cheapest, where no choice of the next size costs less
    stays : (best : Option Choice) → FindsCheapest (part ∷ rows) room worth read decoded bound best
        → ((choice : List Size) → IsChoice rows choice → held (s ∷ choice) ≤ room
        → ¬ IsBelow (bound_after bound best) (capped_cost worth read decoded (s ∷ choice)))
        → FindsCheapest ((part ++ s ∷ []) ∷ rows) room worth read decoded bound best
    stays None finds dear = by_size (λ choice. held choice ≤ room → ¬ IsBelow bound (capped_cost worth read decoded choice)) finds dear
    stays (Some best) finds dear = record {
      choice = finds.choice;
      is_choice = more finds.choice finds.is_choice;
      are_each = finds.are_each;
      fits = finds.fits;
      cost_is = finds.cost_is;
      below = finds.below;
      least =
          by_size (λ choice. held choice ≤ room → best.cost ≤ capped_cost worth read decoded choice) finds.least
          (λ choice chosen fits. at_least _ best.cost (dear choice chosen fits));
    } where
      more : (choice : List Size) → IsChoice (part ∷ rows) choice → IsChoice ((part ++ s ∷ []) ∷ rows) choice
      more [] chosen = absurd chosen
      more (c ∷ choice) (in_part, chosen) = (Contains-append_left part (s ∷ []) c in_part, chosen)

    -- what costs less than the best so far is below the bound
    below_bound : (best : Option Choice) → FindsCheapest (part ∷ rows) room worth read decoded bound best → (cost : ℕ)
        → IsBelow (bound_after bound best) cost → IsBelow bound cost
    below_bound None finds cost below = below
    below_bound (Some best) finds cost below = lower bound best.cost cost finds.below below

    -- and costs no more than what the sizes so far cost
    no_more_than : (best : Option Choice) → FindsCheapest (part ∷ rows) room worth read decoded bound best → (cost : ℕ)
        → IsBelow (bound_after bound best) cost → (other : List Size) → IsChoice (part ∷ rows) other → held other ≤ room
        → cost ≤ capped_cost worth read decoded other
    no_more_than None finds cost below other chosen fits = no_more bound cost _ below (finds other chosen fits)
    no_more_than (Some best) finds cost below other chosen fits = let least = finds.least other chosen fits in omega arith

    -- what is cheaper with the next size is the cheapest
    replaces : (best : Option Choice) (before after : Choice) → 0 < s.largest → FindsCheapest (part ∷ rows) room worth read decoded bound best
        → map non_zero_u64_get after.each.items ≡ map non_zero_u64_get before.each.items ++ each_of s ∷ [] → after.cost ≡ before.cost
        → IsCheapestChoice rows (room / s.largest) worth (min (read * s.chunks) greatest_of_128) (min (decoded * s.elements) greatest_of_128)
        (bound_after bound best) (map non_zero_u64_get before.each.items) before.cost
        → IsCheapestChoice ((part ++ s ∷ []) ∷ rows) room worth read decoded bound (map non_zero_u64_get after.each.items) after.cost
    replaces best before after some finds each cost was = record {
      choice = s ∷ was.choice;
      is_choice = (Contains-push part s, was.is_choice);
      are_each = each ∙ ap (λ xs. xs ++ each_of s ∷ []) was.are_each ∙ sym (reverse-append (each_of s ∷ []) (map each_of was.choice));
      fits = with_fits room s was.choice some was.fits;
      cost_is = cost ∙ was.cost_is ∙ cost_with worth read decoded s was.choice;
      below = below_bound best finds after.cost below;
      least =
          by_size (λ choice. held choice ≤ room → after.cost ≤ capped_cost worth read decoded choice) (no_more_than best finds after.cost below)
          (λ choice chosen fits.
          let least = was.least choice chosen (fits_with room s choice some fits) in
          let with = cost_with worth read decoded s choice in
          rw (← with, cost) least);
    } where
      below : IsBelow (bound_after bound best) after.cost
      below = rw cost was.below

    -- what is found with one more size, where the choices of it were gone through that cost less than the best so far
    pub of_next : (best found with : Option Choice) → 0 < s.largest → FindsCheapest (part ∷ rows) room worth read decoded bound best
        → FindsCheapest rows (room / s.largest) worth (min (read * s.chunks) greatest_of_128) (min (decoded * s.elements) greatest_of_128)
        (bound_after bound best) found → IsWith s found with
        → FindsCheapest ((part ++ s ∷ []) ∷ rows) room worth read decoded bound (first_of with best)
    of_next best found with some finds next is = elim is [
      | with_none was now ↦ rw now (stays best finds (dear (rw was at next)))
      | with_some before after was now each cost ↦ rw now (replaces best before after some finds each cost (rw was at next))
    ] where
      dear : FindsCheapest rows (room / s.largest) worth (min (read * s.chunks) greatest_of_128) (min (decoded * s.elements) greatest_of_128)
          (bound_after bound best) None
          → (choice : List Size) → IsChoice rows choice → held (s ∷ choice) ≤ room
          → ¬ IsBelow (bound_after bound best) (capped_cost worth read decoded (s ∷ choice))
      dear none choice chosen fits =
          subst (λ cost. ¬ IsBelow (bound_after bound best) cost) (cost_with worth read decoded s choice)
          (none choice chosen (fits_with room s choice some fits))

    -- a size that is too large alone is in no choice that fits
    pub of_too_large : (best : Option Choice) → AllByRecursion (AllByRecursion (λ (s : Size). 0 < s.largest)) rows → room < s.largest
        → FindsCheapest (part ∷ rows) room worth read decoded bound best
        → FindsCheapest ((part ++ s ∷ []) ∷ rows) room worth read decoded bound best
    of_too_large best some large finds =
        stays best finds
        (λ choice chosen fits. let more = le-mul_of_pos_right s.largest (some_held rows some choice chosen) in absurd (omega arith))

-- the only choice from no rows
module _ (room worth read decoded : ℕ) (bound : Option ℕ) where
  pub of_no_rows : (cost : ℕ) → 0 < room → cost ≡ min (min (read * worth) greatest_of_128 + decoded) greatest_of_128 → IsBelow bound cost
      → IsCheapestChoice [] room worth read decoded bound [] cost
  of_no_rows cost some is below = record {
    choice = [];
    is_choice = tt;
    are_each = refl;
    fits = omega arith;
    cost_is = cost_is;
    below = below;
    least = least;
  } where
    cost_is : cost ≡ capped_cost worth read decoded []
    cost_is = omega (arith, is)

    least : (other : List Size) → IsChoice [] other → held other ≤ room → cost ≤ capped_cost worth read decoded other
    least [] chosen fits = omega (arith, cost_is)
    least (c ∷ other) chosen fits = absurd chosen
