-- A walk through the lists below a shape from one on up to another: where it begins, and how it goes on.
use Rattle.zarrs_chunk_plan.proofs.Common.{◌≡◌, ◌↔◌, ◌⊎◌, ◌∙◌, ℕ, zero, suc, ◌+◌, ◌-◌, ◌<◌, ◌≤◌, Bool, true, false, IsTrue, List, [], ◌∷◌, Contains}
use Rattle.zarrs_chunk_plan.proofs.Common.{Option, Some, None, drop, length, map, take, refl, ap, inl, inr, subst, sym, true≢false, ⊎_elim, arith}
use Rattle.zarrs_chunk_plan.proofs.Common.{drop-nil, cases_lt, drop-map, length-map, nil_from_length, AreBelow, row_major, length_below, before_share}
use Rattle.zarrs_chunk_plan.proofs.Common.{between, rank}
use Rattle.std.proofs.Math.Seq.{take-nil}
use Rattle.std.proofs.lemmas.List.{take-map}
use Rattle.std.specs.List.{refill}
use Rattle.std.specs.Option.{ForSome}
use Rattle.smallvec.specs.SmallVec.{SmallVec}
use Rattle.zarrs_chunk_axes.specs.seen.Counting.{after, from}
use Rattle.zarrs_chunks.proofs.ChunksInBoxes.{written}
use Rattle.zarrs_chunk_plan.specs.Shares.{share_of}
use Rattle.zarrs_chunk_plan.specs.declared.shares.share.Share.{Share}
use Rattle.zarrs_chunk_plan.specs.seen.Between.{IsEnd, end_rank, lists_between}
use Rattle.zarrs_chunk_plan.proofs.ByNumber.{some_size}
use Rattle.zarrs_chunk_plan.proofs.shares.Ranks.{drop_rank, rank_next, rank_same, rank_within}

-- a box with a range of no numbers has no chunks
pub none_below : (shape : List ℕ) → Contains shape 0 → row_major shape ≡ []
none_below shape (k, within, is) = nil_from_length (row_major shape) (none (length (row_major shape)) refl) where
  none : (n : ℕ) → length (row_major shape) ≡ n → length (row_major shape) ≡ 0
  none zero same = same
  none (suc n) same = let some = some_size shape k (omega arith) within in absurd (omega arith)

pub share_map : {X Y : Type 0} (f : X → Y) (share : Share) (xs : List X) → share_of share (map f xs) ≡ map f (share_of share xs)
share_map f share xs =
    let first = before_share share.number share.of (length xs) in
    let end = before_share (share.number + 1) share.of (length xs) in
    rw (length-map xs f, drop-map f first xs) (take-map f (end - first) (drop first xs))

pub share_nil : {X : Type 0} (share : Share) (xs : List X) → xs ≡ [] → share_of share xs ≡ []
share_nil share xs none =
    let first = before_share share.number share.of (length xs) in
    let left = before_share (share.number + 1) share.of (length xs) - first in
    ap (take left) (ap (drop first) none ∙ drop-nil first) ∙ take-nil left

-- where the walk isn't over, some list is left
pub some_left : (shape : List ℕ) (end : Option (SmallVec ℕ)) (numbers : List ℕ) → AreBelow shape numbers
    → rank shape numbers < end_rank shape end
    → lists_between shape numbers end false ≡ numbers ∷ take (end_rank shape end - (rank shape numbers + 1)) (after shape numbers)
some_left shape end numbers below before =
    let some : end_rank shape end - rank shape numbers ≡ suc (end_rank shape end - (rank shape numbers + 1)) = omega arith in
    rw (drop_rank shape numbers below, some) refl

-- What a step leaves, which stores numbers over those of the list that it gives: they are below the shape and before the end, unless the walk is
-- over, and the lists from them on are left.
pub record Stepped (shape : List ℕ) (end : Option (SmallVec ℕ)) (numbers stored : List ℕ) (over : Bool) : Type 0 where
  pub below : over ≡ false → AreBelow shape stored
  pub before : over ≡ false → rank shape stored < end_rank shape end
  pub left : lists_between shape numbers end false ≡ numbers ∷ lists_between shape stored end over

module _ (shape : List ℕ) (end : Option (SmallVec ℕ)) (end_below : ForSome end (λ e. AreBelow shape e.items)) where
  -- numbers that aren't the end, and that come at the end at most, come before it
  before_end : (numbers : List ℕ) → AreBelow shape numbers → rank shape numbers ≤ end_rank shape end → (¬ IsEnd end numbers)
      → rank shape numbers < end_rank shape end
  before_end numbers below low is_not = of end end_below low is_not where
    of : (end : Option (SmallVec ℕ)) → ForSome end (λ e. AreBelow shape e.items) → rank shape numbers ≤ end_rank shape end
        → (¬ IsEnd end numbers) → rank shape numbers < end_rank shape end
    of None all low is_not = rank_within shape numbers below
    of (Some e) all low is_not =
        ⊎_elim (λ (less : rank shape numbers < rank shape e.items). less)
        (λ (past : rank shape e.items ≤ rank shape numbers).
        absurd (is_not (sym (rank_same shape numbers e.items below (all e refl) (omega arith)))))
        (cases_lt (rank shape numbers) (rank shape e.items))

  at_end : (numbers : List ℕ) → IsEnd end numbers → end_rank shape end ≡ rank shape numbers
  at_end numbers is = of end is where
    of : (end : Option (SmallVec ℕ)) → IsEnd end numbers → end_rank shape end ≡ rank shape numbers
    of None is = absurd is
    of (Some e) is = ap (rank shape) is

  -- ---- where it begins

  pub begins_before : (numbers : List ℕ) (over : Bool) → AreBelow shape numbers → rank shape numbers ≤ end_rank shape end
      → (IsTrue over ↔ IsEnd end numbers) → over ≡ false → rank shape numbers < end_rank shape end
  begins_before numbers over below low told is = before_end numbers below low (λ at. absurd (true≢false (sym (told.1 at) ∙ is)))

  pub begins_with : (numbers : List ℕ) (over : Bool) → (IsTrue over ↔ IsEnd end numbers)
      → lists_between shape numbers end over ≡ between (rank shape numbers) (end_rank shape end) (row_major shape)
  begins_with numbers false told = refl
  begins_with numbers true told =
      let none : end_rank shape end - rank shape numbers ≡ 0 = let same = at_end numbers (told.0 refl) in omega arith in
      rw none refl

  -- ---- how it goes on

  module _ (numbers next : List ℕ) (found over : Bool) (below : AreBelow shape numbers) (before : rank shape numbers < end_rank shape end)
      (also : IsTrue found → AreBelow shape next) (gives : after shape numbers ≡ from found shape next)
      (told : IsTrue over ↔ (found ≡ false) ⊎ IsEnd end next) where
    first_left : (rest : List (List ℕ)) → take (end_rank shape end - (rank shape numbers + 1)) (after shape numbers) ≡ rest
        → lists_between shape numbers end false ≡ numbers ∷ rest
    first_left rest is = some_left shape end numbers below before ∙ ap (λ xs. numbers ∷ xs) is

    is_found : over ≡ false → found ≡ true
    is_found still = of found (λ none. true≢false (sym (told.1 (inl none)) ∙ still)) where
      of : (found : Bool) → (¬ (found ≡ false)) → found ≡ true
      of true some = refl
      of false some = absurd (some refl)

    goes_below : over ≡ false → AreBelow shape next
    goes_below still = also (is_found still)

    goes_next : found ≡ true → rank shape next ≡ rank shape numbers + 1
    goes_next is = rank_next shape numbers next below (also is) (rw is at gives)

    goes_before : over ≡ false → rank shape next < end_rank shape end
    goes_before still =
        let is = is_found still in
        let one = goes_next is in
        before_end next (also is) (omega arith) (λ at. true≢false (sym (told.1 (inr at)) ∙ still))

    goes_on : lists_between shape numbers end false ≡ numbers ∷ lists_between shape next end over
    goes_on = of over refl where
      of : (r : Bool) → over ≡ r → lists_between shape numbers end false ≡ numbers ∷ lists_between shape next end r
      of false still =
          let is = is_found still in
          let one = goes_next is in
          first_left (lists_between shape next end false)
          (rw (← one, (rw is at gives), drop_rank shape next (also is)) refl)
      of true done =
          first_left [] (⊎_elim
          (λ none. let nothing : after shape numbers ≡ [] = rw none at gives in
          ap (take (end_rank shape end - (rank shape numbers + 1))) nothing ∙ take-nil _)
          (λ at. ended found refl at) (told.0 done)) where
            ended : (r : Bool) → found ≡ r → IsEnd end next → take (end_rank shape end - (rank shape numbers + 1)) (after shape numbers) ≡ []
            ended false none at =
                let nothing : after shape numbers ≡ [] = rw none at gives in
                ap (take (end_rank shape end - (rank shape numbers + 1))) nothing ∙ take-nil _
            ended true is at =
                let one = goes_next is in
                let same = at_end next at in
                let none : end_rank shape end - (rank shape numbers + 1) ≡ 0 = omega arith in
                rw none refl

    goes : Stepped shape end numbers next over
    goes = record { below = goes_below; before = goes_before; left = goes_on }

-- numbers that are stored anew, where some were found
from_stored : (shape stored next : List ℕ) (found : Bool) → (found ≡ true → stored ≡ next) → from found shape next ≡ from found shape stored
from_stored shape stored next true same = rw (same refl) refl
from_stored shape stored next false same = refl

pub stepped : (shape : List ℕ) (end : Option (SmallVec ℕ)) → ForSome end (λ e. AreBelow shape e.items) → (numbers next : List ℕ)
    (found over : Bool) → AreBelow shape numbers → rank shape numbers < end_rank shape end → (IsTrue found → AreBelow shape next)
    → after shape numbers ≡ from found shape next
    → (IsTrue over ↔ (found ≡ false) ⊎ IsEnd end (refill (length numbers) numbers next))
    → Stepped shape end numbers (refill (length numbers) numbers next) over
stepped shape end end_below numbers next found over below before also gives told =
    let stored = refill (length numbers) numbers next in
    let same : found ≡ true → stored ≡ next =
    λ is. written next numbers (length_below shape next (also is) ∙ sym (length_below shape numbers below))
    in
    let stored_below : IsTrue found → AreBelow shape stored = λ is. subst (AreBelow shape) (sym (same is)) (also is) in
    let stored_is = gives ∙ from_stored shape stored next found same in
    goes shape end end_below numbers stored found over below before stored_below stored_is told
