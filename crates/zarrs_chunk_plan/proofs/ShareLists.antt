-- Shares of a list: together they are the list, and what is one of a list that is tied to another is so of that one.
use Rattle.zarrs_chunk_plan.proofs.Common.{◌≡◌, ◌∙◌, ℕ, zero, suc, ◌+◌, ◌-◌, ◌*◌, ◌<◌, ◌≤◌, List, [], ◌∷◌, ◌++◌, drop, length, take, refl, ap, subst}
use Rattle.zarrs_chunk_plan.proofs.Common.{sym, arith, div-eq_of_lt, drop-nil, take-length, length-drop, AllZip-long, AllByRecursion, AllZip}
use Rattle.zarrs_chunk_plan.proofs.Common.{flat_map, range_with_len, before_share, between, mul-le-mul_right}
use Rattle.std.proofs.Math.Nat.{div-le_of_le-mul}
use Rattle.std.proofs.Math.Seq.{drop-append_seam, take-add, take-append_seam}
use Rattle.std.proofs.lemmas.List.{length-take, take-append-drop}
use Rattle.std.proofs.lemmas.List.Elements.{All-drop, All-from_recursion, All-take, recursion_from_All}
use Rattle.zarrs_chunk_plan.specs.Shares.{numbered_share, share_of}
use Rattle.zarrs_chunk_plan.specs.declared.shares.share.Share.{Share}
use Rattle.zarrs_chunk_plan.proofs.shares.BeforeShares.{all_before, before_next}

drop_more : {X : Type 0} (m n : ℕ) (xs : List X) → drop m (drop n xs) ≡ drop (n + m) xs
drop_more m zero xs = ap (λ k. drop k xs) (let same : m ≡ 0 + m = omega arith in same)
drop_more m (suc n) [] = drop-nil m ∙ sym (drop-nil (suc n + m))
drop_more m (suc n) (x ∷ xs) =
    let same : suc n + m ≡ suc (n + m) = omega arith in drop_more m n xs ∙ ap (λ k. drop k (x ∷ xs)) (sym same)

between_both : {X : Type 0} (low middle high : ℕ) (xs : List X) → low ≤ middle → middle ≤ high
    → between low middle xs ++ between middle high xs ≡ between low high xs
between_both low middle high xs one other =
    let long : high - low ≡ (middle - low) + (high - middle) = omega arith in
    let at : low + (middle - low) ≡ middle = omega arith in
    rw long
    (sym (take-add (middle - low) (high - middle) (drop low xs)
    ∙ ap (λ ys. between low middle xs ++ take (high - middle) ys) (drop_more (middle - low) low xs ∙ ap (λ k. drop k xs) at)))

-- so many shares from one on
shares_from : {X : Type 0} (of : ℕ) (xs : List X) (number count : ℕ) → 0 < of
    → (before_share number of (length xs) ≤ before_share (number + count) of (length xs))
    × (flat_map (λ n. numbered_share n of xs) (range_with_len number count)
    ≡ between (before_share number of (length xs)) (before_share (number + count) of (length xs)) xs)
shares_from of xs number zero some =
    let all = length xs in
    let same : number + 0 ≡ number = omega arith in
    let none : before_share number of all - before_share number of all ≡ 0 = omega arith in
    rw same (omega arith, rw none refl)
shares_from of xs number (suc count) some =
    let all = length xs in
    let next = before_next number of all some in
    let (more, are) = shares_from of xs (number + 1) count some in
    let same : number + suc count ≡ number + 1 + count = omega arith in
    rw same (
      omega arith,
      ap (λ ys. numbered_share number of xs ++ ys) are
          ∙ between_both (before_share number of all) (before_share (number + 1) of all) (before_share (number + 1 + count) of all) xs next more,
    )

pub shares_are_all : {X : Type 0} (of : ℕ) (xs : List X) → 0 < of → flat_map (λ n. numbered_share n of xs) (range_with_len 0 of) ≡ xs
shares_are_all of xs some =
    let all = length xs in
    let (more, are) = shares_from of xs 0 of some in
    let last = all_before (of - 1) of all (omega arith) in
    let end : of - 1 + 1 ≡ 0 + of = omega arith in
    let nothing : 0 * all ≡ 0 = omega arith in
    let first : before_share 0 of all ≡ 0 = rw nothing (div-eq_of_lt some) in
    let whole : length xs - 0 ≡ length xs = omega arith in
    are ∙ rw (first, ← end, last, whole) (take-length xs)

-- ---- what is tied to a share of a list

module _ {X : Type 0} (P : X → Type 0) where
  all_taken : (k : ℕ) (xs : List X) → AllByRecursion P xs → AllByRecursion P (take k xs)
  all_taken k xs all = recursion_from_All P (take k xs) (All-take P k xs (All-from_recursion P xs all))

  all_dropped : (k : ℕ) (xs : List X) → AllByRecursion P xs → AllByRecursion P (drop k xs)
  all_dropped k xs all = recursion_from_All P (drop k xs) (All-drop P k xs (All-from_recursion P xs all))

  pub all_of_share : (share : Share) (xs : List X) → AllByRecursion P xs → AllByRecursion P (share_of share xs)
  all_of_share share xs all = all_taken _ _ (all_dropped _ xs all)

pub both_zipped : {X Y : Type 0} (R : X → Y → Type 0) (xs others : List X) (ys more : List Y) → AllZip R xs ys → AllZip R others more
    → AllZip R (xs ++ others) (ys ++ more)
both_zipped R [] others [] more one also = also
both_zipped R (x ∷ xs) others (y ∷ ys) more one also = (one.0, both_zipped R xs others ys more one.1 also)
both_zipped R _ others _ more one also = absurd one

module _ {X Y : Type 0} (M : X → Type 0) (R : X → Y → Type 0)
    (have : (xs : List X) → AllByRecursion M xs → (ys : List Y) × AllZip R xs ys) where
  within : (first end : ℕ) (xs : List X) (ys : List Y) → AllByRecursion M xs → first ≤ end → end ≤ length xs → AllZip R (between first end xs) ys
      → (all : List Y) × AllZip R xs all × (between first end all ≡ ys)
  within first end xs ys meet low high are =
      let (before, come) = have (take first xs) (all_taken M first xs meet) in
      let (behind, follow) = have (drop end xs) (all_dropped M end xs meet) in
      let taken = length-take first xs in
      let many : length before ≡ first = let long = AllZip-long R (take first xs) before come in omega arith in
      let dropped = length-drop first xs in
      let middle = length-take (end - first) (drop first xs) in
      let long = AllZip-long R (between first end xs) ys are in
      let as_many : length ys ≡ end - first = omega arith in
      let rest : between first end xs ++ drop end xs ≡ drop first xs =
      (let at : first + (end - first) ≡ end = omega arith in
      ap (λ k. between first end xs ++ drop k xs) (sym at) ∙ ap (λ ys. between first end xs ++ ys) (sym (drop_more (end - first) first xs)))
      ∙ take-append-drop (end - first) (drop first xs)
      in (
        before ++ (ys ++ behind),
        subst (λ all. AllZip R all (before ++ (ys ++ behind)))
            (ap (λ zs. take first xs ++ zs) rest ∙ take-append-drop first xs)
            (both_zipped R _ _ _ _ come (both_zipped R (between first end xs) (drop end xs) ys behind are follow)),
        ap (take (end - first)) (ap (λ k. drop k (before ++ (ys ++ behind))) (sym many) ∙ drop-append_seam before (ys ++ behind))
            ∙ ap (λ k. take k (ys ++ behind)) (sym as_many) ∙ take-append_seam ys behind,
      )

  -- what is tied to a share of a list is a share of what is tied to the list
  pub of_all : (share : Share) (xs : List X) (ys : List Y) → AllByRecursion M xs → AllZip R (share_of share xs) ys
      → (all : List Y) × AllZip R xs all × (share_of share all ≡ ys) × (length all ≡ length xs)
  of_all share xs ys meet are =
      let count = length xs in
      let low = before_next share.number share.of count (omega arith) in
      let high : before_share (share.number + 1) share.of count ≤ count =
      div-le_of_le-mul share.of (let most = mul-le-mul_right {m = share.number + 1} {n = share.of} count (omega arith) in most)
      in
      let (all, tied, is) =
      within (before_share share.number share.of count) (before_share (share.number + 1) share.of count) xs ys meet low high are in
      let long : length all ≡ count = AllZip-long R xs all tied in
      (all, tied, rw long is, long)
