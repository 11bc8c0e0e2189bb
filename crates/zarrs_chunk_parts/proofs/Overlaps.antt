-- What lies in two boxes lies in the box of the later starts and of what their ranges share.
use Rattle.std.proofs.Common.{◌≡◌, ◌↔◌, ℕ, suc, ◌+◌, ◌-◌, ◌<◌, ◌≤◌, List, [], ◌∷◌, length, max, min, ap, refl, arith}
use Rattle.zarrs_chunk_base.specs.ArraySubset.{AreWithin, IsBox, ends}
use Rattle.zarrs_chunk_base.specs.Greatest.{AllFit, greatest}
use Rattle.zarrs_chunk_parts.specs.seen.Shared.{later_starts, shared_sizes}

pub overlap_is_box : (one sizes other others : List ℕ) → length one ≡ length sizes → length other ≡ length others → length one ≡ length other
    → AllFit one → AllFit (ends other others) → IsBox (record { start = later_starts one other; shape = shared_sizes one sizes other others })
overlap_is_box [] [] [] [] a b c fit also = record { lengths = refl; fits = tt }
overlap_is_box (s ∷ one) (n ∷ sizes) (t ∷ other) (m ∷ others) a b c fit also =
    let start : s ≤ greatest = fit.0 in
    let end : t + m ≤ greatest = also.0 in
    let rest = overlap_is_box one sizes other others (omega arith) (omega arith) (omega arith) fit.1 also.1 in
    record { lengths = ap suc rest.lengths; fits = (omega arith, rest.fits) }
overlap_is_box _ _ _ _ a b c fit also = absurd (omega arith)

pub overlap_holds : (one sizes other others index : List ℕ) → length one ≡ length sizes → length other ≡ length others → length one ≡ length other
    → AllFit (ends other others)
    → AreWithin (later_starts one other) (shared_sizes one sizes other others) index ↔ (AreWithin one sizes index × AreWithin other others index)
overlap_holds [] [] [] [] [] a b c also = (λ _. (tt, tt), λ _. tt)
overlap_holds [] [] [] [] (_ ∷ _) a b c also = (λ within. absurd within, λ both. absurd both.0)
overlap_holds (_ ∷ _) (_ ∷ _) (_ ∷ _) (_ ∷ _) [] a b c also = (λ within. absurd within, λ both. absurd both.0)
overlap_holds (s ∷ one) (n ∷ sizes) (t ∷ other) (m ∷ others) (i ∷ index) a b c also =
    let end : t + m ≤ greatest = also.0 in
    let rest = overlap_holds one sizes other others index (omega arith) (omega arith) (omega arith) also.1 in (
      λ within.
          let from : max s t ≤ i = within.0 in
          let below : i < max s t + (min (s + n) (min (t + m) greatest) - max s t) = within.1 in
          let (in_one, in_other) = rest.0 within.2 in
          ((omega arith, omega arith, in_one), (omega arith, omega arith, in_other)),
      λ both.
          let from : s ≤ i = both.0.0 in
          let below : i < s + n = both.0.1 in
          let also_from : t ≤ i = both.1.0 in
          let also_below : i < t + m = both.1.1 in
          (omega arith, omega arith, rest.1 (both.0.2, both.1.2)),
    )
overlap_holds _ _ _ _ _ a b c also = absurd (omega arith)

pub later_starts_long : (one other : List ℕ) → length one ≡ length other → length (later_starts one other) ≡ length one
later_starts_long [] [] same = refl
later_starts_long (s ∷ one) (t ∷ other) same = ap suc (later_starts_long one other (omega arith))
later_starts_long _ _ same = absurd (omega arith)
