-- What there is of some of the chunks in a list, from one of them on.
use Rattle.zarrs_chunk_plan.proofs.Common.{◌≡◌, ◌∙◌, ℕ, zero, suc, ◌+◌, ◌-◌, ◌≤◌, List, [], ◌∷◌, ◌++◌, Some, drop, get_or, length, min, take, refl}
use Rattle.zarrs_chunk_plan.proofs.Common.{ap, subst, sym, arith, length-drop, get_or_from_slice_get, slice_get_within, AllByRecursion}
use Rattle.zarrs_chunk_plan.proofs.Common.{AllZip, slice_get, Box, greatest, row_major, chunks_in}
use Rattle.std.proofs.lemmas.List.{get_or-drop}
use Rattle.std.proofs.lemmas.Slice.Zip.{all_zipped_more}
use Rattle.std.proofs.Math.Seq.{take-suc}
use Rattle.zarrs_chunk_plan.proofs.ByNumber.{as_many}

-- what holds of each holds at a place
pub of_place : {X : Type 0} (P : X → Type 0) (xs : List X) (k : ℕ) (x : X) → AllByRecursion P xs → slice_get xs k ≡ Some x → P x
of_place P [] k x all is = cc
of_place P (y ∷ xs) zero x all is = let same : y ≡ x = cc in subst P same all.0
of_place P (y ∷ xs) (suc k) x all is = of_place P xs k x all.1 is

-- from one place up to another, and one more
taken_more : {X : Type 0} (xs : List X) (first number : ℕ) (x : X) → first ≤ number → slice_get xs number ≡ Some x
    → take (number + 1 - first) (drop first xs) ≡ take (number - first) (drop first xs) ++ x ∷ []
taken_more xs first number x from is =
    let within = slice_get_within xs number x is in
    let long = length-drop first xs in
    let steps = number - first in
    let more : number + 1 - first ≡ suc steps = omega arith in
    let at : first + steps ≡ number = omega arith in
    let last : get_or (drop first xs) steps x ≡ x =
    get_or-drop first xs steps x ∙ ap (λ k. get_or xs k x) at ∙ get_or_from_slice_get xs number x x is
    in
    rw (more, take-suc (drop first xs) steps x (omega arith), last) refl

module _ {X Y : Type 0} (R : X → Y → Type 0) (xs : List X) (first : ℕ) where
  pub one_more : (number : ℕ) (x : X) (y : Y) (ys : List Y) → first ≤ number → slice_get xs number ≡ Some x → R x y
      → AllZip R (take (number - first) (drop first xs)) ys → AllZip R (take (number + 1 - first) (drop first xs)) (ys ++ y ∷ [])
  one_more number x y ys from is also are =
      rw (taken_more xs first number x from is) (all_zipped_more R (take (number - first) (drop first xs)) ys x y are also)

-- where there are no chunks there are no parts
pub no_parts : {X Y : Type 0} (R : X → Y → Type 0) (xs : List X) (ys : List Y) → xs ≡ [] → AllZip R xs ys → ys ≡ []
no_parts R [] [] none are = refl
no_parts R (_ ∷ _) ys none are = cc
no_parts R [] (_ ∷ _) none are = absurd are

-- those up to an end that is at most as far as there are chunks in the box, and as were asked for
pub some_of : {Y : Type 0} (R : List ℕ → Y → Type 0) (box : Box) (first most end in_all : ℕ) (ys : List Y)
    → in_all ≡ min (length (row_major box.shape)) greatest → end ≡ min (min (first + most) greatest) in_all
    → AllZip R (take (end - first) (drop first (chunks_in box))) ys
    → (in_all ≡ min (length (chunks_in box)) greatest) × AllZip R (take (min (in_all - first) most) (drop first (chunks_in box))) ys
some_of R box first most end in_all ys counted ends are =
    let lists = as_many box.start box.shape in
    let same : end - first ≡ min (in_all - first) most = omega arith in (
      counted ∙ ap (λ n. min n greatest) (sym lists),
      subst (λ n. AllZip R (take n (drop first (chunks_in box))) ys) same are,
    )
