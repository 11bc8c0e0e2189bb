-- Lists of one length, one after another, and the answers of a batch.
use Rattle.std.proofs.Common.{◌≡◌, ◌≢◌, ◌∙◌, ℕ, ◌+◌, ◌*◌, ◌<◌, ◌≤◌, Bool, true, false, List, drop, length, cond, slice_index_or, slice_set, take}
use Rattle.std.proofs.Common.{⊎_elim, inl, inr, refl, ap, subst, sym, arith, add-mul, below_more, mul-le-mul_right}
use Rattle.std.proofs.Math.Nat.{mul_comm}
use Rattle.std.proofs.lemmas.List.{drop-take, get_or-set_other, get_or-set_same, length-drop, length-take-le}
use Rattle.std.proofs.lemmas.Bool.{cases_eq, cases_lt}
use Rattle.std.proofs.lemmas.Slice.{drop-put_mid, take-put_mid_below}
use borrow.Rule.Slice.PartMut.{put_mid}
use Rattle.zarrs_chunk_batches.specs.Batch.{AreAnswered, AreAnsweredBelow, IsMarked, list_at}

-- a list ends before those with a greater number begin
pub ends_before : (width other number : ℕ) → other < number → other * width + width ≤ number * width
ends_before width other number less =
    let more = mul-le-mul_right {m = other + 1} {n = number} width (omega arith) in
    let split = add-mul other 1 width in
    omega arith

-- a list that is written changes none with another number
pub list_at-other : (width number start count : ℕ) (xs ys : List ℕ) → start ≡ number * width → count ≡ width → start ≤ length xs → length ys ≡ count
    → (other : ℕ) → other ≢ number → list_at width (put_mid start count xs ys) other ≡ list_at width xs other
list_at-other width number start count xs ys is counted within long other differs = ⊎_elim earlier later (cases_lt other number) where
  earlier : other < number → list_at width (put_mid start count xs ys) other ≡ list_at width xs other
  earlier less =
      let before = ends_before width other number less in
      let same = take-put_mid_below start count xs ys (other * width + width) (omega arith) within in
      rw (← drop-take (other * width) width (put_mid start count xs ys), ← drop-take (other * width) width xs, same) refl

  later : number ≤ other → list_at width (put_mid start count xs ys) other ≡ list_at width xs other
  later le =
      let after = ends_before width number other (omega arith) in
      ap (take width) (drop-put_mid start count xs ys (other * width) (omega arith) within long)

-- a list that is written changes nothing behind it
pub behind_list : (width number start count : ℕ) (xs ys : List ℕ) → start ≡ number * width → count ≡ width → start ≤ length xs → length ys ≡ count
    → drop ((number + 1) * width) (put_mid start count xs ys) ≡ drop ((number + 1) * width) xs
behind_list width number start count xs ys is counted within long =
    let split = add-mul number 1 width in
    drop-put_mid start count xs ys ((number + 1) * width) (omega arith) within long

-- the mark of a question that was asked
pub marked : (found : Bool) (Answer None : Type 0) → cond found Answer None → IsMarked (cond found 1 0) Answer None
marked true Answer None is = inl (refl, is)
marked false Answer None is = inr (refl, is)

unmarked : (found : Bool) → ◌≡◌ {A = ℕ} (cond found 1 0) 0 → found ≡ false
unmarked true is = absurd (omega arith)
unmarked false is = refl

-- the lists of the questions without an answer are as they were, and so are those of the questions to come
abbrev pub AreKeptBelow : ℕ → ℕ → (before now marks : List ℕ) → Type 0
AreKeptBelow number width before now marks =
    (k : ℕ) → (k < number → slice_index_or marks k 0 ≡ 0) → list_at width now k ≡ list_at width before k

-- after one question more
pub kept_one_more : (width number : ℕ) (found : Bool) (before now after marks : List ℕ) → AreKeptBelow number width before now marks
    → number < length marks → (found ≡ false → after ≡ now) → ((k : ℕ) → k ≢ number → list_at width after k ≡ list_at width now k)
    → AreKeptBelow (number + 1) width before after (slice_set marks number (cond found 1 0))
kept_one_more width number found before now after marks kept within none others k without = ⊎_elim last other (cases_eq k number) where
  last : k ≡ number → list_at width after k ≡ list_at width before k
  last at =
      let own = subst (λ n. slice_index_or (slice_set marks number (cond found 1 0)) n 0 ≡ cond found 1 0) (sym at)
      (get_or-set_same marks number (cond found 1 0) 0 within) in
      let is_none = unmarked found (sym own ∙ without (omega arith)) in
      ap (λ numbers. list_at width numbers k) (none is_none) ∙ kept k (λ less. absurd (omega arith))

  other : k ≢ number → list_at width after k ≡ list_at width before k
  other differs =
      let same = get_or-set_other marks number k (cond found 1 0) 0 differs in
      others k differs ∙ kept k (λ less. sym same ∙ without (omega arith))

module _ (Answer : ℕ → List ℕ → List ℕ → Type 0) (None : ℕ → Type 0) (widths : ℕ × ℕ) where
  -- one question more
  pub answered_one_more : (first second first_after second_after marks : List ℕ) (number mark : ℕ)
      → AreAnsweredBelow number Answer None widths first second marks → number < length marks
      → ((k : ℕ) → k ≢ number → list_at widths.0 first_after k ≡ list_at widths.0 first k)
      → ((k : ℕ) → k ≢ number → list_at widths.1 second_after k ≡ list_at widths.1 second k)
      → IsMarked mark (Answer number (list_at widths.0 first_after number) (list_at widths.1 second_after number)) (None number)
      → AreAnsweredBelow (number + 1) Answer None widths first_after second_after (slice_set marks number mark)
  answered_one_more first second first_after second_after marks number mark before within same_first same_second is =
      below_more
      (λ k. IsMarked (slice_index_or (slice_set marks number mark) k 0)
      (Answer k (list_at widths.0 first_after k) (list_at widths.1 second_after k)) (None k)) number
      (λ k earlier.
      let other : k ≢ number = λ at. absurd (omega arith) in
      rw (same_first k other, same_second k other, get_or-set_other marks number k mark 0 (λ at. absurd (omega arith))) (before k earlier))
      (let own = get_or-set_same marks number mark 0 within in rw own is)

-- answers that say more, and so do those that there is none
pub answered_for : (A B : ℕ → List ℕ → List ℕ → Type 0) (None Nothing : ℕ → Type 0) (widths : ℕ × ℕ) (first second marks : List ℕ)
    → ((k : ℕ) → k < length marks → A k (list_at widths.0 first k) (list_at widths.1 second k) → B k (list_at widths.0 first k) (list_at widths.1 second k))
    → ((k : ℕ) → None k → Nothing k) → AreAnswered A None widths first second marks → AreAnswered B Nothing widths first second marks
answered_for A B None Nothing widths first second marks more nothing are k less =
    ⊎_elim (λ is. inl (is.0, more k less is.1)) (λ is. inr (is.0, nothing k is.1)) (are k less)

-- a list of so many has a number for each dimension
pub long_at : (width count : ℕ) (numbers : List ℕ) (k : ℕ) → length numbers ≡ width * count → k < count → length (list_at width numbers k) ≡ width
long_at width count numbers k long less =
    let ends = ends_before width k count less in
    let turned = mul_comm width count in
    let rest = length-drop (k * width) numbers in
    length-take-le width (drop (k * width) numbers) (omega arith)
