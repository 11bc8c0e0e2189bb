-- Batches: many questions whose answers lie one after another.
use Rattle.std.specs.Prelude.{◌≡◌, ◌⊎◌, ℕ, ◌+◌, ◌*◌, ◌-◌, ◌<◌, ◌≤◌, List, length, drop, slice_index_or, take}
use Rattle.std.specs.List.{AllByRecursion}

-- of lists of one length, one after another, the list with this number, counted from 0
abbrev pub list_at : ℕ → List ℕ → ℕ → List ℕ
list_at width numbers number = take width (drop (number * width) numbers)

-- so many numbers are as many as so many lists of one length have
abbrev pub AreLengths : (width count : ℕ) → List ℕ → Type 0
AreLengths width count totals = AllByRecursion (λ total. total ≡ width * count) totals

-- the mark tells that there is an answer, or that there is none
abbrev pub IsMarked : ℕ → Type 0 → Type 0 → Type 0
IsMarked mark Answer None = ((mark ≡ 1) × Answer) ⊎ ((mark ≡ 0) × None)

-- Each question with a number below the count has a mark, which tells whether it has an answer. The answer is two lists: those with
-- the question's number.
abbrev pub AreAnsweredBelow : ℕ → (ℕ → List ℕ → List ℕ → Type 0) → (ℕ → Type 0) → ℕ × ℕ → (first second marks : List ℕ) → Type 0
AreAnsweredBelow count Answer None widths first second marks =
    (number : ℕ) → number < count
    → IsMarked (slice_index_or marks number 0) (Answer number (list_at widths.0 first number) (list_at widths.1 second number)) (None number)

-- each question that has a mark
abbrev pub AreAnswered : (ℕ → List ℕ → List ℕ → Type 0) → (ℕ → Type 0) → ℕ × ℕ → (first second marks : List ℕ) → Type 0
AreAnswered Answer None widths first second marks = AreAnsweredBelow (length marks) Answer None widths first second marks

-- the lists of the questions without an answer are as they were
abbrev pub AreKept : ℕ → (before after marks : List ℕ) → Type 0
AreKept width before after marks = (number : ℕ) → slice_index_or marks number 0 ≡ 0 → list_at width after number ≡ list_at width before number

-- of texts one after another, the one with this number: from where it begins to where the next one does, in bytes
abbrev pub text_at : List ℕ → List ℕ → ℕ → List ℕ
text_at text offsets number =
    let start = slice_index_or offsets number 0 in
    take (slice_index_or offsets (number + 1) 0 - start) (drop start text)

-- there is such a text: the offsets don't descend there, nor lie past the end
abbrev pub HasText : List ℕ → List ℕ → ℕ → Type 0
HasText text offsets number =
    (slice_index_or offsets number 0 ≤ slice_index_or offsets (number + 1) 0) × (slice_index_or offsets (number + 1) 0 ≤ length text)

-- So many texts stand in one, one after another: each from its own offset up to the next one.
pub record AreTexts (IsText : ℕ → List ℕ → Type 0) (count : ℕ) (text offsets : List ℕ) : Type 0 where
  pub first : slice_index_or offsets 0 0 ≡ 0
  pub last : slice_index_or offsets count 0 ≡ length text
  pub within : (number : ℕ) → number ≤ count → slice_index_or offsets number 0 ≤ length text
  pub texts : (number : ℕ) → number < count → IsText number (text_at text offsets number)

-- they are keys of so many chunks
abbrev pub AreKeys : (List ℕ → List ℕ → Type 0) → (width count : ℕ) → (chunks text offsets : List ℕ) → Type 0
AreKeys IsKey width count chunks text offsets = AreTexts (λ number. IsKey (list_at width chunks number)) count text offsets

-- a text of which P holds fills the buffer's front, which is so long; and such a text, so long, is longer than the buffer
abbrev pub IsWhole : (List ℕ → Type 0) → (buffer : List ℕ) → ℕ → Type 0
IsWhole P buffer needed = (needed ≤ length buffer) × P (take needed buffer)

abbrev pub IsTooLong : (List ℕ → Type 0) → (buffer : List ℕ) → ℕ → Type 0
IsTooLong P buffer needed = (text : List ℕ) × P text × (needed ≡ length text) × (length buffer < needed)
