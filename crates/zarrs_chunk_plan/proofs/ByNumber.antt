-- The chunks in a box, by their number.
use Rattle.zarrs_chunk_plan.proofs.Common.{◌≡◌, ◌∙◌, ℕ, zero, suc, ◌+◌, ◌*◌, ◌<◌, ◌≤◌, List, [], ◌∷◌, ◌++◌, Option, Some, None, length, map, min}
use Rattle.zarrs_chunk_plan.proofs.Common.{get_or, drop, take, set, refl, ap, sym, ⊎_elim, arith, length-append, ◌/◌, ◌%◌, ◌-◌, ◌^◌, inl, inr, ◌⊎◌}
use Rattle.zarrs_chunk_plan.proofs.Common.{div-add-mod, mul-zero, length-map, take_more, slice_get_within, cases_lt, slice_get, ends, AllFit}
use Rattle.zarrs_chunk_plan.proofs.Common.{greatest, row_major, rows, counted, chunks_in, counted_from}
use Rattle.std.proofs.Common.{unwrap_or}
use Rattle.std.proofs.Math.Seq.{drop-length}
use Rattle.std.proofs.lemmas.List.{length-set, drop-set, drop_more}
use Rattle.std.proofs.lemmas.Option.{slice_get-map}
use Rattle.std.proofs.lemmas.Bool.{le-leb, lt-leb}
use Rattle.std.specs.Option.{option_map}

module _ {X : Type 0} where
  in_first : (xs ys : List X) (k : ℕ) → k < length xs → slice_get (xs ++ ys) k ≡ slice_get xs k
  in_first [] ys k within = absurd (omega arith)
  in_first (x ∷ xs) ys zero within = refl
  in_first (x ∷ xs) ys (suc k) within = in_first xs ys k (omega arith)

  in_second : (xs ys : List X) (k at : ℕ) → at ≡ length xs + k → slice_get (xs ++ ys) at ≡ slice_get ys k
  in_second [] ys k at is = ap (slice_get ys) (let same : at ≡ k = omega arith in same)
  in_second (x ∷ xs) ys k zero is = absurd (omega arith)
  in_second (x ∷ xs) ys k (suc at) is = in_second xs ys k at (omega arith)

-- so many rows have so many lists
length-rows : (first count : ℕ) (others : List (List ℕ)) → length (rows first count others) ≡ count * length others
length-rows first zero others = omega arith
length-rows first (suc count) others =
    let more = length-rows (first + 1) count others in
    let both = length-append (map (λ numbers. first ∷ numbers) others) (rows (first + 1) count others) in
    let one = length-map others (λ (numbers : List ℕ). first ∷ numbers) in
    omega arith

-- the list with this number in the row with this digit
at_row : (first count digit place : ℕ) (others : List (List ℕ)) → digit < count → place < length others
    → slice_get (rows first count others) (digit * length others + place) ≡ option_map (λ numbers. (first + digit) ∷ numbers) (slice_get others place)
at_row first zero digit place others less within = absurd (omega arith)
at_row first (suc count) zero place others less within =
    let one = length-map others (λ (numbers : List ℕ). first ∷ numbers) in
    let at : 0 * length others + place ≡ place = omega arith in
    let same : first + 0 ≡ first = omega arith in
    rw (at, in_first (map (λ numbers. first ∷ numbers) others) (rows (first + 1) count others) place (omega arith), same)
    (slice_get-map (λ (numbers : List ℕ). first ∷ numbers) others place)
at_row first (suc count) (suc digit) place others less within =
    let one = length-map others (λ (numbers : List ℕ). first ∷ numbers) in
    let same : first + suc digit ≡ first + 1 + digit = omega arith in
    rw (
      in_second (map (λ numbers. first ∷ numbers) others) (rows (first + 1) count others) (digit * length others + place)
          (suc digit * length others + place) (omega arith),
      same,
    )
    (at_row (first + 1) count digit place others (omega arith) within)

-- how many lists are below a shape
pub length-shape : (size : ℕ) (shape : List ℕ) → length (row_major (size ∷ shape)) ≡ size * length (row_major shape)
unfolding row_major
length-shape size shape = length-rows 0 size (row_major shape)

pub some_of : {X Y : Type 0} (f : X → Y) (o : Option X) (y : Y) → option_map f o ≡ Some y → (x : X) × (o ≡ Some x) × (f x ≡ y)
some_of f None y is = cc
some_of f (Some x) y is = (x, refl, cc)

-- the chunk with this number, of which the first number is this far behind the start
pub at_digit : (first size digit place : ℕ) (start shape chunk : List ℕ) → digit < size
    → slice_get (chunks_in (record { start = start; shape = shape })) place ≡ Some chunk
    → slice_get (chunks_in (record { start = first ∷ start; shape = size ∷ shape })) (digit * length (row_major shape) + place)
    ≡ Some ((first + digit) ∷ chunk)
unfolding row_major
at_digit first size digit place start shape chunk less is =
    let lists = row_major shape in
    let (numbers, found, same) =
    some_of (counted_from start) (slice_get lists place) chunk (sym (slice_get-map (counted_from start) lists place) ∙ is) in
    let within = slice_get_within lists place numbers found in
    let zero_digit : 0 + digit ≡ digit = omega arith in
    rw (
      slice_get-map (counted_from (first ∷ start)) (rows 0 size lists) (digit * length lists + place),
      at_row 0 size digit place lists less within,
      found,
      zero_digit,
      same,
    ) refl

-- ---- numbers

positive_factor : (a b : ℕ) → 0 < a * b → 0 < b
positive_factor a zero some = let none = mul-zero a in absurd (omega arith)
positive_factor a (suc b) some = omega arith

split_number : (number rest size lists place quotient digit : ℕ) → number ≡ rest * lists + place → size * quotient + digit ≡ rest
    → number ≡ quotient * (size * lists) + (digit * lists + place)
split_number number rest size lists place quotient digit counted parts = rw (counted, ← parts) (omega arith)

no_rest : (number rest lists place : ℕ) → number ≡ rest * lists + place → number < lists → number ≡ place
no_rest number zero lists place is less = omega arith
no_rest number (suc rest) lists place is less = let more : suc rest * lists ≡ rest * lists + lists = omega arith in absurd (omega arith)

-- no size is 0 where there is a list
pub some_size : (shape : List ℕ) (k : ℕ) → 0 < length (row_major shape) → k < length shape → 0 < get_or shape k 0
some_size [] k some within = absurd (omega arith)
some_size (zero ∷ shape) k some within = let none = length-shape 0 shape in absurd (omega arith)
some_size (suc size ∷ shape) zero some within = omega arith
some_size (suc size ∷ shape) (suc k) some within =
    some_size shape k (positive_factor (suc size) (length (row_major shape)) (rw (length-shape (suc size) shape) at some)) (omega arith)

-- a number of the box's start and one below its size fit together
pub sum_fits : (start shape : List ℕ) (k digit : ℕ) → AllFit (ends start shape) → k < length start → k < length shape → digit < get_or shape k 0
    → get_or start k 0 + digit ≤ greatest
sum_fits (s ∷ start) (n ∷ shape) zero digit fit one other less = let end : s + n ≤ greatest = fit.0 in omega arith
sum_fits (s ∷ start) (n ∷ shape) (suc k) digit fit one other less = sum_fits start shape k digit fit.1 (omega arith) (omega arith) less
sum_fits _ _ k digit fit one other less = absurd (omega arith)

-- From this dimension on the numbers are those of a chunk; `rest` is what is left of its number for the dimensions before.
pub record IsNumbered (start shape : List ℕ) (number dimension rest : ℕ) (chunk : List ℕ) : Type 0 where
  pub long : length chunk ≡ length start
  pub place : ℕ
  pub number_is : number ≡ rest * length (row_major (drop dimension shape)) + place
  pub at_place : slice_get (chunks_in (record { start = drop dimension start; shape = drop dimension shape })) place ≡ Some (drop dimension chunk)

module _ (start shape : List ℕ) (number : ℕ) where
  pub numbered_none : (chunk : List ℕ) → length chunk ≡ length start → length start ≡ length shape
      → IsNumbered start shape number (length shape) number chunk
  unfolding row_major
  numbered_none chunk long lengths = record {
    long = long;
    place = 0;
    number_is = rw (drop-length shape) (omega arith);
    at_place = let same : length shape ≡ length chunk = omega arith in rw (drop-length shape, same, drop-length chunk, long, drop-length start) refl;
  }

  pub numbered_more : (dimension rest : ℕ) (chunk : List ℕ) → IsNumbered start shape number (dimension + 1) rest chunk → length start ≡ length shape
      → dimension < length shape → 0 < get_or shape dimension 0
      → IsNumbered start shape number dimension (rest / get_or shape dimension 0)
      (set chunk dimension (get_or start dimension 0 + rest % get_or shape dimension 0))
  numbered_more dimension rest chunk before lengths within some =
      let size = get_or shape dimension 0 in
      let first = get_or start dimension 0 in
      let long = before.long in
      let digit = rest % size in
      let lists = length (row_major (drop (dimension + 1) shape)) in
      let in_start : dimension < length start = omega arith in
      let in_chunk : dimension < length chunk = omega arith in
      let shape_is : drop dimension shape ≡ size ∷ drop (dimension + 1) shape = drop_more shape dimension 0 within in
      let start_is : drop dimension start ≡ first ∷ drop (dimension + 1) start = drop_more start dimension 0 in_start in
      let less : digit < size = omega arith in
      let counted : number ≡ rest * lists + before.place = before.number_is in
      let parts : size * (rest / size) + rest % size ≡ rest = div-add-mod rest size in
      record {
        long = length-set chunk dimension (first + digit) ∙ long;
        place = digit * lists + before.place;
        number_is = rw (shape_is, length-shape size (drop (dimension + 1) shape))
            (split_number number rest size lists before.place (rest / size) digit counted parts);
        at_place = rw (shape_is, start_is, drop-set chunk dimension (first + digit) in_chunk)
            (at_digit _ _ _ _ _ _ _ less before.at_place);
      }

  pub numbered_all : (rest : ℕ) (chunk : List ℕ) → number < length (row_major shape) → IsNumbered start shape number 0 rest chunk
      → slice_get (chunks_in (record { start = start; shape = shape })) number ≡ Some chunk
  numbered_all rest chunk within all =
      let none = no_rest number rest (length (row_major shape)) all.place all.number_is within in
      rw none all.at_place

-- as many chunks lie in a box as there are lists below its shape
pub as_many : (start shape : List ℕ) → length (chunks_in (record { start = start; shape = shape })) ≡ length (row_major shape)
as_many start shape = length-map (row_major shape) (counted_from start)

-- one size more behind
pub length-behind : (shape : List ℕ) (size : ℕ) → length (row_major (shape ++ size ∷ [])) ≡ length (row_major shape) * size
unfolding row_major
length-behind [] size = let is = length-shape size [] in omega arith
length-behind (n ∷ shape) size = rw (length-shape n (shape ++ size ∷ []), length-shape n shape, length-behind shape size) (omega arith)

pub at_most_times : (a b most : ℕ) → min (min a most * b) most ≡ min (a * b) most
at_most_times a zero most = let none = mul-zero a in let also = mul-zero (min a most) in omega arith
at_most_times a (suc b) most =
    ⊎_elim
    (λ (less : a < most). let same : min a most ≡ a = omega arith in rw same refl)
    (λ (more : most ≤ a).
    let same : min a most ≡ most = omega arith in
    rw same (omega arith))
    (cases_lt a most)

-- how many lists are below the sizes so far, and one more
pub counted_more : (shape : List ℕ) (k count most : ℕ) → k < length shape → count ≡ min (length (row_major (take k shape))) most
    → min (count * get_or shape k 0) most ≡ min (length (row_major (take (k + 1) shape))) most
counted_more shape k count most within is =
    let size = get_or shape k 0 in
    rw (take_more shape k 0 within, length-behind (take k shape) size, is) (at_most_times (length (row_major (take k shape))) size most)

-- ---- a count, as far as a number tells it

pub counted_cases : (all : ℕ) → ((all ≤ greatest) × (counted all ≡ Some all)) ⊎ ((greatest < all) × (counted all ≡ None))
unfolding counted
counted_cases all =
    ⊎_elim (λ (past : greatest < all). inr (past, rw (lt-leb all greatest past) refl))
    (λ (fits : all ≤ greatest). inl (fits, rw (le-leb all greatest fits) refl)) (cases_lt greatest all)

pub counted_some : (all count : ℕ) → count ≡ min all (2 ^ 128 - 1) → count ≤ greatest → counted all ≡ Some count
counted_some all count is fits =
    ⊎_elim (λ (low, some). some ∙ ap Some (let same : all ≡ count = omega arith in same)) (λ (past, none). absurd (omega arith)) (counted_cases all)

pub counted_none : (all count : ℕ) → count ≡ min all (2 ^ 128 - 1) → greatest < count → counted all ≡ None
counted_none all count is past = ⊎_elim (λ (low, some). absurd (omega arith)) (λ (high, none). none) (counted_cases all)

-- the count, or the greatest number
pub counted_most : (all : ℕ) (count : Option ℕ) → count ≡ counted all → unwrap_or count greatest ≡ min all greatest
counted_most all count is =
    ⊎_elim (λ (fits, some). rw (is, some) (let same : all ≡ min all greatest = omega arith in same))
    (λ (past, none). rw (is, none) (let same : greatest ≡ min all greatest = omega arith in same)) (counted_cases all)
