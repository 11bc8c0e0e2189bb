-- Where byte ranges begin, dimension by dimension.
use Rattle.zarrs_chunk_plan.proofs.Common.{◌≡◌, ◌∙◌, ℕ, zero, suc, ◌+◌, ◌-◌, ◌*◌, ◌<◌, ◌≤◌, List, [], ◌∷◌, ◌++◌, Contains, drop, get_or, length}
use Rattle.zarrs_chunk_plan.proofs.Common.{length-append, map, ap, ap₂, append-nil, append_assoc, arith, refl, subst, sym, ⊎_elim, drop-cons}
use Rattle.zarrs_chunk_plan.proofs.Common.{length-map, begins, product, made_of, source_of, cases_lt, row_fits, Contains-append_cases}
use Rattle.zarrs_chunk_plan.proofs.Common.{Contains-append_left, Contains-append_right, AllPairs, greatest, min}
use Rattle.std.proofs.Common.{mul_comm}
use Rattle.std.proofs.Math.Nat.{suc-mul}
use Rattle.std.proofs.Math.Path.{fun_ext}
use Rattle.std.proofs.lemmas.List.{get_or-append-add, get_or-map, get_or_append_left, map-id}
use Rattle.std.proofs.lemmas.Simd.{map-map}
use Rattle.zarrs_chunk_plan.specs.Bytes.{repeated}
use Rattle.zarrs_chunk_plan.proofs.bytes.StoredOrder.{product_last}
use Rattle.zarrs_chunk_plan.proofs.copy.Joined.{pairs_mapped, pairs_of_both}

-- ---- one dimension

shifted_twice : (a b : ℕ) (xs : List ℕ) → map (λ x. x + b) (map (λ x. x + a) xs) ≡ map (λ x. x + (a + b)) xs
shifted_twice a b xs =
    map-map (λ x. x + b) (λ x. x + a) xs ∙ ap (λ f. map f xs) (fun_ext (λ x. let same : x + a + b ≡ x + (a + b) = omega arith in same))

-- once more behind so many times
pub repeated_more : (stride count : ℕ) (numbers : List ℕ)
    → repeated (suc count) stride numbers ≡ repeated count stride numbers ++ map (λ n. n + count * stride) numbers
repeated_more stride zero numbers =
    let none : (n : ℕ) → n + 0 * stride ≡ n = λ n. omega arith in
    append-nil numbers ∙ sym (map-id numbers) ∙ ap (λ f. map f numbers) (fun_ext (λ n. sym (none n)))
repeated_more stride (suc count) numbers =
    let later = map (λ n. n + stride) numbers in
    let more : stride + count * stride ≡ suc count * stride = omega (arith, suc-mul count stride) in
    ap (λ ns. numbers ++ ns) (repeated_more stride count later)
    ∙ sym (append_assoc numbers (repeated count stride later) (map (λ n. n + count * stride) later))
    ∙ ap (λ ns. repeated (suc count) stride numbers ++ ns)
    (shifted_twice stride (count * stride) numbers ∙ ap (λ a. map (λ n. n + a) numbers) more)

module _ (stride : ℕ) (numbers : List ℕ) where
  -- each is one of the numbers, by so many strides greater
  pub in_repeated : (count n : ℕ) → Contains (repeated count stride numbers) n
      → (k : ℕ) × (x : ℕ) × (k < count) × Contains numbers x × (n ≡ x + k * stride)
  in_repeated zero n (k, within, is) = absurd (omega arith)
  in_repeated (suc count) n has =
      ⊎_elim (λ before. let (k, x, less, among, is) = in_repeated count n before in (k, x, omega arith, among, is))
      (λ last. let (x, among, is) = source_of (λ x. x + count * stride) numbers n last in (count, x, omega arith, among, sym is))
      (Contains-append_cases (repeated count stride numbers) (map (λ x. x + count * stride) numbers) n
      (subst (λ xs. Contains xs n) (repeated_more stride count numbers) has))

  pub to_repeated : (count k x : ℕ) → k < count → Contains numbers x → Contains (repeated count stride numbers) (x + k * stride)
  to_repeated zero k x less among = absurd (omega arith)
  to_repeated (suc count) k x less among =
      let last = map (λ y. y + count * stride) numbers in
      subst (λ xs. Contains xs (x + k * stride)) (sym (repeated_more stride count numbers))
      (⊎_elim (λ (before : k < count). Contains-append_left (repeated count stride numbers) last (x + k * stride) (to_repeated count k x before among))
      (λ (le : count ≤ k).
      let is : k ≡ count = omega arith in
      rw is (Contains-append_right (repeated count stride numbers) last (x + count * stride) (made_of (λ y. y + count * stride) numbers x among)))
      (cases_lt k count))

  -- those of one time lie before those of the next one
  pub repeated_apart : (long first : ℕ) → AllPairs (λ one later. one + long < later) numbers
      → ((n : ℕ) → Contains numbers n → (first ≤ n) × (n + long < first + stride))
      → (count : ℕ) → AllPairs (λ one later. one + long < later) (repeated count stride numbers)
  repeated_apart long first apart lie zero = λ i j d before within. absurd (omega arith)
  repeated_apart long first apart lie (suc count) =
      subst (AllPairs (λ one later. one + long < later)) (sym (repeated_more stride count numbers))
      (pairs_of_both (λ one later. one + long < later) (repeated count stride numbers) (map (λ x. x + count * stride) numbers)
      (repeated_apart long first apart lie count)
      (pairs_mapped (λ x. x + count * stride) (λ one later. one + long < later) numbers
      (λ i j d before within. let less : get_or numbers i d + long < get_or numbers j d = apart i j d before within in omega arith))
      (λ one later was is_later.
      let (k, x, less, among, is) = in_repeated count one was in
      let (y, there, same) = source_of (λ x. x + count * stride) numbers later is_later in
      let (_, short) = lie x among in
      let (from, _) = lie y there in
      let up = row_fits k stride count stride less (omega arith) in
      omega arith))

  pub repeated_length : (count : ℕ) → length (repeated count stride numbers) ≡ count * length numbers
  repeated_length zero = let none : 0 ≡ 0 * length numbers = omega arith in none
  repeated_length (suc count) =
      let both = ap length (repeated_more stride count numbers) in
      let parts = length-append (repeated count stride numbers) (map (λ n. n + count * stride) numbers) in
      let rest = repeated_length count in
      let same = length-map numbers (λ (n : ℕ). n + count * stride) in
      let counts = suc-mul count (length numbers) in
      omega arith

  -- one of a number is that of some number, so many times later
  pub at_repeated : (count number : ℕ) → number < length (repeated count stride numbers)
      → (i : ℕ) × (j : ℕ) × (i < count) × (j < length numbers) × (number ≡ i * length numbers + j)
      × (get_or (repeated count stride numbers) number 0 ≡ get_or numbers j 0 + i * stride)
  at_repeated zero number less = absurd (omega arith)
  at_repeated (suc count) number less =
      let before = repeated count stride numbers in
      let last = map (λ n. n + count * stride) numbers in
      let long = repeated_length count in
      let same = ap (λ xs. get_or xs number 0) (repeated_more stride count numbers) in
      ⊎_elim
      (λ (early : number < length before).
      let (i, j, few, within, is, there) = at_repeated count number early in
      (i, j, omega arith, within, is, same ∙ get_or_append_left before last 0 number early ∙ there))
      (λ (le : length before ≤ number).
      let j = number - length before in
      let within : j < length numbers = omega (arith, repeated_length (suc count), less, suc-mul count (length numbers)) in
      let split : number ≡ length before + j = omega arith in (
        count,
        j,
        omega arith,
        within,
        omega arith,
        same ∙ ap (λ k. get_or (before ++ last) k 0) split ∙ get_or-append-add before last j 0 ∙ get_or-map (λ n. n + count * stride) numbers j 0 0 within,
      ))
      (cases_lt number (length before))

-- ---- dimension by dimension

some_both : (a b : ℕ) → 0 < a * b → (0 < a) × (0 < b)
some_both zero b some = absurd (omega arith)
some_both (suc a) zero some = absurd (omega arith)
some_both (suc a) (suc b) some = (omega arith, omega arith)

-- how many there are
pub begins_length : (first : ℕ) (counts strides : List ℕ) → length counts ≡ length strides → length (begins first counts strides) ≡ product counts
begins_length first [] [] same = refl
begins_length first (count ∷ counts) (stride ∷ strides) same =
    repeated_length stride (begins first counts strides) count ∙ ap (λ n. count * n) (begins_length first counts strides (omega arith))
begins_length first _ _ same = absurd (omega arith)

module _ (first : ℕ) where
  abbrev Inner : ℕ → List ℕ → List ℕ → List ℕ
  Inner d counts strides = begins first (drop d counts) (drop d strides)

  -- along the inner dimensions there are some, and each is one of all
  pub inner_of_all : (counts strides : List ℕ) (d : ℕ) → 0 < product counts → length counts ≡ length strides
      → (0 < length (Inner d counts strides)) × ((n : ℕ) → Contains (Inner d counts strides) n → Contains (begins first counts strides) n)
  inner_of_all counts strides zero some same = let many = begins_length first counts strides same in (omega arith, λ n has. has)
  inner_of_all [] [] (suc d) some same = (omega arith, λ n has. has)
  inner_of_all (count ∷ counts) (stride ∷ strides) (suc d) some same =
      let (any, rest) = some_both count (product counts) some in
      let (here, among) = inner_of_all counts strides d rest (omega arith) in
      let is : (n : ℕ) → n + 0 * stride ≡ n = λ n. omega arith in (
        here,
        λ n has. subst (Contains (begins first (count ∷ counts) (stride ∷ strides))) (is n)
            (to_repeated stride (begins first counts strides) count 0 n any (among n has)),
      )
  inner_of_all _ _ (suc d) some same = absurd (omega arith)

  -- along one more dimension
  pub one_more_dimension : (counts strides : List ℕ) (d : ℕ) → length counts ≡ length strides → d < length counts
      → Inner d counts strides ≡ repeated (get_or counts d 0) (get_or strides d 0) (Inner (suc d) counts strides)
  one_more_dimension counts strides d same within =
      ap₂ (λ cs ss. begins first cs ss) (drop-cons counts d 0 within) (drop-cons strides d 0 (omega arith))

-- ---- a product, as far as it is counted

-- a product that was cut at the greatest number, with a factor more
capped_more : (so_far x : ℕ) → min (min greatest so_far * x) greatest ≡ min greatest (so_far * x)
capped_more so_far zero = omega arith
capped_more so_far (suc x) =
    ⊎_elim (λ (more : greatest < so_far). let same : min greatest so_far ≡ greatest = omega arith in rw same (omega arith))
    (λ (le : so_far ≤ greatest). let same : min greatest so_far ≡ so_far = omega arith in rw same (omega arith)) (cases_lt greatest so_far)

-- the product of one number more
pub one_more : (numbers : List ℕ) (n : ℕ) → min (min greatest (product numbers) * n) greatest ≡ min greatest (product (numbers ++ n ∷ []))
one_more numbers n = capped_more (product numbers) n ∙ ap (min greatest) (mul_comm (product numbers) n ∙ sym (product_last numbers n))
