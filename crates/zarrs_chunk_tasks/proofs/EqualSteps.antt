-- How many numbers in equal steps are multiples of another one, by the steps of Euclid's algorithm, and how many chunks ranges of one length meet.
use Rattle.std.proofs.Common.{◌≡◌, ◌∙◌, ℕ, zero, suc, ◌+◌, ◌-◌, ◌*◌, ◌/◌, ◌%◌, ◌<◌, ◌≤◌, refl, ap, ap₂, sym, arith, ⊎_elim}
use Rattle.std.proofs.Math.Nat.{add-mul, div-add-mod, mul_comm, mul_assoc, suc-mul, mul-le-mul_right, div-mul-le_self}
use Rattle.std.proofs.lemmas.Bool.{cases_lt}
use Rattle.std.proofs.lemmas.Nat.{div-mul-add, le-div, mod-mul-add, mod_below}
use Rattle.zarrs_chunk_tasks.proofs.SumsAlong.{sum_more}
use Rattle.zarrs_chunk_tasks.specs.seen.Multiples.{in_range, in_ranges, multiples, one_if_zero}

-- what is a multiple more has the same remainder
shifted : (q z a : ℕ) → 0 < a → (q * a + z) % a ≡ z % a
shifted q z a some =
    let parts : q * a + z ≡ (q + z / a) * a + z % a = omega (arith, div-add-mod z a, mul_comm a (z / a), add-mul q (z / a) a) in
    ap (λ n. n % a) parts ∙ mod-mul-add (q + z / a) a (z % a) (mod_below z a some)

-- ---- a step and a first number that are less

reduced_at : (a step x many : ℕ) → 0 < a → (x + many * step) % a ≡ (x % a + many * (step % a)) % a
reduced_at a step x many some =
    let whole = div-add-mod step a in
    let split : many * step ≡ many * (step / a) * a + many * (step % a) =
    ap (λ n. many * n) (sym whole) ∙ omega (
      arith,
      mul_comm many (a * (step / a) + step % a),
      add-mul (a * (step / a)) (step % a) many,
      mul_comm many (step % a),
      mul_comm (a * (step / a)) many,
      mul_comm a (step / a),
      mul_assoc many (step / a) a,
      ap (λ n. many * n) (mul_comm a (step / a)),
    ) in
    let parts : x + many * step ≡ (x / a + many * (step / a)) * a + (x % a + many * (step % a)) =
    omega (arith, split, div-add-mod x a, mul_comm a (x / a), add-mul (x / a) (many * (step / a)) a) in
    ap (λ n. n % a) parts ∙ shifted (x / a + many * (step / a)) (x % a + many * (step % a)) a some

pub reduced : (a step x many : ℕ) → 0 < a → multiples a step x many ≡ multiples a (step % a) (x % a) many
unfolding multiples one_if_zero
reduced a step x zero some = refl
reduced a step x (suc many) some = ap₂ (λ m n. m + one_if_zero n) (reduced a step x many some) (reduced_at a step x many some)

-- ---- the multiples, each by how many come before it

-- As many multiples of a lie from r on and before r + many * k, the first of them at r + y.
abbrev AreAmong : (a k y many others : ℕ) → Type 0
AreAmong a k y many others = (many * k ≤ y + others * a) × (y + others * a < many * k + a)

module _ (a k r y e : ℕ) (some : 0 < k) (less : k < a) (small : y < a) (first : r + y ≡ e * a) where
  -- the next number is a multiple of a exactly where the next multiple of a is y more than a multiple of k
  same_end : (many others : ℕ) → many * k ≤ y + others * a → y + others * a < many * k + k
      → one_if_zero ((r + many * k) % a) ≡ one_if_zero ((y + others * a) % k)
  unfolding multiples one_if_zero
  same_end many others from below =
      let gap = y + others * a - many * k in
      let of_k : (y + others * a) % k ≡ gap =
      let parts : y + others * a ≡ many * k + gap = omega (arith, from) in ap (λ n. n % k) parts ∙ mod-mul-add many k gap (omega (arith, below, some))
      in
      let both = add-mul e others a in
      ⊎_elim
      (λ (later : 0 < gap).
      let any : (e + others) * a ≡ (e + others - 1) * a + a =
      ⊎_elim (λ (more : 0 < e + others). let one : e + others ≡ suc (e + others - 1) = omega arith in ap (λ n. n * a) one ∙ suc-mul (e + others - 1) a)
      (λ (none : e + others ≤ 0). let nothing : e + others ≡ 0 = omega arith in absurd (omega (arith, ap (λ n. n * a) nothing, both, first, from, later)))
      (cases_lt 0 (e + others))
      in
      let parts : r + many * k ≡ (e + others - 1) * a + (a - gap) = omega (arith, first, both, any, from, below, less) in
      let of_a = ap (λ n. n % a) parts ∙ mod-mul-add (e + others - 1) a (a - gap) (omega (arith, later, less, below)) in
      let positive : a - gap ≡ suc (a - gap - 1) = omega (arith, below, less) in
      let also : gap ≡ suc (gap - 1) = omega (arith, later) in
      ap one_if_zero (of_a ∙ positive) ∙ ap one_if_zero (sym (of_k ∙ also)))
      (λ (none : gap ≤ 0).
      let parts : r + many * k ≡ (e + others) * a + 0 = omega (arith, first, both, from, none) in
      let of_a = ap (λ n. n % a) parts ∙ mod-mul-add (e + others) a 0 (omega (arith, less)) in
      let nothing : gap ≡ 0 = omega (arith, none) in
      ap one_if_zero of_a ∙ ap one_if_zero (sym (of_k ∙ nothing)))
      (cases_lt 0 gap)

  -- before the next multiple of a there is none
  none_here : (many others : ℕ) → many * k < y + others * a → y + others * a < many * k + a → one_if_zero ((r + many * k) % a) ≡ 0
  unfolding multiples one_if_zero
  none_here many others above below =
      let gap = y + others * a - many * k in
      let both = add-mul e others a in
      let any : (e + others) * a ≡ (e + others - 1) * a + a =
      ⊎_elim (λ (more : 0 < e + others). let one : e + others ≡ suc (e + others - 1) = omega arith in ap (λ n. n * a) one ∙ suc-mul (e + others - 1) a)
      (λ (none : e + others ≤ 0). let nothing : e + others ≡ 0 = omega arith in absurd (omega (arith, ap (λ n. n * a) nothing, both, first, above)))
      (cases_lt 0 (e + others))
      in
      let parts : r + many * k ≡ (e + others - 1) * a + (a - gap) = omega (arith, first, both, any, above, below) in
      let of_a = ap (λ n. n % a) parts ∙ mod-mul-add (e + others - 1) a (a - gap) (omega (arith, above, below)) in
      let positive : a - gap ≡ suc (a - gap - 1) = omega (arith, below) in
      ap one_if_zero (of_a ∙ positive)

  pub swapped : (many others : ℕ) → AreAmong a k y many others → multiples a k r many ≡ multiples k a y others
  unfolding multiples one_if_zero
  swapped zero zero among = refl
  swapped zero (suc others) among = absurd (omega (arith, among.1, suc-mul others a))
  swapped (suc many) zero among = omega (
    arith,
    swapped many zero (omega (arith, among.0, suc-mul many k), omega (arith, small)),
    none_here many zero (omega (arith, among.0, suc-mul many k, some)) (omega (arith, small)),
  )
  swapped (suc many) (suc others) among =
      let next = suc-mul others a in
      let next_k = suc-mul many k in
      ⊎_elim
      (λ (below : y + suc others * a < many * k + a).
      omega (
        arith,
        swapped many (suc others) (omega (arith, among.0, next_k), below),
        none_here many (suc others) (omega (arith, among.0, next_k, some)) below,
      ))
      (λ (reached : many * k + a ≤ y + suc others * a).
      omega (
        arith,
        swapped many others (omega (arith, reached, next), omega (arith, among.1, next, next_k, less)),
        same_end many others (omega (arith, reached, next)) (omega (arith, among.1, next, next_k)),
      ))
      (cases_lt (y + suc others * a) (many * k + a))

-- ---- no step

same_number : (a x many : ℕ) → x < a → multiples a 0 x many ≡ many * one_if_zero x
unfolding multiples one_if_zero
same_number a x zero less = omega arith
same_number a x (suc many) less =
    let here : x + many * 0 ≡ 0 * a + x = omega arith in
    let of_a = ap (λ n. n % a) here ∙ mod-mul-add 0 a x less in
    omega (arith, same_number a x many less, ap one_if_zero of_a, suc-mul many (one_if_zero x))

pub all_or_none : (a x many : ℕ) → x < a → (x ≡ 0 → multiples a 0 x many ≡ many) × (0 < x → multiples a 0 x many ≡ 0)
unfolding one_if_zero
all_or_none a x many less = (
  λ none. omega (arith, same_number a x many less, ap (λ n. many * one_if_zero n) none),
  λ some. let positive : x ≡ suc (x - 1) = omega (arith, some) in omega (arith, same_number a x many less, ap (λ n. many * one_if_zero n) positive),
)

-- ---- one step of the algorithm

-- how many multiples of a lie behind the first of many numbers by y or more, and before the last one's next
abbrev count : (a k y many : ℕ) → ℕ
count a k y many = (many * k + (a - 1 - y)) / a

are_among : (a k y many : ℕ) → k < a → y < a → AreAmong a k y many (count a k y many)
are_among a k y many less close =
    let all = many * k + (a - 1 - y) in
    let whole = div-add-mod all a in
    let high = mod_below all a (omega (arith, less)) in
    let turned = mul_comm a (all / a) in
    (omega (arith, whole, high, turned, close), omega (arith, div-mul-le_self all a, close))

pub no_more : (a k y many : ℕ) → k < a → y < a → count a k y many ≤ many
no_more a k y many less close =
    ⊎_elim
    (λ (more : many < count a k y many).
    let at_least = mul-le-mul_right {m = suc many} {n = count a k y many} a (omega (arith, more)) in
    let shorter = mul-le-mul_right {m = k} {n = a} many (omega (arith, less)) in
    let among = are_among a k y many less close in
    absurd (omega (arith, at_least, shorter, suc-mul many a, mul_comm k many, mul_comm a many, among.1, less)))
    (λ (le : count a k y many ≤ many). le) (cases_lt many (count a k y many))

pub one_step : (a k r many y : ℕ) → 0 < k → k < a → r < a → y ≡ (a - r) % a → multiples a k r many ≡ multiples k (a % k) (y % k) (count a k y many)
one_step a k r many y some less small is =
    let close : y < a = omega (arith, is, mod_below (a - r) a (omega (arith, less))) in
    let (e, first) : (e : ℕ) × (r + y ≡ e * a) =
    ⊎_elim
    (λ (later : 0 < r).
    let here : a - r ≡ 0 * a + (a - r) = omega arith in
    (1, omega (arith, is, ap (λ n. n % a) here, mod-mul-add 0 a (a - r) (omega (arith, later, small)), small)))
    (λ (none : r ≤ 0).
    let here : a - r ≡ 1 * a + 0 = omega (arith, none) in
    (0, omega (arith, is, ap (λ n. n % a) here, mod-mul-add 1 a 0 (omega (arith, less)), none)))
    (cases_lt 0 r)
    in
    swapped a k r y e some less close first many (count a k y many) (are_among a k y many less close) ∙ reduced k a y (count a k y many) some

-- ---- the chunks that ranges of one length meet

one_at_most : (n : ℕ) → one_if_zero n ≤ 1
unfolding one_if_zero
one_at_most zero = omega arith
one_at_most (suc n) = omega arith

pub at_most_all : (a step x many : ℕ) → multiples a step x many ≤ many
unfolding multiples
at_most_all a step x zero = omega arith
at_most_all a step x (suc many) = omega (arith, at_most_all a step x many, one_at_most ((x + many * step) % a))

-- the chunk before an index is another one exactly where the index begins a chunk
before_is : (a z : ℕ) → 0 < a → 0 < z → suc ((z - 1) / a) + one_if_zero (z % a) ≡ suc (z / a)
unfolding one_if_zero
before_is a z some later =
    let whole = div-add-mod z a in
    let turned = mul_comm a (z / a) in
    ⊎_elim
    (λ (inside : 0 < z % a).
    let positive : z % a ≡ suc (z % a - 1) = omega (arith, inside) in
    let parts : z - 1 ≡ z / a * a + (z % a - 1) = omega (arith, whole, turned, inside) in
    let quotient = ap (λ n. n / a) parts ∙ div-mul-add (z / a) a (z % a - 1) (omega (arith, mod_below z a some, inside)) in
    omega (arith, quotient, ap one_if_zero positive))
    (λ (begins : z % a ≤ 0).
    let none : z % a ≡ 0 = omega (arith, begins) in
    let more : 0 < z / a =
    ⊎_elim (λ (some_chunk : 0 < z / a). some_chunk)
    (λ (first : z / a ≤ 0). let zero_is : z / a ≡ 0 = omega (arith, first) in absurd (omega (arith, whole, turned, ap (λ n. n * a) zero_is, none, later)))
    (cases_lt 0 (z / a))
    in
    let one : z / a ≡ suc (z / a - 1) = omega (arith, more) in
    let next = ap (λ n. n * a) one ∙ suc-mul (z / a - 1) a in
    let parts : z - 1 ≡ (z / a - 1) * a + (a - 1) = omega (arith, whole, turned, none, next, some) in
    let quotient = ap (λ n. n / a) parts ∙ div-mul-add (z / a - 1) a (a - 1) (omega (arith, some)) in
    omega (arith, quotient, ap one_if_zero none, more))
    (cases_lt 0 (z % a))

pub no_less : (a x more : ℕ) → 0 < a → x / a ≤ (x + more) / a
no_less a x more some = le-div (x / a) (x + more) a some (omega (arith, div-mul-le_self x a))

pub telescoped : (a long start many : ℕ) → 0 < a → 0 < long
    → in_ranges a long start many + multiples a long (start + long) many + start / a ≡ many + (start + many * long) / a
unfolding multiples
telescoped a long start zero some any = let here : start + 0 * long ≡ start = omega arith in omega (arith, ap (λ n. n / a) here)
telescoped a long start (suc many) some any =
    let next : suc many ≡ many + 1 = omega arith in
    let place : 0 + many ≡ many = omega arith in
    let sum_is =
    ap (λ n. in_ranges a long start n) next ∙ sum_more (in_range a long start) 0 many ∙ ap (λ n. in_ranges a long start many + in_range a long start n) place in
    let z = start + many * long + long in
    let end : start + many * long + (long - 1) ≡ z - 1 = omega (arith, any) in
    let end_is = ap (λ n. n / a) end in
    let begins : start + long + many * long ≡ z = omega arith in
    let begins_is = ap (λ n. one_if_zero (n % a)) begins in
    let behind : start + suc many * long ≡ z = omega (arith, suc-mul many long) in
    let behind_is = ap (λ n. n / a) behind in
    omega (
      arith,
      sum_is,
      telescoped a long start many some any,
      end_is,
      begins_is,
      behind_is,
      before_is a z some (omega (arith, any)),
      no_less a (start + many * long) (long - 1) some,
    )
