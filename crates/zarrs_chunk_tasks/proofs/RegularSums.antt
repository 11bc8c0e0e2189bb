-- What is counted of groups of the chunks of a regular dimension, beside another regular dimension.
use Rattle.std.proofs.Common.{◌≡◌, ◌∙◌, ℕ, zero, suc, ◌+◌, ◌-◌, ◌*◌, ◌/◌, ◌<◌, ◌≤◌, IsTrue, List, map, max, min, refl, ap, ap₂, subst, sym, arith, ◌++◌, ◌∷◌}
use Rattle.std.proofs.Common.{⊎_elim}
use Rattle.std.proofs.Math.Nat.{add-mul, div-add-mod, div-div-eq-div-mul, div-mul-le_self, mul-le-mul_right, mul_comm}
use Rattle.std.proofs.lemmas.Bool.{cases_lt}
use Rattle.std.proofs.lemmas.Nat.{div-mul-add, le-div, mod_below}
use Rattle.std.proofs.lemmas.List.Sums.{fold-append, sum_by-append}
use Rattle.std.specs.List.{AllByRecursion, range_with_len, sum}
use Rattle.zarrs_chunk_base.specs.Dimension.{Dimension, Holds, IsChain}
use Rattle.zarrs_chunk_base.specs.Greatest.{greatest}
use Rattle.zarrs_chunk_axes.specs.Along.{Along, IsRange, IsRegular}
use Rattle.zarrs_chunks.proofs.Chains.{no_later}
use Rattle.zarrs_chunk_plan.proofs.MetChunks.{met_at_most, met_is}
use Rattle.zarrs_chunk_plan.proofs.Products.{greatest_from, greatest_of}
use Rattle.zarrs_chunk_plan.specs.seen.Sources.{met, taken, taken_from}
use Rattle.zarrs_chunk_tasks.specs.declared.groups_along.Regular.{Regular}
use Rattle.zarrs_chunk_tasks.specs.declared.groups_along.Sums.{Sums}
use Rattle.zarrs_chunk_tasks.specs.seen.Counts.{AreJoined, AreRegular, AreSums, AreTaking, indices, of_group, of_groups, whole}
use Rattle.zarrs_chunk_tasks.specs.seen.Multiples.{in_range, in_ranges}
use Rattle.zarrs_chunk_tasks.specs.seen.Grouped.{grouped}
use Rattle.zarrs_chunk_tasks.proofs.Grouped.{grouped_chain, holds_its_chunks, next_group}
use Rattle.zarrs_chunk_tasks.proofs.SumsAlong.{greatest_more, one_of, sum_more, whole_is}

-- ---- a regular dimension

module _ (d : Dimension) (b : ℕ) (chain : IsChain d) (some : 0 < b) (regular : IsRegular d b) where
  -- an index of the array lies in the chunk of its number divided by the edge
  in_chunk : (c rest : ℕ) → rest < b → c * b + rest < d.array_size → Holds d c (c * b + rest)
  in_chunk c rest small below = subst (λ m. Holds d m (c * b + rest)) (div-mul-add c b rest small) (regular (c * b + rest) below)

  ends_after : (c : ℕ) → (c + 1) * b ≤ d.array_size → (c + 1) * b ≤ d.end c
  ends_after c within =
      let next = next_group c b in
      let last = in_chunk c (b - 1) (omega arith) (omega arith) in
      omega (arith, next, last.below)

  pub starts : (c : ℕ) → c * b < d.array_size → IsTrue (d.has_chunk c) × (d.start c ≡ c * b)
  starts zero below =
      let here = in_chunk 0 0 some (omega arith) in
      (here.chunk, omega (arith, chain.from_zero here.chunk))
  starts (suc c) below =
      let one : c + 1 ≡ suc c = omega arith in
      let size = ap (λ m. m * b) one in
      let here = in_chunk (suc c) 0 some (omega arith) in
      let (_, gap) = chain.no_gap c (subst (λ m. IsTrue (d.has_chunk m)) (sym one) here.chunk) in
      (here.chunk, omega (arith, ends_after c (omega (arith, size)), gap, ap d.start one, size, here.from))

  pub ends : (c : ℕ) → (c + 1) * b < d.array_size → d.end c ≡ (c + 1) * b
  ends c below =
      let (has, start) = starts (c + 1) below in
      let (_, gap) = chain.no_gap c has in
      omega (arith, start, gap)

  -- a chunk takes all of itself of a range that it lies in
  pub takes_all : (at n c : ℕ) → at ≤ c * b → (c + 1) * b ≤ at + n → at + n ≤ d.array_size
      → (taken_from d at c ≡ c * b) × (taken d at n c ≡ b) × ((c + 1) * b ≤ min (d.end c) (at + n))
  takes_all at n c low high within =
      let next = next_group c b in
      let (_, start) = starts c (omega arith) in
      let after = ends_after c (omega arith) in (
        omega (arith, start),
        ⊎_elim (λ (less : (c + 1) * b < at + n). omega (arith, start, next, ends c (omega arith)))
            (λ (le : at + n ≤ (c + 1) * b). omega (arith, start, next, after)) (cases_lt ((c + 1) * b) (at + n)),
        omega (arith, after),
      )

-- groups of the chunks of a regular dimension are the chunks of one
pub grouped_regular : (d : Dimension) (b k : ℕ) → IsChain d → 0 < b → 0 < k → IsRegular d b → IsRegular (grouped d k) (b * k)
grouped_regular d b k chain some any regular i below =
    let joined = div-div-eq-div-mul i b k in
    subst (λ t. Holds (grouped d k) t i) joined
    ((holds_its_chunks d k chain any (i / b / k) i).0 (record { chunk = i / b; holds = regular i below; joined = refl }))

-- ---- sums of parts

-- a range cut in two
parts : (f : ℕ → ℕ) (begin one other : ℕ)
    → map f (range_with_len begin (one + other)) ≡ map f (range_with_len begin one) ++ map f (range_with_len (begin + one) other)
parts f begin zero other =
    let same : 0 + other ≡ other = omega arith in
    let place : begin ≡ begin + 0 = omega arith in
    ap₂ (λ a n. map f (range_with_len a n)) place same
parts f begin (suc one) other =
    let more : suc one + other ≡ suc (one + other) = omega arith in
    let place : begin + 1 + one ≡ begin + suc one = omega arith in
    ap (λ n. map f (range_with_len begin n)) more
    ∙ ap (λ xs. f begin ∷ xs) (parts f (begin + 1) one other ∙ ap (λ a. map f (range_with_len (begin + 1) one) ++ map f (range_with_len a other)) place)

sum_parts : (f : ℕ → ℕ) (begin one other : ℕ)
    → sum (map f (range_with_len begin (one + other))) ≡ sum (map f (range_with_len begin one)) + sum (map f (range_with_len (begin + one) other))
sum_parts f begin one other = ap sum (parts f begin one other) ∙ sum_by-append (λ n. n) (map f (range_with_len begin one)) _

greatest_parts : (f : ℕ → ℕ) (begin one other : ℕ)
    → greatest_of (map f (range_with_len begin (one + other)))
    ≡ max (greatest_of (map f (range_with_len begin one))) (greatest_of (map f (range_with_len (begin + one) other)))
greatest_parts f begin one other =
    ap greatest_of (parts f begin one other) ∙ fold-append max 0 (map f (range_with_len begin one)) (map f (range_with_len (begin + one) other))
    ∙ greatest_from (greatest_of (map f (range_with_len begin one))) (map f (range_with_len (begin + one) other))

-- what holds of each number of a range, added up
by_one : (P : ℕ → Type 0) → P 0 → ((n : ℕ) → P n → P (n + 1)) → (n : ℕ) → P n
by_one P none more zero = none
by_one P none more (suc n) = let next : n + 1 ≡ suc n = omega arith in subst P next (more n (by_one P none more n))

sums_same : (f g : ℕ → ℕ) (a b n : ℕ) → ((j : ℕ) → j < n → f (a + j) ≡ g (b + j)) → sum (map f (range_with_len a n)) ≡ sum (map g (range_with_len b n))
sums_same f g a b =
    by_one (λ n. ((j : ℕ) → j < n → f (a + j) ≡ g (b + j)) → sum (map f (range_with_len a n)) ≡ sum (map g (range_with_len b n))) (λ same. refl)
    (λ n rest same. omega (arith, sum_more f a n, sum_more g b n, rest (λ j less. same j (omega arith)), same n (omega arith)))

sum_at_most : (f : ℕ → ℕ) (a n most : ℕ) → ((j : ℕ) → j < n → f (a + j) ≤ most) → sum (map f (range_with_len a n)) ≤ n * most
sum_at_most f a n most =
    by_one (λ n. ((j : ℕ) → j < n → f (a + j) ≤ most) → sum (map f (range_with_len a n)) ≤ n * most) (λ few. omega arith)
    (λ n rest few. omega (arith, sum_more f a n, rest (λ j less. few j (omega arith)), few n (omega arith), next_group n most)) n

greatest_is : (f : ℕ → ℕ) (a n long : ℕ) → 0 < n → ((j : ℕ) → j < n → f (a + j) ≡ long) → greatest_of (map f (range_with_len a n)) ≡ long
greatest_is f a n long some same =
    let (most, least) = by_one
    (λ n. ((j : ℕ) → j < n → f (a + j) ≡ long)
    → (greatest_of (map f (range_with_len a n)) ≤ long) × (0 < n → long ≤ greatest_of (map f (range_with_len a n))))
    (λ same. (omega arith, λ some. absurd (omega arith)))
    (λ n rest same.
    let (most, _) = rest (λ j less. same j (omega arith)) in
    (omega (arith, greatest_more f a n, most, same n (omega arith)), λ _. omega (arith, greatest_more f a n, same n (omega arith)))) n same
    in
    omega (arith, most, least some)

-- numbers of two lists that differ in equal steps, added up
sum_both : (f g : ℕ → ℕ) (begin n times less more : ℕ) → ((j : ℕ) → j < n → f (begin + j) + less ≡ g (begin + j) * times + more)
    → sum (map f (range_with_len begin n)) + n * less ≡ sum (map g (range_with_len begin n)) * times + n * more
sum_both f g begin n times less more =
    by_one
    (λ n. ((j : ℕ) → j < n → f (begin + j) + less ≡ g (begin + j) * times + more)
    → sum (map f (range_with_len begin n)) + n * less ≡ sum (map g (range_with_len begin n)) * times + n * more)
    (λ same. omega arith)
    (λ n rest same.
    let product_is = ap (λ m. m * times) (sum_more g begin n) ∙ add-mul (sum (map g (range_with_len begin n))) (g (begin + n)) times in
    omega (
      arith,
      sum_more f begin n,
      rest (λ j less. same j (omega arith)),
      same n (omega arith),
      product_is,
      next_group n less,
      next_group n more,
    )) n

sum_at_least : (f : ℕ → ℕ) (begin n : ℕ) → ((j : ℕ) → j < n → 0 < f (begin + j)) → n ≤ sum (map f (range_with_len begin n))
sum_at_least f begin =
    by_one (λ n. ((j : ℕ) → j < n → 0 < f (begin + j)) → n ≤ sum (map f (range_with_len begin n))) (λ some. omega arith)
    (λ n rest some. omega (arith, sum_more f begin n, rest (λ j less. some j (omega arith)), some n (omega arith)))

-- ---- the groups between the first one and the last one

-- each of them takes so many indices, from the second group's start on
pub record AreFull (at size group groups long : ℕ) : Type 0 where
  pub some : 0 < long
  pub begins : at ≤ (group + 1) * long
  pub within : (group + 1) * long < at + size
  pub fits : ((group + 1) * long - at) + (groups - 2) * long ≤ size
  pub long_fits : long ≤ size

-- then where they begin isn't cut off
pub start_is : (at size group groups first long next begin start : ℕ) → AreFull at size group groups long → at + size ≤ greatest → first + size ≤ greatest
    → group + groups ≤ greatest → 2 < groups → next ≡ min (group + 1) greatest → begin ≡ min (next * long) greatest
    → start ≡ min (first + (begin - at)) greatest → start ≡ first + ((group + 1) * long - at)
start_is at size group groups first long next begin start full fits other_fits groups_fit three next_is begin_is is =
    let one : next ≡ group + 1 = omega (arith, next_is, groups_fit, three) in
    omega (arith, is, begin_is, ap (λ n. n * long) one, full.begins, full.within, fits, other_fits)

module _ (d : Dimension) (k b long at size group groups first_chunk last_chunk : ℕ) (chain : IsChain d) (any : 0 < k) (some : 0 < b) (long_is : long ≡ b * k)
    (regular : IsRegular d b) (taking : AreTaking k at size first_chunk last_chunk group groups d) (three : 2 < groups) where
  abbrev g : Dimension
  g = grouped d k

  abbrev many : ℕ
  many = groups - 2

  some_long : 0 < long
  some_long = let one = mul-le-mul_right {m = 1} {n = b} k some in omega (arith, long_is)

  g_chain : IsChain g
  g_chain = grouped_chain d k chain any

  g_regular : IsRegular g long
  g_regular = subst (IsRegular g) (sym long_is) (grouped_regular d b k chain some any regular)

  -- a group that takes some begins within the range
  begins : (t : ℕ) → group ≤ t → t < group + groups → t * long < at + size
  begins t low high =
      let (has, taken_some) = taking.take t low high in
      let i = taken_from g at t in
      let order = no_later g g_chain t (i / long) i i (omega arith) (record { chunk = has; from = omega arith; below = omega (arith, taken_some) })
      (g_regular i (omega (arith, taken_some, taking.within)))
      in
      let le = mul-le-mul_right long order in
      let below = div-mul-le_self i long in
      omega (arith, le, below, taken_some)

  up : (j : ℕ) → j < many → (group + 1 + j + 1) * long < at + size
  up j less = begins (group + 1 + j + 1) (omega arith) (omega (arith, less, three))

  behind_first : at ≤ (group + 1) * long
  behind_first =
      let (_, taken_some) = taking.take group (omega arith) (omega (arith, three)) in
      let end = ends g long g_chain some_long g_regular group (omega (arith, begins (group + 1) (omega arith) (omega (arith, three)), taking.within)) in
      omega (arith, taken_some, end)

  place : (j : ℕ) → (group + 1 + j) * long ≡ (group + 1) * long + j * long
  place j = add-mul (group + 1) j long

  -- a group between takes all of itself
  all_of : (j : ℕ) → j < many → (taken_from g at (group + 1 + j) ≡ (group + 1 + j) * long) × (taken g at size (group + 1 + j) ≡ long)
      × ((group + 1 + j + 1) * long ≤ min (g.end (group + 1 + j)) (at + size))
  all_of j less =
      takes_all g long g_chain some_long g_regular at size (group + 1 + j) (omega (arith, place j, behind_first)) (omega (arith, up j less)) taking.within

  ends_within : (j : ℕ) → j < many → ((group + 1) * long - at) + j * long + long < size
  ends_within j less = let next = next_group (group + 1 + j) long in omega (arith, up j less, next, place j, behind_first)

  pub are_full : AreFull at size group groups long
  are_full =
      let last = ends_within (many - 1) (omega (arith, three)) in
      let next = next_group (many - 1) long in
      let one : many - 1 + 1 ≡ many = omega (arith, three) in
      record {
        some = some_long;
        begins = behind_first;
        within = begins (group + 1) (omega arith) (omega (arith, three));
        fits = omega (arith, last, next, ap (λ n. n * long) one);
        long_fits = omega (arith, last);
      }

  module _ (other : Dimension) (a first : ℕ) (also : IsChain other) (some_other : 0 < a) (other_regular : IsRegular other a)
      (other_within : first + size ≤ other.array_size) where
    -- where in the other dimension the second group begins
    abbrev start : ℕ
    start = first + ((group + 1) * long - at)

    abbrev x : ℕ → ℕ
    x j = start + j * long

    below : (j : ℕ) → j < many → x j + long < first + size
    below j less = omega (arith, ends_within j less)

    low : (j : ℕ) → j < many → Holds other (x j / a) (x j)
    low j less = other_regular (x j) (omega (arith, below j less, other_within))

    high : (j : ℕ) → j < many → Holds other ((x j + (long - 1)) / a) (x j + (long - 1))
    high j less = other_regular (x j + (long - 1)) (omega (arith, below j less, other_within, some_long))

    what_is : (count : Dimension → ℕ → ℕ → ℕ) (j : ℕ) → j < many → of_group count other g first at size (group + 1 + j) ≡ count other (x j) long
    what_is count j less =
        let (starts_at, takes_long, _) = all_of j less in
        let here : first + (taken_from g at (group + 1 + j) - at) ≡ x j = omega (arith, starts_at, place j, behind_first) in
        ap₂ (λ s n. count other s n) here takes_long

    met_here : (j : ℕ) (less : j < many) → of_group met other g first at size (group + 1 + j) ≡ in_range a long start j
    met_here j less = what_is met j less ∙ met_is other also (x j / a) ((x j + (long - 1)) / a) (x j) long (low j less) (high j less)

    few_here : (j : ℕ) → j < many → of_group met other g first at size (group + 1 + j) ≤ long
    few_here j less =
        let at_most = met_at_most other also (x j / a) ((x j + (long - 1)) / a) (x j) long some_long (low j less) (high j less) in
        omega (arith, what_is met j less, at_most)

    whole_here : (j : ℕ) (less : j < many)
        → of_group whole other g first at size (group + 1 + j) ≡ other.end ((x j + (long - 1)) / a) - other.start (x j / a)
    whole_here j less = what_is whole j less ∙ whole_is other also (x j / a) ((x j + (long - 1)) / a) (x j) long (low j less) (high j less)

    chunks_are : sum (of_groups met other g first at size (group + 1) many) ≡ in_ranges a long start many
    chunks_are =
        sums_same (of_group met other g first at size) (in_range a long start) (group + 1) 0 many
        (λ j less. let here : j ≡ 0 + j = omega arith in met_here j less ∙ ap (in_range a long start) here)

    few : sum (of_groups met other g first at size (group + 1) many) ≤ many * long
    few = sum_at_most (of_group met other g first at size) (group + 1) many long few_here

    -- no chunk is met more often than there are indices
    at_most : in_ranges a long start many ≤ first + size
    at_most = omega (arith, few, chunks_are, are_full.fits)

    -- ---- their elements

    abbrev last : ℕ
    last = (first + (size - 1)) / a

    module _ (last_start last_edge before : ℕ) (range : IsRange other last (last_start, last_edge)) (is : before ≡ min ((last_start - start) / long) many) where
      abbrev touching : ℕ
      touching = many - before

      last_in : last * a ≤ first + (size - 1)
      last_in = div-mul-le_self (first + (size - 1)) a

      last_starts : last_start ≡ last * a
      last_starts =
          let (_, begin) = starts other a also some_other other_regular last (omega (arith, last_in, other_within, taking.over.some)) in
          omega (arith, begin, range.start.start)

      ends_before : (j : ℕ) → j < before → x j + long ≤ last * a
      ends_before j less =
          let le = mul-le-mul_right {m = j + 1} {n = (last_start - start) / long} long (omega (arith, less, is)) in
          omega (arith, le, div-mul-le_self (last_start - start) long, next_group j long, last_starts, some_long)

      ends_behind : (j : ℕ) → before ≤ j → j < many → last * a < x j + long
      ends_behind j more less =
          let le = mul-le-mul_right {m = (last_start - start) / long} {n = j} long (omega (arith, more, less, is)) in
          let whole = div-add-mod (last_start - start) long in
          omega (arith, le, whole, mul_comm long ((last_start - start) / long), mod_below (last_start - start) long some_long, last_starts)

      -- chunks before the last one have the edge of the dimension
      whole_before : (j : ℕ) → j < before
          → of_group whole other g first at size (group + 1 + j) ≡ of_group met other g first at size (group + 1 + j) * a
      whole_before j less =
          let lo = x j / a in
          let hi = (x j + (long - 1)) / a in
          let among : j < many = omega (arith, less, is) in
          let order = no_later other also lo hi (x j) (x j + (long - 1)) (omega arith) (low j among) (high j among) in
          let near = div-mul-le_self (x j + (long - 1)) a in
          let near_low = div-mul-le_self (x j) a in
          let inside : hi + 1 ≤ last =
          ⊎_elim (λ (below : hi < last). omega arith)
          (λ (past : last ≤ hi). absurd (omega (arith, mul-le-mul_right a past, near, ends_before j less, some_long))) (cases_lt hi last)
          in
          let ended = mul-le-mul_right a inside in
          let (_, begin) = starts other a also some_other other_regular lo (omega (arith, near_low, below j among, other_within, some_long)) in
          let end = ends other a also some_other other_regular hi (omega (arith, ended, last_in, other_within, taking.over.some)) in
          let split : lo + (suc hi - lo) ≡ hi + 1 = omega (arith, order) in
          let both = ap (λ m. m * a) (sym split) ∙ add-mul lo (suc hi - lo) a in
          whole_here j among ∙ omega (arith, begin, end, both) ∙ ap (λ m. m * a) (sym (met_here j among))

      -- the last one has its own
      whole_behind : (j : ℕ) → before ≤ j → j < many
          → of_group whole other g first at size (group + 1 + j) + a ≡ of_group met other g first at size (group + 1 + j) * a + last_edge
      whole_behind j more less =
          let lo = x j / a in
          let hi = (x j + (long - 1)) / a in
          let order = no_later other also lo hi (x j) (x j + (long - 1)) (omega arith) (low j less) (high j less) in
          let near_low = div-mul-le_self (x j) a in
          let reaches = le-div last (x j + (long - 1)) a some_other (omega (arith, ends_behind j more less, some_long)) in
          let within : hi ≤ last =
          le-div hi (first + (size - 1)) a some_other (omega (arith, div-mul-le_self (x j + (long - 1)) a, below j less, some_long)) in
          let same : hi ≡ last = omega (arith, reaches, within) in
          let (_, begin) = starts other a also some_other other_regular lo (omega (arith, near_low, below j less, other_within, some_long)) in
          let end : other.end hi ≡ last_start + last_edge = ap other.end same ∙ omega (arith, range.edge.edge, range.start.start) in
          let split : lo + (suc hi - lo) ≡ last + 1 = omega (arith, order, same) in
          let both = next_group last a in
          let parts = ap (λ m. m * a) (sym split) ∙ add-mul lo (suc hi - lo) a in
          let met_is_here = ap (λ m. m * a) (met_here j less) in
          let no_later_start = mul-le-mul_right {m = lo} {n = last} a (omega (arith, order, same)) in
          omega (arith, whole_here j less, end, begin, parts, both, met_is_here, last_starts, no_later_start)

      touching_few : touching ≤ in_ranges a long start many
      touching_few =
          let least = sum_at_least (of_group met other g first at size) (group + 1) many
          (λ j less.
          let order = no_later other also (x j / a) ((x j + (long - 1)) / a) (x j) (x j + (long - 1)) (omega arith) (low j less) (high j less) in
          omega (arith, met_here j less, order))
          in
          omega (arith, least, chunks_are)

      elements_are : sum (of_groups whole other g first at size (group + 1) many) ≡ (in_ranges a long start many - touching) * a + touching * last_edge
      elements_are =
          let f = of_group whole other g first at size in
          let m = of_group met other g first at size in
          let split : many ≡ before + touching = omega (arith, is) in
          let all = ap (λ n. sum (map f (range_with_len (group + 1) n))) split ∙ sum_parts f (group + 1) before touching in
          let all_met = ap (λ n. sum (map m (range_with_len (group + 1) n))) split ∙ sum_parts m (group + 1) before touching in
          let first_part = sum_both f m (group + 1) before a 0 0 (λ j less. omega (arith, whole_before j less)) in
          let behind = sum_both f m (group + 1 + before) touching a a last_edge
          (λ j less.
          let here : group + 1 + (before + j) ≡ group + 1 + before + j = omega arith in
          ap (λ t. f t + a) (sym here) ∙ whole_behind (before + j) (omega arith) (omega (arith, less)) ∙ ap (λ t. m t * a + last_edge) here)
          in
          let product_is = add-mul (sum (map m (range_with_len (group + 1) before))) (sum (map m (range_with_len (group + 1 + before) touching))) a in
          let chunks = in_ranges a long start many in
          let met_product = ap (λ n. n * a) (sym all_met ∙ chunks_are) in
          let rest : (chunks - touching) + touching ≡ chunks = omega (arith, touching_few) in
          let rest_product = add-mul (chunks - touching) touching a in
          omega (arith, all, first_part, behind, product_is, met_product, rest_product, ap (λ n. n * a) rest)

      -- they are what is counted
      pub sums_are : (chunks : ℕ) → first + size ≤ greatest → chunks ≡ min (in_ranges a long start many) greatest → (sums : Sums) → a ≤ greatest
          → last_edge ≤ greatest → sums.largest ≡ long → sums.chunks ≡ chunks → sums.elements ≡ (chunks - touching) * a + touching * last_edge
          → AreSums k at size (group + 1) many first d other sums
      sums_are chunks fits is_cut sums small small_last largest chunks_is elements =
          let counted : chunks ≡ in_ranges a long start many = omega (arith, is_cut, at_most, fits) in
          let less : touching ≤ chunks = omega (arith, touching_few, counted) in
          record {
            largest =
                largest ∙ sym (greatest_is (of_group indices other g first at size) (group + 1) many long (omega (arith, three)) (λ j less. (all_of j less).1));
            chunks = chunks_is ∙ counted ∙ sym chunks_are;
            elements = elements ∙ ap (λ n. (n - touching) * a + touching * last_edge) counted ∙ sym elements_are;
            few = λ end same.
                let among : end < many = omega (arith, same) in
                let (_, _, reached) = all_of end among in
                let (begin, _, _) = all_of 0 (omega (arith, among)) in
                let step : group + 1 + 0 ≡ group + 1 = omega arith in
                let all : many * long ≡ (end + 1) * long = ap (λ n. n * long) same in
                omega (
                  arith,
                  chunks_is,
                  counted,
                  chunks_are,
                  few,
                  reached,
                  begin,
                  ap (taken_from g at) step,
                  ap (λ n. n * long) step,
                  place end,
                  next_group (group + 1 + end) long,
                  next_group end long,
                  all,
                );
            small =
                let one = mul-le-mul_right (chunks - touching) small in
                let other_part = mul-le-mul_right touching small_last in
                omega (
                  arith,
                  chunks_is,
                  elements,
                  one,
                  other_part,
                  less,
                  mul_comm a (chunks - touching),
                  mul_comm last_edge touching,
                  mul_comm greatest touching,
                  mul_comm greatest (chunks - touching),
                );
          }

-- along a dimension of a grid
pub full_along : (ds others : List Dimension) (dimension k at size group groups first_chunk last_chunk : ℕ) (regular : Regular) → AllByRecursion IsChain ds
    → AllByRecursion IsChain others → 0 < k → 2 < groups → Along (AreTaking k at size first_chunk last_chunk group groups) ds dimension
    → Along (λ d. Along (λ s. AreRegular k d s regular) others dimension) ds dimension → AreFull at size group groups regular.long
full_along ds others dimension k at size group groups first_chunk last_chunk regular chains also some three takes are_regular =
    let it = one_of _ ds dimension chains takes in
    let other = one_of _ others dimension also (it.at _ are_regular) in
    let is = other.at _ (it.at _ are_regular) in
    let (b, some_edge, regular_edge, long_is) = is.edge in
    are_full it.d k b regular.long at size group groups first_chunk last_chunk it.chain some some_edge long_is regular_edge (it.at _ takes) three

-- ---- groups and those after them

pub joined_are : (d other : Dimension) (k at size group first_chunk last_chunk groups m n first : ℕ) → IsChain d → 0 < k
    → AreTaking k at size first_chunk last_chunk group groups d → m + n ≤ groups → (one two sums : Sums) → AreSums k at size group m first d other one
    → AreSums k at size (group + m) n first d other two → AreJoined one two sums → AreSums k at size group (m + n) first d other sums
joined_are d other k at size group first_chunk last_chunk groups m n first chain some taking within one two sums ones twos joined =
    let g = grouped d k in
    -- a group starts where the one before it ends
    let start_after : (t : ℕ) → group ≤ t → t + 1 < group + groups → g.end t ≤ taken_from g at (t + 1) =
    λ t low below.
    let (has, _) = taking.take (t + 1) (omega arith) below in
    let (_, gap) = (grouped_chain d k chain some).no_gap t has in
    omega (arith, gap)
    in
    let few : (last : ℕ) → m + n ≡ last + 1 → one.chunks + two.chunks + taken_from g at group ≤ min (g.end (group + last)) (at + size) =
    λ last same.
    ⊎_elim
    (λ (some_behind : 0 < n).
    let two_end : group + m + (n - 1) ≡ group + last = omega (arith, same, some_behind) in
    let two_few = twos.few (n - 1) (omega (arith, some_behind)) in
    ⊎_elim
    (λ (some_before : 0 < m).
    let after : group + (m - 1) + 1 ≡ group + m = omega (arith, some_before) in
    omega (
      arith,
      two_few,
      ap g.end two_end,
      ones.few (m - 1) (omega (arith, some_before)),
      start_after (group + (m - 1)) (omega arith) (omega (arith, within, some_before, some_behind)),
      ap (taken_from g at) after,
    ))
    (λ (none : m ≤ 0).
    let here : group + m ≡ group = omega (arith, none) in
    let nothing : m ≡ 0 = omega (arith, none) in
    let no_chunks : one.chunks ≡ 0 = ones.chunks ∙ ap (λ n. sum (of_groups met other g first at size group n)) nothing in
    omega (arith, two_few, ap g.end two_end, no_chunks, ap (taken_from g at) here)) (cases_lt 0 m))
    (λ (none : n ≤ 0).
    let nothing : n ≡ 0 = omega (arith, none) in
    let no_chunks : two.chunks ≡ 0 = twos.chunks ∙ ap (λ n. sum (of_groups met other g first at size (group + m) n)) nothing in
    omega (arith, ones.few last (omega (arith, same, none)), no_chunks)) (cases_lt 0 n)
    in
    let fits : one.chunks + two.chunks ≤ size =
    ⊎_elim
    (λ (some_groups : 0 < m + n). omega (arith, few (m + n - 1) (omega (arith, some_groups)), taking.over.some))
    (λ (none : m + n ≤ 0).
    let no_groups : m ≡ 0 = omega (arith, none) in
    let none_behind : n ≡ 0 = omega (arith, none) in
    let no_chunks : one.chunks ≡ 0 = ones.chunks ∙ ap (λ n. sum (of_groups met other g first at size group n)) no_groups in
    let no_more : two.chunks ≡ 0 = twos.chunks ∙ ap (λ n. sum (of_groups met other g first at size (group + m) n)) none_behind in
    omega (arith, no_chunks, no_more)) (cases_lt 0 (m + n))
    in
    let chunks_are : sums.chunks ≡ one.chunks + two.chunks = omega (arith, joined.chunks, fits, taking.over.fits) in
    let elements_are : sums.elements ≡ one.elements + two.elements = omega (arith, joined.elements, ones.small, twos.small, fits, taking.over.fits) in
    record {
      largest = joined.largest ∙ ap₂ max ones.largest twos.largest ∙ sym (greatest_parts (of_group indices other g first at size) group m n);
      chunks = chunks_are ∙ ap₂ ◌+◌ ones.chunks twos.chunks ∙ sym (sum_parts (of_group met other g first at size) group m n);
      elements = elements_are ∙ ap₂ ◌+◌ ones.elements twos.elements ∙ sym (sum_parts (of_group whole other g first at size) group m n);
      few = λ last same. omega (arith, chunks_are, few last same);
      small = omega (arith, chunks_are, elements_are, ones.small, twos.small);
    }
