-- What is counted of a range of indices, and of the groups that hold some of it, along one dimension.
use Rattle.std.proofs.Common.{◌≡◌, ◌∙◌, ℕ, zero, suc, ◌+◌, ◌-◌, ◌*◌, ◌<◌, ◌≤◌, IsTrue, List, [], ◌∷◌, fold, length, map, max, min, refl, ap, ap₂}
use Rattle.std.proofs.Common.{subst, sym, ⊎_elim, arith}
use Rattle.std.proofs.lemmas.Bool.{cases_lt, le-ltb, lt-ltb}
use Rattle.std.proofs.lemmas.List.FromFn.{map-range_with_len_more, sum_by-map-range_with_len_more}
use Rattle.std.proofs.lemmas.List.Sums.{fold-append}
use Rattle.std.specs.List.{AllByRecursion, range_with_len, sum}
use Rattle.zarrs_chunk_base.specs.Dimension.{Dimension, Holds, IsChain}
use Rattle.zarrs_chunk_base.specs.Greatest.{greatest}
use Rattle.zarrs_chunk_axes.specs.Along.{Along, IsRange}
use Rattle.zarrs_chunks.proofs.Chains.{apart, at_most_start, in_chain, no_later}
use Rattle.zarrs_chunk_plan.proofs.MetChunks.{met_at_most, met_is}
use Rattle.zarrs_chunk_plan.specs.seen.Sources.{TakesSome, home, home_from, met, taken_from}
use Rattle.zarrs_chunk_tasks.specs.declared.groups_along.Met.{Met}
use Rattle.zarrs_chunk_tasks.specs.declared.groups_along.Sums.{Sums}
use Rattle.zarrs_chunk_tasks.specs.Counts.{greatest_of_128}
use Rattle.zarrs_chunk_tasks.specs.seen.Counts.{AreMetAlong, AreSums, AreTaking, IsTaken, indices, of_group, whole}
use Rattle.zarrs_chunk_tasks.specs.seen.Grouped.{grouped}
use Rattle.zarrs_chunk_tasks.proofs.GroupBoxes.{Reaches, first_in, last_in}
use Rattle.zarrs_chunk_tasks.proofs.Grouped.{grouped_chain}

-- ---- the dimension of a number

pub record One (ds : List Dimension) (k : ℕ) : Type 1 where
  pub d : Dimension
  pub chain : IsChain d
  pub at : (Q : Dimension → Type 0) → Along Q ds k → Q d
  pub back : (Q : Dimension → Type 0) → Q d → Along Q ds k

pub one : (ds : List Dimension) (k : ℕ) → AllByRecursion IsChain ds → k < length ds → One ds k
one [] k chains within = absurd (omega arith)
one (d ∷ ds) zero chains within = record { d = d; chain = chains.0; at = λ Q has. has; back = λ Q has. has }
one (d ∷ ds) (suc k) chains within =
    let rest = one ds k chains.1 (omega arith) in record { d = rest.d; chain = rest.chain; at = rest.at; back = rest.back }

pub along_within : (P : Dimension → Type 0) (ds : List Dimension) (k : ℕ) → Along P ds k → k < length ds
along_within P [] k has = absurd has
along_within P (d ∷ ds) zero has = omega arith
along_within P (d ∷ ds) (suc k) has = let rest = along_within P ds k has in omega arith

-- the dimension that has a property
pub one_of : (P : Dimension → Type 0) (ds : List Dimension) (k : ℕ) → AllByRecursion IsChain ds → Along P ds k → One ds k
one_of P ds k chains has = one ds k chains (along_within P ds k has)

-- ---- the chunks that hold some of a range

-- the chunk that holds an index is found among those it is looked for
home_from_is : (d : Dimension) → IsChain d → (many first c i : ℕ) → Holds d c i → first ≤ c → c ≤ first + many → home_from d many first i ≡ c
home_from_is d chain zero first c i here from below = omega arith
home_from_is d chain (suc many) first c i here from below =
    ⊎_elim
    (λ (ended : i < d.end first).
    let not_after : c ≤ first =
    ⊎_elim (λ (later : first < c). absurd (omega (arith, apart d chain first c later here.chunk, here.from))) (λ (le : c ≤ first). le) (cases_lt first c)
    in
    let same : first ≡ c = omega arith in
    rw (lt-ltb i (d.end first) ended) same)
    (λ (after : d.end first ≤ i).
    let later : first < c =
    ⊎_elim (λ (less : first < c). less)
    (λ (le : c ≤ first). let same : c ≡ first = omega arith in absurd (omega (arith, ap d.end same, here.below))) (cases_lt first c)
    in
    rw (le-ltb i (d.end first) after) (home_from_is d chain many (suc first) c i here (omega arith) (omega arith)))
    (cases_lt i (d.end first))

pub home_is : (d : Dimension) → IsChain d → (c i : ℕ) → Holds d c i → home d i ≡ c
home_is d chain c i here = home_from_is d chain i 0 c i here (omega arith) (omega (arith, at_most_start d chain c here.chunk, here.from))

pub whole_is : (d : Dimension) → IsChain d → (low high first size : ℕ) → Holds d low first → Holds d high (first + (size - 1))
    → whole d first size ≡ d.end high - d.start low
unfolding whole
whole_is d chain low high first size lowest highest = rw (home_is d chain low first lowest, home_is d chain high (first + (size - 1)) highest) refl

-- what is found is what is counted
pub found_is : (d : Dimension) → IsChain d → (low high first size start edge last_start last_edge : ℕ) → 0 < size → first + size ≤ greatest
    → last_edge ≤ greatest → Holds d low first → Holds d high (first + (size - 1)) → IsRange d low (start, edge) → IsRange d high (last_start, last_edge)
    → (found : Met) → found.chunks ≡ min (high - low + 1) greatest → found.elements ≡ last_start - start + last_edge → AreMetAlong d first size found
found_is d chain low high first size start edge last_start last_edge some fits small lowest highest range last_range found chunks elements =
    let many = met_is d chain low high first size lowest highest in
    let few = met_at_most d chain low high first size some lowest highest in
    let order = no_later d chain low high first (first + (size - 1)) (omega arith) lowest highest in
    let (in_order, _) = in_chain d chain low high order highest.chunk in
    let counted : found.chunks ≡ suc high - low = omega (arith, chunks, many, few) in
    record {
      chunks = counted ∙ sym many;
      elements = elements ∙ (omega (arith, in_order, range.start.start, last_range.start.start, last_range.edge.edge))
          ∙ sym (whole_is d chain low high first size lowest highest);
      few = omega (arith, counted, many, few);
      small =
          ⊎_elim (λ (later : low < high). omega (arith, counted, elements, small, last_range.start.start, highest.from))
          (λ (le : high ≤ low).
          let same : high ≡ low = omega arith in
          omega (arith, counted, elements, small, ap d.start same, range.start.start, last_range.start.start)) (cases_lt low high);
    }

-- ---- what a group takes

pub taken_is : (d : Dimension) (k a n f l t start edge last_start last_edge before end : ℕ) → Reaches d k a n f l t → a + n ≤ greatest
    → IsRange d (first_in k f t) (start, edge) → IsRange d (last_in k l t) (last_start, last_edge) → before ≡ start - a
    → end ≡ min (min (last_start + last_edge) greatest - a) n → IsTaken d k a n t (before, end - before)
taken_is d k a n f l t start edge last_start last_edge before end is fits range last_range before_is end_is =
    let from = range.start.start in
    let to = last_range.edge.edge in
    let to_start = last_range.start.start in
    let (has, some) = is.last_takes in
    record {
      before = omega (arith, is.start, before_is, from);
      many = omega (arith, is.start, is.end, before_is, end_is, from, to, to_start, some);
    }

-- ---- the sums so far

pub none_so_far : (k at size group first : ℕ) (d other : Dimension) (sums : Sums) → sums.largest ≡ 0 → sums.chunks ≡ 0 → sums.elements ≡ 0
    → AreSums k at size group 0 first d other sums
none_so_far k at size group first d other sums largest chunks elements = record {
  largest = largest;
  chunks = chunks;
  elements = elements;
  few = λ last same. absurd (omega arith);
  small = omega (arith, chunks, elements);
}

pub greatest_more : (f : ℕ → ℕ) (begin many : ℕ)
    → fold max 0 (map f (range_with_len begin (many + 1))) ≡ max (fold max 0 (map f (range_with_len begin many))) (f (begin + many))
greatest_more f begin many =
    ap (fold max 0) (map-range_with_len_more f begin many (begin + many) refl)
    ∙ fold-append max 0 (map f (range_with_len begin many)) (f (begin + many) ∷ [])

pub sum_more : (f : ℕ → ℕ) (begin many : ℕ) → sum (map f (range_with_len begin (many + 1))) ≡ sum (map f (range_with_len begin many)) + f (begin + many)
sum_more f begin many = sum_by-map-range_with_len_more (λ n. n) f begin many (begin + many) refl

-- some of the groups take some
pub some_take : (k at size first_chunk last_chunk group groups before many : ℕ) (d : Dimension)
    → AreTaking k at size first_chunk last_chunk group groups d → before + many ≤ groups → AreTaking k at size first_chunk last_chunk (group + before) many d
some_take k at size first_chunk last_chunk group groups before many d taking within = record {
  over = taking.over;
  within = taking.within;
  take = λ chunk from below. taking.take chunk (omega arith) (omega (arith, within));
  groups_fit = omega (arith, taking.groups_fit, within);
}

pub takes_here : (d : Dimension) (k at size first_chunk last_chunk group groups many : ℕ) → AreTaking k at size first_chunk last_chunk group groups d
    → many < groups → TakesSome (grouped d k) at size (group + many)
takes_here d k at size first_chunk last_chunk group groups many taking within = taking.take (group + many) (omega arith) (omega arith)

-- the group that comes some steps after those before takes some, and its number isn't cut off
pub takes_at : (d : Dimension) (k at size first_chunk last_chunk group groups before many steps begin here : ℕ)
    → AreTaking k at size first_chunk last_chunk group groups d → before + many ≤ groups → steps < many → begin ≡ min (group + before) greatest
    → here ≡ min (begin + steps) greatest → (here ≡ group + before + steps) × TakesSome (grouped d k) at size here
takes_at d k at size first_chunk last_chunk group groups before many steps begin here taking within less begin_is here_is =
    let fits = taking.groups_fit in
    (omega (arith, begin_is, here_is, within), taking.take here (omega (arith, begin_is, here_is, within)) (omega (arith, begin_is, here_is, within)))

module _ (d other : Dimension) (k at size first_chunk last_chunk group groups first many : ℕ) (chain : IsChain d) (some : 0 < k)
    (taking : AreTaking k at size first_chunk last_chunk group groups d) (within : many < groups) where
  abbrev g : Dimension
  g = grouped d k

  abbrev here : ℕ
  here = group + many

  -- a group takes no index that one before it takes
  follows : (last : ℕ) → many ≡ last + 1 → min (g.end (group + last)) (at + size) ≤ taken_from g at here
  follows last same =
      let after : here ≡ group + last + 1 = omega (arith, same) in
      let (has, any) = takes_here d k at size first_chunk last_chunk group groups many taking within in
      let (_, gap) = (grouped_chain d k chain some).no_gap (group + last) (subst (λ t. IsTrue (g.has_chunk t)) after has) in
      omega (arith, ap g.start after, gap)

  before_here : (found : Sums) → AreSums k at size group many first d other found → found.chunks + taken_from g at group ≤ taken_from g at here
  before_here found are =
      by_last (λ n. many ≡ n → found.chunks + taken_from g at group ≤ taken_from g at here)
      (λ none. let same : here ≡ group = omega (arith, none) in
      let no_chunks : found.chunks ≡ 0 = are.chunks ∙ ap (λ n. sum (map (of_group met other g first at size) (range_with_len group n))) none in
      omega (arith, ap g.start same, no_chunks))
      (λ last same. omega (arith, are.few last same, follows last same)) many refl where
        by_last : (P : ℕ → Type 0) → P 0 → ((last : ℕ) → P (last + 1)) → (n : ℕ) → P n
        by_last P none some zero = none
        by_last P none some (suc n) = let next : n + 1 ≡ suc n = omega arith in subst P next (some n)

  pub one_more : (before many_here : ℕ) → IsTaken d k at size here (before, many_here) → (found : Met)
      → AreMetAlong other (first + before) many_here found → (sums after : Sums) → AreSums k at size group many first d other sums
      → after.largest ≡ max sums.largest many_here → after.chunks ≡ min (sums.chunks + found.chunks) greatest
      → after.elements ≡ min (sums.elements + found.elements) greatest_of_128
      → AreSums k at size group (many + 1) first d other after
  one_more before many_here is found are sums after so_far largest chunks elements =
      let (_, any) = takes_here d k at size first_chunk last_chunk group groups many taking within in
      let over = taking.over in
      let fits = over.fits in
      let some_before = before_here sums so_far in
      let chunks_here : found.chunks ≡ of_group met other g first at size here = rw (← is.before, ← is.many) are.chunks in
      let elements_here : found.elements ≡ of_group whole other g first at size here = rw (← is.before, ← is.many) are.elements in
      let few_here = are.few in
      let small_here = are.small in
      let small = so_far.small in
      let chunks_are : after.chunks ≡ sums.chunks + found.chunks = omega (arith, chunks, some_before, few_here, is.many) in
      let few : after.chunks + taken_from g at group ≤ min (g.end here) (at + size) = omega (arith, chunks_are, some_before, few_here, is.many) in
      let small_after : sums.elements + found.elements ≤ after.chunks * greatest = omega (arith, chunks_are) in
      let elements_are : after.elements ≡ sums.elements + found.elements = omega (arith, elements, small_after, few) in
      record {
        largest = largest ∙ ap₂ max so_far.largest is.many ∙ sym (greatest_more (of_group indices other g first at size) group many);
        chunks = chunks_are ∙ ap₂ ◌+◌ so_far.chunks chunks_here ∙ sym (sum_more (of_group met other g first at size) group many);
        elements = elements_are ∙ ap₂ ◌+◌ so_far.elements elements_here ∙ sym (sum_more (of_group whole other g first at size) group many);
        few = λ last same. let is_here : group + last ≡ here = omega (arith, same) in omega (arith, few, ap g.end is_here);
        small = omega (arith, elements_are, small_after);
      }
