-- How many chunks of the source share elements with a chunk of the target: what is found of a cover is what is computed.
use Rattle.zarrs_chunk_plan.proofs.Common.{◌≡◌, ◌∙◌, ℕ, zero, suc, ◌+◌, ◌-◌, ◌<◌, ◌≤◌, IsTrue, refl, ap}
use Rattle.zarrs_chunk_plan.proofs.Common.{subst, ⊎_elim, arith, cases_lt, le-ltb, lt-ltb}
use Rattle.zarrs_chunk_plan.proofs.Common.{Dimension, Holds, IsChain, earlier_has, no_later}
use Rattle.zarrs_chunk_plan.proofs.Common.{met}
use Rattle.zarrs_chunks.proofs.Chains.{apart, at_most_start}
use Rattle.zarrs_chunk_plan.specs.seen.Sources.{home, home_from}

-- ---- one dimension

-- the chunk that holds an index is found among those it is looked for
home_from_is : (d : Dimension) → IsChain d → (many first c i : ℕ) → Holds d c i → first ≤ c → c ≤ first + many → home_from d many first i ≡ c
home_from_is d chain zero first c i here from below = omega arith
home_from_is d chain (suc many) first c i here from below =
    ⊎_elim
    (λ (ended : i < d.end first).
    let not_after : c ≤ first =
    ⊎_elim (λ (later : first < c). let gap = apart d chain first c later here.chunk in absurd (omega arith)) (λ (le : c ≤ first). le)
    (cases_lt first c)
    in
    let same : first ≡ c = omega arith in
    rw (lt-ltb i (d.end first) ended) same)
    (λ (after : d.end first ≤ i).
    let later : first < c =
    ⊎_elim (λ (less : first < c). less)
    (λ (le : c ≤ first). let same : c ≡ first = omega arith in let end = ap d.end same in absurd (omega arith)) (cases_lt first c)
    in
    rw (le-ltb i (d.end first) after) (home_from_is d chain many (suc first) c i here (omega arith) (omega arith)))
    (cases_lt i (d.end first))

home_is : (d : Dimension) → IsChain d → (c i : ℕ) → Holds d c i → home d i ≡ c
home_is d chain c i here = home_from_is d chain i 0 c i here (omega arith) (omega (arith, at_most_start d chain c here.chunk))

-- chunks from that of the first index of a range to that of its last
pub met_is : (s : Dimension) → IsChain s → (low high first size : ℕ) → Holds s low first → Holds s high (first + (size - 1))
    → met s first size ≡ suc high - low
unfolding met
met_is s chain low high first size lowest highest = rw (home_is s chain low first lowest, home_is s chain high (first + (size - 1)) highest) refl

count_is : (s : Dimension) → IsChain s → (c n first size : ℕ) → 0 < n → Holds s c first → Holds s (c + (n - 1)) (first + (size - 1))
    → met s first size ≡ n
count_is s chain c n first size some low high = met_is s chain c (c + (n - 1)) first size low high ∙ omega arith

-- each of so many chunks behind another holds an element more
steps_far : (d : Dimension) → IsChain d → (c k : ℕ) → IsTrue (d.has_chunk (c + k)) → d.start c + k ≤ d.start (c + k)
steps_far d chain c zero has = let same : c + 0 ≡ c = omega arith in let start = ap d.start same in omega arith
steps_far d chain c (suc k) has =
    let next : c + suc k ≡ (c + k) + 1 = omega arith in
    let gap = chain.no_gap (c + k) (subst (λ n. IsTrue (d.has_chunk n)) next has) in
    let rest = steps_far d chain c k gap.0 in
    let some = chain.not_empty (c + k) gap.0 in
    let start = ap d.start next in
    omega (arith, gap.1)

-- so there are no more of them than indices
pub met_at_most : (s : Dimension) → IsChain s → (a b first size : ℕ) → 0 < size → Holds s a first → Holds s b (first + (size - 1))
    → met s first size ≤ size
met_at_most s chain a b first size some low high =
    let order = no_later s chain a b first (first + (size - 1)) (omega arith) low high in
    let split : a + (b - a) ≡ b = omega arith in
    let is = count_is s chain a (suc (b - a)) first size (omega arith) low
    (subst (λ k. Holds s k (first + (size - 1))) (let last : b ≡ a + (suc (b - a) - 1) = omega arith in last) high) in
    ⊎_elim
    (λ (later : a < b).
    let gap = chain.no_gap a (earlier_has s chain (a + 1) b (omega arith) high.chunk) in
    let from_next = steps_far s chain (a + 1) (b - (a + 1))
    (subst (λ n. IsTrue (s.has_chunk n)) (let split_next : b ≡ a + 1 + (b - (a + 1)) = omega arith in split_next) high.chunk) in
    let start_next : s.start (a + 1 + (b - (a + 1))) ≡ s.start b =
    ap s.start (let split_next : a + 1 + (b - (a + 1)) ≡ b = omega arith in split_next) in
    omega (arith, gap.1))
    (λ (le : b ≤ a). omega arith)
    (cases_lt a b)

-- ---- each dimension
