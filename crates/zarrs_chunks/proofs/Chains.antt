-- In a chain an index lies in one chunk at most, and so its box and its place are the only ones.
use Rattle.std.proofs.Common.{◌≡◌, ◌↔◌, Ok, Option, Some, None, Vec, option_map, ℕ, zero, suc, ◌+◌, ◌<◌, ◌≤◌, IsTrue, List, refl, sym, ap, subst}
use Rattle.std.proofs.Common.{⊎_elim, add-one, arith}
use Rattle.std.proofs.lemmas.Bool.{cases_lt}
use Rattle.std.proofs.lemmas.Option.{none-some, same_Some}
use Rattle.std.specs.List.{AllByRecursion}
use Rattle.std.specs.declared.alloc.Global.{Global}
use Rattle.zarrs_chunk_base.specs.Dimension.{Dimension, Holds, IsChain, InBox}
use Rattle.zarrs_chunk_base.proofs.InEach.{by_dimension_twice, turned}
use Rattle.zarrs_chunk_axes.specs.LookUp.{AnswersChunk}

-- what comes before a chunk is a chunk
pub earlier_has : (d : Dimension) → IsChain d → (c m : ℕ) → c ≤ m → IsTrue (d.has_chunk m) → IsTrue (d.has_chunk c)
earlier_has d chain c zero below has = let first : c ≡ zero = omega arith in subst (λ k. IsTrue (d.has_chunk k)) (sym first) has
earlier_has d chain c (suc m) below has =
    ⊎_elim
    (λ (before : c < suc m). earlier_has d chain c m (omega arith) (chain.no_gap m (rw add-one has)).0)
    (λ (after : suc m ≤ c). let same : c ≡ suc m = omega arith in subst (λ k. IsTrue (d.has_chunk k)) (sym same) has)
    (cases_lt c (suc m))

-- a chunk ends before a later one starts
pub apart : (d : Dimension) → IsChain d → (c m : ℕ) → c < m → IsTrue (d.has_chunk m) → d.end c ≤ d.start m
apart d chain c zero before has = absurd (omega arith)
apart d chain c (suc m) before has =
    let gap = chain.no_gap m (rw add-one has) in
    let next : d.start (m + 1) ≡ d.start (suc m) = ap d.start (add-one m) in
    ⊎_elim
    (λ (earlier : c < m).
    let ended : d.end c ≤ d.start m = apart d chain c m earlier gap.0 in
    let some : d.start m < d.end m = chain.not_empty m gap.0 in
    omega (arith, gap.1))
    (λ (not_earlier : m ≤ c). let same : c ≡ m = omega arith in let end : d.end c ≡ d.end m = ap d.end same in omega (arith, gap.1))
    (cases_lt c m)

-- an earlier chunk starts and ends no later
pub in_chain : (d : Dimension) → IsChain d → (c m : ℕ) → c ≤ m → IsTrue (d.has_chunk m) → (d.start c ≤ d.start m) × (d.end c ≤ d.end m)
in_chain d chain c m low has =
    ⊎_elim
    (λ (before : c < m).
    let gap = apart d chain c m before has in
    let some = chain.not_empty c (earlier_has d chain c m low has) in
    let some_later = chain.not_empty m has in
    (omega arith, omega arith))
    (λ (le : m ≤ c).
    let same : c ≡ m = omega arith in
    let start = ap d.start same in
    let end = ap d.end same in
    (omega arith, omega arith))
    (cases_lt c m)

-- a chunk's number is at most the index at which it starts
pub at_most_start : (d : Dimension) → IsChain d → (c : ℕ) → IsTrue (d.has_chunk c) → c ≤ d.start c
at_most_start d chain zero has = omega arith
at_most_start d chain (suc c) has =
    let gap = chain.no_gap c (rw add-one has) in
    let same : d.start (c + 1) ≡ d.start (suc c) = ap d.start (add-one c) in
    let rest : c ≤ d.start c = at_most_start d chain c gap.0 in
    let some : d.start c < d.end c = chain.not_empty c gap.0 in
    omega (arith, gap.1)

-- a later index lies in no earlier chunk
pub no_later : (d : Dimension) → IsChain d → (a b i j : ℕ) → i ≤ j → Holds d a i → Holds d b j → a ≤ b
no_later d chain a b i j between low high =
    ⊎_elim
    (λ (before : b < a).
    let low_in = low.from in
    let high_in = high.below in
    absurd (omega (arith, apart d chain b a before low.chunk)))
    (λ (le : a ≤ b). le)
    (cases_lt b a)

same_chunk : (d : Dimension) → IsChain d → (c e i : ℕ) → Holds d c i → Holds d e i → c ≡ e
same_chunk d chain c e i first second =
    omega (arith, no_later d chain c e i i (omega arith) first second, no_later d chain e c i i (omega arith) second first)

-- an index lies in the box of one chunk at most
pub same_box : (ds : List Dimension) (chunk other index : List ℕ) → AllByRecursion IsChain ds → InBox ds chunk index
    → InBox ds other index → chunk ≡ other
same_box ds chunk other index chains first second =
    by_dimension_twice (λ d i c. Holds d c i) (λ d i c. Holds d c i)
    (λ ds index chunk other. AllByRecursion IsChain ds → chunk ≡ other) (λ chains. refl)
    (λ d i c e ds index chunk other first second rest chains.
    let here = same_chunk d chains.0 c e i first second in
    let others = rest chains.1 in
    cc)
    ds index chunk other (turned Holds ds chunk index first) (turned Holds ds other index second) chains

-- what `chunk_indices` names is the chunk whose box holds the index
pub names_the_home : (ds : List Dimension) (index chunk : List ℕ) → AllByRecursion IsChain ds → (named : Option (Vec ℕ Global))
    → AnswersChunk ds index (Ok named) → InBox ds chunk index ↔ option_map (λ v. v.items) named ≡ Some chunk
names_the_home ds index chunk chains (Some v) h = (
  λ box. ap Some (same_box ds v.items chunk index chains h.1 box),
  λ same. subst (λ c. InBox ds c index) (same_Some v.items chunk same) h.1,
)
names_the_home ds index chunk chains None h = (λ box. absurd (h.1 chunk box), λ same. absurd (none-some chunk same))
