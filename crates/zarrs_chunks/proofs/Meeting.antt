-- The chunks that meet a box are those of its cover, and a box of chunks is the union of their boxes.
use Rattle.std.proofs.Common.{◌≡◌, ◌↔◌, ℕ, zero, suc, ◌+◌, ◌-◌, ◌<◌, ◌≤◌, IsTrue, List, [], ◌∷◌, length, sym, ap, subst, ⊎_elim}
use Rattle.std.proofs.Common.{arith}
use Rattle.std.proofs.lemmas.Bool.{cases_lt}
use Rattle.std.specs.List.{AllByRecursion, Contains}
use Rattle.zarrs_chunk_base.specs.ArraySubset.{AreWithin, Box, IsBox, IsEmptyBox, IsInside, ends, lasts}
use Rattle.zarrs_chunk_base.specs.Dimension.{Dimension, Holds, IsChain, InBox, IsEnd, IsOrigin, StartsAt}
use Rattle.zarrs_chunk_base.proofs.InEach.{length_numbers, length_values}
use Rattle.zarrs_chunks.specs.Subsets.{IsCover, Spans}
use Rattle.zarrs_chunks.proofs.Chains.{apart, earlier_has, in_chain, no_later}
use Rattle.zarrs_chunks.proofs.Covers.{head_some, tail_some}

-- what holds without dimensions, and of one more wherever it holds, holds of a range of chunks and a range of indices in each dimension
by_ranges : (P : List Dimension → List ℕ → List ℕ → List ℕ → List ℕ → Type 0) → P [] [] [] [] []
    → ((d : Dimension) (a n i m : ℕ) (ds : List Dimension) (first sizes low counts : List ℕ) → P ds first sizes low counts
    → P (d ∷ ds) (a ∷ first) (n ∷ sizes) (i ∷ low) (m ∷ counts))
    → (ds : List Dimension) (first sizes low counts : List ℕ) → length first ≡ length ds → length first ≡ length sizes → length low ≡ length ds
    → length low ≡ length counts → P ds first sizes low counts
by_ranges P none more [] [] [] [] [] e f g h = none
by_ranges P none more (d ∷ ds) (a ∷ first) (n ∷ sizes) (i ∷ low) (m ∷ counts) e f g h =
    more d a n i m ds first sizes low counts (by_ranges P none more ds first sizes low counts (omega arith) (omega arith) (omega arith) (omega arith))
by_ranges P none more _ _ _ _ _ e f g h = absurd (omega arith)

-- ---- the cover

-- a chunk from the first to the last one that meet a range holds some of it
meets : (d : Dimension) → IsChain d → (first size low count c : ℕ) → 0 < size → 0 < count → Holds d first low
    → Holds d (first + (size - 1)) (low + (count - 1)) → first ≤ c → c < first + size → (i : ℕ) × Holds d c i × (low ≤ i) × (i < low + count)
meets d chain first size low count c some any f l from below =
    ⊎_elim
    (λ (later : first < c).
    let has : IsTrue (d.has_chunk c) = earlier_has d chain c (first + (size - 1)) (omega arith) l.chunk in
    let after : d.end first ≤ d.start c = apart d chain first c later has in
    let some_here : d.start c < d.end c = chain.not_empty c has in
    let low_in = f.below in
    let high_in = l.from in
    let (order, _) = in_chain d chain c (first + (size - 1)) (omega arith) l.chunk in
    (d.start c, record { chunk = has; from = omega arith; below = some_here }, omega arith, omega arith))
    (λ (not_later : c ≤ first).
    let same : c ≡ first = omega arith in
    (low, subst (λ k. Holds d k low) (sym same) f, omega arith, omega arith))
    (cases_lt first c)

-- a chunk that holds some of a range is one from the first to the last that do
is_between : (d : Dimension) → IsChain d → (first size low count c i : ℕ) → 0 < size → 0 < count → Holds d first low
    → Holds d (first + (size - 1)) (low + (count - 1)) → Holds d c i → low ≤ i → i < low + count → (first ≤ c) × (c < first + size)
is_between d chain first size low count c i some any f l here from below =
    let at_most : c ≤ first + (size - 1) = no_later d chain c _ i (low + (count - 1)) (omega arith) here l in
    (no_later d chain first c low i from f here, omega arith)

-- the chunks from that of a box's first element to that of its last are those that hold some of the box
abbrev AreThoseThatMeet : List Dimension → List ℕ → List ℕ → List ℕ → List ℕ → Type 0
AreThoseThatMeet ds first sizes low counts = AllByRecursion IsChain ds → (¬ Contains sizes 0) → (¬ Contains counts 0)
    → InBox ds first low → InBox ds (lasts first sizes) (lasts low counts)
    → (chunk : List ℕ) → AreWithin first sizes chunk ↔ ((index : List ℕ) × InBox ds chunk index × AreWithin low counts index)

none_meet : AreThoseThatMeet [] [] [] [] []
none_meet chains some any f l [] = (λ _. ([], tt, tt), λ _. tt)
none_meet chains some any f l (_ ∷ _) = (λ within. absurd within, λ (_, box, _). absurd box)

one_more_meets : (d : Dimension) (a n i m : ℕ) (ds : List Dimension) (first sizes low counts : List ℕ) → AreThoseThatMeet ds first sizes low counts
    → AreThoseThatMeet (d ∷ ds) (a ∷ first) (n ∷ sizes) (i ∷ low) (m ∷ counts)
one_more_meets d a n i m ds first sizes low counts rest chains some any f l [] = (λ within. absurd within, λ (_, box, _). absurd box)
one_more_meets d a n i m ds first sizes low counts rest chains some any f l (c ∷ chunk) = (meet, λ (index, box, within). lie index box within) where
  others : AreWithin first sizes chunk ↔ ((index : List ℕ) × InBox ds chunk index × AreWithin low counts index)
  others = rest chains.1 (tail_some n sizes some) (tail_some m counts any) f.1 l.1 chunk

  meet : AreWithin (a ∷ first) (n ∷ sizes) (c ∷ chunk) → (index : List ℕ) × InBox (d ∷ ds) (c ∷ chunk) index × AreWithin (i ∷ low) (m ∷ counts) index
  meet within =
      let (index, box, inside) = others.0 within.2 in
      let (j, here, from, below) = meets d chains.0 a n i m c (head_some n sizes some) (head_some m counts any) f.0 l.0 within.0 within.1 in
      (j ∷ index, (here, box), (from, below, inside))

  lie : (index : List ℕ) → InBox (d ∷ ds) (c ∷ chunk) index → AreWithin (i ∷ low) (m ∷ counts) index → AreWithin (a ∷ first) (n ∷ sizes) (c ∷ chunk)
  lie [] box within = absurd box
  lie (j ∷ index) box within =
      let (from, below) = is_between d chains.0 a n i m c j (head_some n sizes some) (head_some m counts any) f.0 l.0 box.0 within.0 within.1 in
      (from, below, others.1 (index, box.1, within.2))

-- so the cover of a box that isn't empty has exactly the chunks that hold some of it
pub cover_meets : (ds : List Dimension) (b cover : Box) → AllByRecursion IsChain ds → IsBox b → (¬ IsEmptyBox b) → IsCover ds b cover
    → (chunk : List ℕ) → IsInside cover chunk ↔ ((index : List ℕ) × InBox ds chunk index × IsInside b index)
cover_meets ds b cover chains is_box some is =
    by_ranges AreThoseThatMeet none_meet one_more_meets ds cover.start cover.shape b.start b.shape
    (length_numbers Holds ds cover.start b.start is.first)
    is.is_box.lengths (length_values Holds ds cover.start b.start is.first) is_box.lengths chains is.some some is.first is.last

-- an index from where one chunk starts to where a later one ends lies in a chunk from the one to the other
pub lies_between : (d : Dimension) → IsChain d → (first k i : ℕ) → IsTrue (d.has_chunk (first + k)) → d.start first ≤ i → i < d.end (first + k)
    → (c : ℕ) × (first ≤ c) × (c ≤ first + k) × Holds d c i
lies_between d chain first zero i has from below =
    let same : first + zero ≡ first = omega arith in (
      first,
      omega arith,
      omega arith,
      record { chunk = subst (λ c. IsTrue (d.has_chunk c)) same has; from = from; below = subst (λ c. i < d.end c) same below },
    )
lies_between d chain first (suc k) i has from below =
    let next : first + suc k ≡ (first + k) + 1 = omega arith in
    let gap = chain.no_gap (first + k) (subst (λ c. IsTrue (d.has_chunk c)) next has) in
    let starts : d.start ((first + k) + 1) ≡ d.end (first + k) = gap.1 in
    let moved : d.start (first + suc k) ≡ d.start ((first + k) + 1) = ap d.start next in
    ⊎_elim
    (λ (before : i < d.end (first + k)).
    let (c, low, high, here) = lies_between d chain first k i gap.0 from before in
    (c, low, omega arith, here))
    (λ (after : d.end (first + k) ≤ i). (first + suc k, omega arith, omega arith, record { chunk = has; from = omega arith; below = below }))
    (cases_lt i (d.end (first + k)))

-- each element of a box lies in one of the chunks from that of its first element to that of its last
abbrev HaveHomes : List Dimension → List ℕ → List ℕ → List ℕ → List ℕ → Type 0
HaveHomes ds first sizes low counts =
    AllByRecursion IsChain ds → (¬ Contains sizes 0) → InBox ds first low → InBox ds (lasts first sizes) (lasts low counts)
    → (index : List ℕ) → AreWithin low counts index → (chunk : List ℕ) × AreWithin first sizes chunk × InBox ds chunk index

one_more_has_home : (d : Dimension) (a n i m : ℕ) (ds : List Dimension) (first sizes low counts : List ℕ) → HaveHomes ds first sizes low counts
    → HaveHomes (d ∷ ds) (a ∷ first) (n ∷ sizes) (i ∷ low) (m ∷ counts)
one_more_has_home d a n i m ds first sizes low counts rest chains some f l [] within = absurd within
one_more_has_home d a n i m ds first sizes low counts rest chains some f l (j ∷ index) within =
    let (chunk, between, box) = rest chains.1 (tail_some n sizes some) f.1 l.1 index within.2 in
    let any : 0 < n = head_some n sizes some in
    let low_in = f.0.from in
    let high_in = l.0.below in
    let from : i ≤ j = within.0 in
    let below : j < i + m = within.1 in
    let (c, low_c, high_c, here) = lies_between d chains.0 a (n - 1) j l.0.chunk (omega arith) (omega arith) in
    (c ∷ chunk, (low_c, omega arith, between), (here, box))

-- so each element of a box lies in a chunk of its cover
pub cover_holds : (ds : List Dimension) (b cover : Box) → AllByRecursion IsChain ds → IsBox b → IsCover ds b cover
    → (index : List ℕ) → IsInside b index → (chunk : List ℕ) × IsInside cover chunk × InBox ds chunk index
cover_holds ds b cover chains is_box is =
    by_ranges HaveHomes none_has_home one_more_has_home ds cover.start cover.shape b.start b.shape
    (length_numbers Holds ds cover.start b.start is.first)
    is.is_box.lengths (length_values Holds ds cover.start b.start is.first) is_box.lengths chains is.some is.first is.last where
      none_has_home : HaveHomes [] [] [] [] []
      none_has_home chains some f l [] within = ([], tt, tt)
      none_has_home chains some f l (_ ∷ _) within = absurd within

-- ---- the box of a box of chunks

-- an index of a chunk between two lies from where the one starts to where the other ends
pub lies_within : (d : Dimension) → IsChain d → (first last c i : ℕ) → IsTrue (d.has_chunk last) → first ≤ c → c ≤ last → Holds d c i
    → (d.start first ≤ i) × (i < d.end last)
lies_within d chain first last c i has low high here =
    let (start, _) = in_chain d chain first c low here.chunk in
    let (_, end) = in_chain d chain c last high has in
    let from = here.from in
    let below = here.below in
    (omega arith, omega arith)

-- the indices from where a box's first chunk starts to where its last one ends are those of its chunks
abbrev AreThoseOfChunks : List Dimension → List ℕ → List ℕ → List ℕ → List ℕ → Type 0
AreThoseOfChunks ds first sizes low counts =
    AllByRecursion IsChain ds → (¬ Contains sizes 0) → IsOrigin ds first low → IsEnd ds (lasts first sizes) (ends low counts)
    → (index : List ℕ) → AreWithin low counts index ↔ ((chunk : List ℕ) × AreWithin first sizes chunk × InBox ds chunk index)

no_chunks : AreThoseOfChunks [] [] [] [] []
no_chunks chains some f l [] = (λ _. ([], tt, tt), λ _. tt)
no_chunks chains some f l (j ∷ index) =
    (λ within. absurd within, λ (chunk, between, box). absurd (omega (arith, length_values Holds [] chunk (j ∷ index) box)))

one_more_of_chunks : (d : Dimension) (a n i m : ℕ) (ds : List Dimension) (first sizes low counts : List ℕ)
    → AreThoseOfChunks ds first sizes low counts → AreThoseOfChunks (d ∷ ds) (a ∷ first) (n ∷ sizes) (i ∷ low) (m ∷ counts)
one_more_of_chunks d a n i m ds first sizes low counts rest chains some f l [] =
    (λ within. absurd within, λ (chunk, between, box). absurd (omega (arith, length_values Holds (d ∷ ds) chunk [] box)))
one_more_of_chunks d a n i m ds first sizes low counts rest chains some f l (j ∷ index) = (find, λ (chunk, between, box). lie chunk between box) where
  others : AreWithin low counts index ↔ ((chunk : List ℕ) × AreWithin first sizes chunk × InBox ds chunk index)
  others = rest chains.1 (tail_some n sizes some) f.1 l.1 index

  find : AreWithin (i ∷ low) (m ∷ counts) (j ∷ index) → (chunk : List ℕ) × AreWithin (a ∷ first) (n ∷ sizes) chunk × InBox (d ∷ ds) chunk (j ∷ index)
  find within =
      let (chunk, between, box) = others.0 within.2 in
      let start = f.0.start in
      let end = l.0.end in
      let from : i ≤ j = within.0 in
      let below : j < i + m = within.1 in
      let any : 0 < n = head_some n sizes some in
      let (c, low_c, high_c, here) = lies_between d chains.0 a (n - 1) j l.0.chunk (omega arith) (omega arith) in
      (c ∷ chunk, (low_c, omega arith, between), (here, box))

  lie : (chunk : List ℕ) → AreWithin (a ∷ first) (n ∷ sizes) chunk → InBox (d ∷ ds) chunk (j ∷ index) → AreWithin (i ∷ low) (m ∷ counts) (j ∷ index)
  lie [] between box = absurd between
  lie (c ∷ chunk) between box =
      let start = f.0.start in
      let end = l.0.end in
      let low_c : a ≤ c = between.0 in
      let high_c : c < a + n = between.1 in
      let (from, below) = lies_within d chains.0 a (a + (n - 1)) c j l.0.chunk low_c (omega arith) box.0 in
      (omega arith, omega arith, others.1 (chunk, between.2, box.1))

-- so the box of a box of chunks that isn't empty is the union of their boxes
pub is_union : (ds : List Dimension) (chunks b : Box) → AllByRecursion IsChain ds → IsBox chunks → (¬ IsEmptyBox chunks)
    → Spans ds chunks.start (lasts chunks.start chunks.shape) b
    → (index : List ℕ) → IsInside b index ↔ ((chunk : List ℕ) × IsInside chunks chunk × InBox ds chunk index)
is_union ds chunks b chains is_box some spans =
    by_ranges AreThoseOfChunks no_chunks one_more_of_chunks ds chunks.start chunks.shape b.start b.shape
    (length_numbers StartsAt ds chunks.start b.start spans.start)
    is_box.lengths (length_values StartsAt ds chunks.start b.start spans.start) spans.is_box.lengths chains some spans.start spans.end
