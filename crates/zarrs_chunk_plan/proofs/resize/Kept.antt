-- Which chunks a resize keeps, dimension by dimension.
use Rattle.zarrs_chunk_plan.proofs.Common.{◌≡◌, ◌↔◌, ◌⊎◌, ℕ, zero, suc, ◌+◌, ◌-◌, ◌<◌, ◌≤◌, List, [], ◌∷◌, arith, length, min, slice_index_or, ap₂}
use Rattle.zarrs_chunk_plan.proofs.Common.{subst, sym, ⊎_elim, cases_lt, AllByRecursion, Dimension, Holds, InBox, InEach, IsChain, IsShape}
use Rattle.zarrs_chunk_plan.proofs.Common.{array_sizes, AreBelow, AreResized, HasElementOf, IsKept, IsUsed, HoldsSome}
use Rattle.zarrs_chunk_axes.specs.Along.{IsRangeAlong}
use Rattle.zarrs_chunk_plan.specs.Resize.{IsResized}
use Rattle.zarrs_chunk_plan.specs.seen.Used.{HasExtent, HasExtentAlong, KeepsAlong, KeptAlong}
use Rattle.zarrs_chunk_plan.proofs.HeldBoxes.{AllHoldSome, meets_hold}
use Rattle.zarrs_chunk_plan.proofs.Rechunkings.{in_array}
use Rattle.zarrs_chunk_plan.proofs.SomePlan.{has_shape}

-- ---- one dimension

-- all are kept, or all but the last one, if that one isn't the same
abbrev pub IsCount : (Same : Type 0) (both kept : ℕ) → Type 0
IsCount Same both kept = (Same × (kept ≡ both)) ⊎ ((¬ Same) × (kept ≡ both - 1))

first_are : (P : ℕ → Type 0) (both : ℕ) → 0 < both → ((c : ℕ) → c + 1 < both → P c) → (Same : Type 0) → (Same → P (both - 1))
    → (P (both - 1) → Same) → (kept : ℕ) → IsCount Same both kept → (c : ℕ) → c < kept ↔ ((c < both) × P c)
first_are P both some earlier Same if_same same kept counts c =
    ⊎_elim (λ (before : c + 1 < both). let is = earlier c before in grind arith)
    (λ (past : both ≤ c + 1). ⊎_elim (λ (at : both - 1 ≡ c). let is = subst P at in let back = subst P (sym at) in grind arith)
    (λ (at : both ≤ c). grind arith) (grind arith))
    (cases_lt (c + 1) both)

module _ (d e : Dimension) (resized : IsResized d e) where
  -- a chunk that holds elements of both arrays begins where it did
  pub same_start : (c : ℕ) → HoldsSome d c → HoldsSome e c → d.start c ≡ e.start c
  same_start c some after =
      let before = resized.same_chunk c (d.start c) in
      let later = resized.same_chunk c (e.start c) in
      grind arith

  module _ (chain : IsChain d) (chain_after : IsChain e) (both : ℕ) (all : (c : ℕ) → c < both → HoldsSome d c × HoldsSome e c) (some : 0 < both)
      (one other : ℕ × ℕ) (extent : HasExtent d (both - 1) one) (extent_after : HasExtent e (both - 1) other) where
    -- each chunk but the last one is kept
    earlier_kept : (c : ℕ) → c + 1 < both → KeptAlong d e c
    earlier_kept c before =
        let (some, after) = all c (omega arith) in
        let (next, next_after) = all (c + 1) before in
        let gap = chain.no_gap c next.0 in
        let gap_after = chain_after.no_gap c next_after.0 in
        let start = same_start c some after in
        let next_start = same_start (c + 1) next next_after in
        grind arith

    -- and so is the last one, if its extent is the same
    last_kept : one ≡ other → KeptAlong d e (both - 1)
    last_kept same =
        let (some, after) = all (both - 1) (omega arith) in
        let start = same_start (both - 1) some after in
        grind arith

    last_same : KeptAlong d e (both - 1) → one ≡ other
    last_same kept =
        let same_edge : one.0 ≡ other.0 = grind arith in
        let same_held : one.1 ≡ other.1 = grind arith in
        ap₂ (λ (a b : ℕ). let extent : ℕ × ℕ = (a, b) in extent) same_edge same_held

    counted : (kept : ℕ) → IsCount (one ≡ other) both kept → (c : ℕ) → c < kept ↔ ((c < both) × KeptAlong d e c)
    counted = first_are (KeptAlong d e) both some earlier_kept (one ≡ other) last_kept last_same

-- so it is along each dimension
pub keeps_along : (ds es : List Dimension) (k both kept : ℕ) (one other : ℕ × ℕ) → AllByRecursion IsChain ds → AllByRecursion IsChain es → 0 < both
    → HasExtentAlong ds k (both - 1) one → HasExtentAlong es k (both - 1) other → IsCount (one ≡ other) both kept → KeepsAlong ds es k both kept
keeps_along (d ∷ ds) (e ∷ es) zero both kept one other chains also some extent extent_after counts =
    λ resized all. counted d e resized chains.0 also.0 both all some one other extent extent_after kept counts
keeps_along (d ∷ ds) (e ∷ es) (suc k) both kept one other chains also some extent extent_after counts =
    keeps_along ds es k both kept one other chains.1 also.1 some extent extent_after counts
keeps_along _ _ k both kept one other chains also some extent extent_after counts = absurd assumption

-- the extent of a chunk with this range
pub extent_of_range : (ds : List Dimension) (k c start edge held : ℕ) → IsRangeAlong ds k c (start, edge)
    → held ≡ min edge (slice_index_or (array_sizes ds) k 0 - start) → HasExtentAlong ds k c (edge, held)
extent_of_range (d ∷ ds) zero c start edge held range is = grind arith
extent_of_range (d ∷ ds) (suc k) c start edge held range is = extent_of_range ds k c start edge held range is
extent_of_range [] k c start edge held range is = absurd range

-- ---- each dimension

abbrev pub AllKept : List Dimension → List ℕ → List Dimension → Type 0
AllKept = InEach (λ d c e. KeptAlong d e c)

-- the chunk holds what it held, and has the shape that it had
elements_stay : (ds : List Dimension) (chunk : List ℕ) (es : List Dimension) (index : List ℕ) → AllKept ds chunk es
    → HasElementOf ds chunk index ↔ HasElementOf es chunk index
elements_stay [] [] [] index kept = (λ h. h, λ h. h)
elements_stay (d ∷ ds) (c ∷ chunk) (e ∷ es) (i ∷ index) kept =
    let rest = elements_stay ds chunk es index kept.1 in
    grind arith
elements_stay _ _ _ _ kept = (λ h. absurd assumption, λ h. absurd assumption)

shape_stays : (ds : List Dimension) (chunk : List ℕ) (es : List Dimension) (edges : List ℕ) → AllKept ds chunk es
    → IsShape ds chunk edges ↔ IsShape es chunk edges
shape_stays [] [] [] edges kept = (λ h. h, λ h. h)
shape_stays (d ∷ ds) (c ∷ chunk) (e ∷ es) (edge ∷ edges) kept =
    let rest = shape_stays ds chunk es edges kept.1 in
    let here = kept.0 in
    grind arith
shape_stays _ _ _ _ kept = (λ h. absurd assumption, λ h. absurd assumption)

one_kept : (d e : Dimension) (c i edge : ℕ) → Holds d c i → i < d.array_size
    → ((j : ℕ) → (Holds d c j × (j < d.array_size)) ↔ (Holds e c j × (j < e.array_size)))
    → d.start c + edge ≡ d.end c → e.start c + edge ≡ e.end c → KeptAlong d e c
one_kept d e c i edge holds less same long long_after =
    let first = same (d.start c) in
    let first_after = same (e.start c) in
    let last = same (min (d.end c) d.array_size - 1) in
    let last_after = same (min (e.end c) e.array_size - 1) in
    grind arith

each_kept : (ds : List Dimension) (chunk index edges : List ℕ) (es : List Dimension) → InBox ds chunk index → AreBelow (array_sizes ds) index
    → ((x : List ℕ) → HasElementOf ds chunk x ↔ HasElementOf es chunk x) → IsShape ds chunk edges → IsShape es chunk edges → AllKept ds chunk es
each_kept [] [] [] [] [] box below same shape also = tt
each_kept (d ∷ ds) (c ∷ chunk) (i ∷ index) (edge ∷ edges) (e ∷ es) box below same shape also =
    let (after, below_after) = (same (i ∷ index)).0 (box, below) in (
      one_kept d e c i edge box.0 below.0
          (λ j. let there = same (j ∷ index) in grind arith) shape.0.edge also.0.edge,
      each_kept ds chunk index edges es box.1 below.1 (λ x. let there = same (i ∷ x) in grind arith) shape.1 also.1,
    )
each_kept _ _ _ _ _ box below same shape also = absurd assumption

-- a chunk that holds an element of the array is used
pub is_used : (ds : List Dimension) (chunk index : List ℕ) → HasElementOf ds chunk index → IsUsed ds chunk
is_used ds chunk index (box, below) = (index, box, (in_array ds index).0 below)

-- and so is one that is kept, after as before
pub kept_used : (ds es : List Dimension) (chunk : List ℕ) → IsKept ds es chunk → IsUsed es chunk
kept_used ds es chunk kept =
    let (index, box, inside) = kept.used in is_used es chunk index ((kept.elements index).0 (box, (in_array ds index).1 inside))

pub kept_is_all : (ds es : List Dimension) (chunk : List ℕ) → IsKept ds es chunk → AllKept ds chunk es
kept_is_all ds es chunk kept =
    let (index, box, inside) = kept.used in
    let (edges, shape) = has_shape ds chunk index box in
    each_kept ds chunk index edges es box ((in_array ds index).1 inside) kept.elements shape ((kept.shape edges).0 shape)

-- ---- what is computed

kept_below : (used next kept chunk : List ℕ) → length used ≡ length next → length kept ≡ length used
    → ((k : ℕ) → k < length used → slice_index_or kept k 0 ≤ min (slice_index_or used k 0) (slice_index_or next k 0))
    → AreBelow kept chunk → AreBelow used chunk × AreBelow next chunk
kept_below [] [] [] [] same long least below = (tt, tt)
kept_below (u ∷ used) (v ∷ next) (n ∷ kept) (c ∷ chunk) same long least below =
    let rest = kept_below used next kept chunk (omega arith) (omega arith) (λ k within. least (suc k) (omega arith)) below.1 in
    let here : n ≤ min u v = least 0 (omega arith) in
    grind arith
kept_below _ _ _ _ same long least below = absurd (first_of (assumption, omega arith))

kept_in_each : (ds es : List Dimension) (chunk used next kept : List ℕ) → AreResized ds es → length kept ≡ length used
    → ((k : ℕ) → k < length used → 0 < min (slice_index_or used k 0) (slice_index_or next k 0)
    → KeepsAlong ds es k (min (slice_index_or used k 0) (slice_index_or next k 0)) (slice_index_or kept k 0))
    → ((x : List ℕ) → AreBelow used x → AllHoldSome ds x) → ((x : List ℕ) → AreBelow next x → AllHoldSome es x)
    → AllHoldSome ds chunk → AreBelow used chunk → AreBelow next chunk → AreBelow kept chunk ↔ AllKept ds chunk es
kept_in_each [] [] [] [] [] [] resized long keeps some after here below also = (λ _. tt, λ _. tt)
kept_in_each (d ∷ ds) (e ∷ es) (c ∷ chunk) (u ∷ used) (v ∷ next) (n ∷ kept) resized long keeps some after here below also =
    let less : c < u = below.0 in
    let also_less : c < v = also.0 in
    let first = keeps 0 (omega arith) (omega arith) resized.0
    (λ x (within : x < min u v). ((some (x ∷ chunk) (omega arith, below.1)).0, (after (x ∷ chunk) (omega arith, also.1)).0)) c in
    let rest = kept_in_each ds es chunk used next kept resized.1 (omega arith) (λ k within. keeps (suc k) (omega arith))
    (λ x within. (some (c ∷ x) (less, within)).1) (λ x within. (after (c ∷ x) (also_less, within)).1) here.1 below.1 also.1 in
    grind arith
kept_in_each _ _ _ _ _ _ resized long keeps some after here below also = absurd (first_of (assumption, omega arith))

module _ (ds es : List Dimension) (used next kept : List ℕ) (resized : AreResized ds es) (same : length used ≡ length next)
    (long : length kept ≡ length used) (named : (chunk : List ℕ) → AreBelow used chunk ↔ IsUsed ds chunk)
    (named_after : (chunk : List ℕ) → AreBelow next chunk ↔ IsUsed es chunk) where
  abbrev Both : ℕ → ℕ
  Both k = min (slice_index_or used k 0) (slice_index_or next k 0)

  pub kept_are : ((k : ℕ) → k < length used → slice_index_or kept k 0 ≤ Both k)
      → ((k : ℕ) → k < length used → 0 < Both k → KeepsAlong ds es k (Both k) (slice_index_or kept k 0))
      → (chunk : List ℕ) → AreBelow kept chunk ↔ IsKept ds es chunk
  kept_are least keeps chunk = (
    λ less.
        let (below, also) = kept_below used next kept chunk same long least less in
        let all = (in_each below also).0 less in
        record {
          used = (named chunk).0 below;
          elements = λ index. elements_stay ds chunk es index all;
          shape = λ edges. shape_stays ds chunk es edges all;
        },
    λ is_kept. (in_each ((named chunk).1 is_kept.used) ((named_after chunk).1 (kept_used ds es chunk is_kept))).1 (kept_is_all ds es chunk is_kept),
  ) where
    in_each : AreBelow used chunk → AreBelow next chunk → AreBelow kept chunk ↔ AllKept ds chunk es
    in_each below also =
        kept_in_each ds es chunk used next kept resized long keeps (λ x within. meets_hold ds x ((named x).0 within))
        (λ x within. meets_hold es x ((named_after x).0 within)) (meets_hold ds chunk ((named chunk).0 below)) below also
