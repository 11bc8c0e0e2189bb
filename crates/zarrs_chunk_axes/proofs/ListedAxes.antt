-- What running sums of edges tell of the chunks.
use Rattle.std.proofs.Common.{◌≡◌, ℕ, zero, suc, ◌+◌, ◌-◌, ◌<◌, ◌≤◌, List, [], ◌∷◌, length, map, take, get_or, Option, Some, None, MatchOption}
use Rattle.std.proofs.Common.{add-one, ap, refl, subst, sym, true, false, leb, leb-true, leb-false, arith, ltb-true, lt-ltb}
use Rattle.std.specs.List.{AllWithin, sum}
use Rattle.std.specs.List.Sorted.{IsNonDecreasingBy}
use Rattle.std.proofs.lemmas.List.Sums.{sum_by-take-le}
use Rattle.std.specs.Int.NonZero.{non_zero_u64_get}
use Rattle.std.specs.declared.num.NonZeroU64.{NonZeroU64}
use Rattle.zarrs_chunk_base.specs.Dimension.{Holds, HasEdge}
use Rattle.zarrs_chunk_axes.specs.seen.ListedAxis.{positive_edge}
use Rattle.zarrs_chunk_axes.specs.seen.ListedEdges.{listed_from, end_is}
use Rattle.zarrs_chunk_axes.specs.lemmas.Running.{AreBounds, IsFirstPast, Rises, edges_between, ends_from, take_next}

pub length_between : (start : ℕ) (ends : List ℕ) → length (edges_between start ends) ≡ length ends
length_between start [] = refl
length_between start (end ∷ ends) = omega (arith, length_between end ends)

pub length_ends : (start : ℕ) (edges : List ℕ) → length (ends_from start edges) ≡ length edges
length_ends start [] = refl
length_ends start (edge ∷ edges) = omega (arith, length_ends (start + edge) edges)

-- numbers that rise are the running sums of what lies between them
pub ends_are : (start : ℕ) (ends : List ℕ) → Rises start ends → ends_from start (edges_between start ends) ≡ ends
ends_are start [] rises = refl
ends_are start (end ∷ ends) rises =
    let first = rises.0 in
    let at : start + (end - start) ≡ end = omega arith in
    rw at (ap (λ rest. end ∷ rest) (ends_are end ends rises.1))

-- edges are what lies between their running sums
pub between_are : (start : ℕ) (edges : List ℕ) → edges_between start (ends_from start edges) ≡ edges
between_are start [] = refl
between_are start (edge ∷ edges) =
    let at : start + edge - start ≡ edge = omega arith in
    rw (at, between_are (start + edge) edges) refl

-- no edge is 0, so their running sums rise
pub ends_rise : (start : ℕ) (edges : List NonZeroU64) → Rises start (ends_from start (map non_zero_u64_get edges))
ends_rise start [] = tt
ends_rise start (edge ∷ edges) = let positive = edge.ok in (omega arith, ends_rise (start + non_zero_u64_get edge) edges)

-- a chunk ends after its edge and the edges before it
pub end_at : (start : ℕ) (edges : List ℕ) (c d : ℕ) → c < length edges → get_or (ends_from start edges) c d ≡ start + sum (take (suc c) edges)
end_at start [] c d within = absurd (omega arith)
end_at start (edge ∷ edges) zero d within = omega (arith, take_next edge edges zero)
end_at start (edge ∷ edges) (suc c) d within =
    let rest : get_or (ends_from start (edge ∷ edges)) (suc c) d ≡ start + edge + sum (take (suc c) edges) =
    end_at (start + edge) edges c d (omega arith) in
    omega (arith, take_next edge edges (suc c))

-- running sums rise
pub sums_rise : (edges : List ℕ) (b c : ℕ) → b ≤ c → sum (take b edges) ≤ sum (take c edges)
sums_rise edges zero c h = omega arith
sums_rise edges (suc b) zero h = absurd (omega arith)
sums_rise [] (suc b) (suc c) h = omega arith
sums_rise (edge ∷ edges) (suc b) (suc c) h = omega (arith, take_next edge edges b, take_next edge edges c, sums_rise edges b c (omega arith))

-- so the ends are in order
pub ends_are_in_order : (edges : List ℕ) → IsNonDecreasingBy (λ x. x) (ends_from 0 edges)
ends_are_in_order edges i j d below within =
    let lengths = length_ends 0 edges in
    omega (arith, end_at 0 edges i d (omega arith), end_at 0 edges j d (omega arith), sums_rise edges (suc i) (suc j) (omega arith))

-- where the ends are split at an index
pub is_first_past : (edges : List ℕ) (index first : ℕ) → first ≤ length (ends_from 0 edges)
    → AllWithin (λ y. leb y index ≡ true) (ends_from 0 edges) 0 first
    → AllWithin (λ y. leb y index ≡ false) (ends_from 0 edges) first (length (ends_from 0 edges)) → IsFirstPast edges index first
is_first_past edges index first bound low high =
    let lengths = length_ends 0 edges in
    record {
      bound = omega arith;
      low = λ c below. let at : get_or (ends_from 0 edges) c 0 ≤ index = leb-true _ index (low c 0 (omega arith) below) in
          omega (arith, end_at 0 edges c 0 (omega arith));
      high = λ c after within. let at : index < get_or (ends_from 0 edges) c 0 = leb-false _ index (high c 0 after (omega arith)) in
          omega (arith, end_at 0 edges c 0 within);
    }

module _ (size : ℕ) (edges : List ℕ) (index : ℕ) where
  -- the chunks before the first that ends past the index end at it or before
  starts_before : (first : ℕ) → IsFirstPast edges index first → sum (take first edges) ≤ index
  starts_before zero is = omega arith
  starts_before (suc c) is = is.low c (omega arith)

  -- so that one holds it
  pub first_holds : (first : ℕ) → IsFirstPast edges index first → first < length edges → Holds (listed_from size edges) first index
  first_holds first is within =
      record { chunk = lt-ltb first (length edges) within; from = starts_before first is; below = rw add-one (is.high first (omega arith) within) }

  -- and where there is none, no chunk does
  pub none_holds : (first : ℕ) → IsFirstPast edges index first → length edges ≤ first → (c : ℕ) → ¬ Holds (listed_from size edges) c index
  none_holds first is all c holds =
      let within : c < length edges = ltb-true c (length edges) holds.chunk in
      let ends = is.low c (omega arith) in
      let below = holds.below in
      absurd (omega (arith, ap (λ k. sum (take k edges)) (add-one c)))

-- a number of those that rise is the sum of the edges up to its own
ends_sum : (ends : List ℕ) → Rises 0 ends → (c d : ℕ) → c < length ends → get_or ends c d ≡ sum (take (suc c) (edges_between 0 ends))
ends_sum ends rises c d within =
    let at = rw (ends_are 0 ends rises) at (end_at 0 (edges_between 0 ends) c d (omega (arith, length_between 0 ends))) in
    omega (arith, at)

-- a chunk after another begins where that ends
pub bounds_after : (ends : List ℕ) → Rises 0 ends → (chunk before : ℕ) (bounds : ℕ × ℕ) → before + 1 ≡ chunk → chunk < length ends
    → get_or ends before bounds.0 ≡ bounds.0 → get_or ends chunk bounds.1 ≡ bounds.1 → AreBounds (edges_between 0 ends) chunk bounds
bounds_after ends rises chunk before bounds next within start end =
    let at : suc before ≡ chunk = omega arith in
    record {
      counted = omega (arith, length_between 0 ends);
      start = omega (arith, ends_sum ends rises before bounds.0 (omega arith), ap (λ k. sum (take k (edges_between 0 ends))) at);
      end = omega (arith, ends_sum ends rises chunk bounds.1 within);
    }

-- a chunk ends past its start
pub in_order : (ends : List ℕ) → Rises 0 ends → (chunk : ℕ) (bounds : ℕ × ℕ) → AreBounds (edges_between 0 ends) chunk bounds → bounds.0 < bounds.1
in_order ends rises chunk bounds are =
    let start = are.start in
    let end = are.end in
    let edges = edges_between 0 ends in
    omega (arith, positive_edge 0 ends rises chunk are.counted, end_is edges chunk are.counted, ap (λ k. sum (take k edges)) (add-one chunk))

-- and its edge is what lies between
pub is_edge : (size : ℕ) (edges : List ℕ) (chunk : ℕ) (bounds : ℕ × ℕ) → AreBounds edges chunk bounds
    → HasEdge (listed_from size edges) chunk (bounds.1 - bounds.0)
is_edge size edges chunk bounds are =
    let start = are.start in
    let end = are.end in
    record {
      chunk = lt-ltb chunk (length edges) are.counted;
      edge = omega (arith, end_is edges chunk are.counted, ap (λ k. sum (take k edges)) (add-one chunk));
    }

-- a number that isn't 0 is taken as an edge
pub edge_taken : (Q : ℕ → Type 0) (gap : ℕ) (P : Type 0) (taken : Option NonZeroU64) → 0 < gap → Q gap
    → MatchOption taken (gap ≡ 0) (λ edge. non_zero_u64_get edge ≡ gap) → MatchOption taken P (λ edge. Q (non_zero_u64_get edge))
edge_taken Q gap P None positive is nothing = absurd (omega arith)
edge_taken Q gap P (Some edge) positive is at = subst Q (sym at) is

-- an index in a chunk is below the sum of the edges
pub below_sum : (size : ℕ) (edges : List ℕ) (i c : ℕ) → Holds (listed_from size edges) c i → i < sum edges
below_sum size edges i c holds = let below = holds.below in omega (arith, sum_by-take-le (λ x. x) edges (c + 1))
