-- How listed edges are seen as a dimension, and that it is a chain.
use Rattle.std.specs.Prelude.{ℕ, zero, suc, ◌+◌, ◌-◌, ◌<◌, ◌≤◌, ◌≡◌, nat_lt, List, [], ◌∷◌, length, take, refl}
use Rattle.std.proofs.Common.{get_or, add-one, ⊎_elim, arith, ltb-true, lt-ltb}
use Rattle.std.proofs.lemmas.Bool.{cases_lt}
use Rattle.std.proofs.lemmas.List.Sums.{sum_by_more}
use Rattle.std.specs.List.{sum}
use Rattle.zarrs_chunk_base.specs.Dimension.{Dimension, Holds, IsChain}
use Rattle.zarrs_chunk_axes.specs.Listed.{IsListed}
use Rattle.zarrs_chunk_axes.specs.lemmas.Running.{sum_next, take_next}

-- the dimension of an array size and a list of edges
abbrev pub listed_from : ℕ → List ℕ → Dimension
listed_from size edges = record {
  array_size = size;
  grid_size = length edges;
  has_chunk = λ c. nat_lt c (length edges);
  start = λ c. sum (take c edges);
  end = λ c. sum (take (c + 1) edges);
}

-- a chunk is as long as its edge
pub end_is : (edges : List ℕ) (c : ℕ) → c < length edges → sum (take (c + 1) edges) ≡ sum (take c edges) + get_or edges c 0
end_is edges c within = sum_by_more (λ x. x) edges c 0 within

-- an index below the sum of the edges lies between two running sums
between : (edges : List ℕ) (i : ℕ) → i < sum edges → (c : ℕ) × (c < length edges) × (sum (take c edges) ≤ i) × (i < sum (take (suc c) edges))
between [] i within = absurd (omega arith)
between (edge ∷ edges) i within =
    ⊎_elim (λ (first : i < edge). (zero, omega arith, omega arith, omega (arith, take_next edge edges zero)))
    (λ (later : edge ≤ i).
    let (c, counted, from, below) = between edges (i - edge) (omega (arith, sum_next edge edges)) in
    (suc c, omega arith, omega (arith, take_next edge edges c), omega (arith, take_next edge edges (suc c))))
    (cases_lt i edge)

-- and so in a chunk
pub reached : (size : ℕ) (edges : List ℕ) (i : ℕ) → i < sum edges → (c : ℕ) × (c < length edges) × Holds (listed_from size edges) c i
reached size edges i within =
    let (c, counted, from, below) = between edges i within in
    (c, counted, record { chunk = lt-ltb c (length edges) counted; from = from; below = rw add-one below })

-- where no edge is 0 and they reach over the array, the dimension is a chain
pub listed_from_is_chain : (size : ℕ) (edges : List ℕ) → ((c : ℕ) → c < length edges → 0 < get_or edges c 0) → size ≤ sum edges
    → IsChain (listed_from size edges)
listed_from_is_chain size edges positive covers =
    record {
      from_zero = λ _. refl;
      not_empty = λ c has.
          let within : c < length edges = ltb-true c (length edges) has in
          omega (arith, positive c within, end_is edges c within);
      no_gap = λ c has.
          let later : c + 1 < length edges = ltb-true (c + 1) (length edges) has in
          (lt-ltb c (length edges) (omega arith), refl);
      counted = λ c below. lt-ltb c (length edges) below;
      reaches = λ i within. reached size edges i (omega arith);
    }

pub listed_from_is_made : (size : ℕ) (edges : List ℕ) → IsListed (listed_from size edges) size edges
listed_from_is_made size edges =
    record {
      array_size = refl;
      grid_size = refl;
      chunks = λ c. (ltb-true c (length edges), lt-ltb c (length edges));
      start = λ c _. refl;
      end = λ c _. refl;
    }
