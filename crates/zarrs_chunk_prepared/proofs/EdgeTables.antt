-- The numbers of one edge for all chunks are those of their dimension.
use Rattle.std.proofs.Common.{◌≡◌, ◌∙◌, ◌++◌, Bool, true, false, List, ap, ℕ, zero, suc, ◌+◌, ◌-◌, ◌*◌, ◌<◌, ◌≤◌, [], ◌∷◌, arith, get_or, min, inl, inr, length, refl, subst, sym, IsTrue, ⊎_elim}
use Rattle.std.proofs.Math.Nat.{mul-le-mul_right}
use Rattle.std.proofs.lemmas.Bool.{cases_lt}
use Rattle.std.proofs.lemmas.List.Sorted.{IsNonDecreasingBy-short}
use Rattle.zarrs_chunk_axes.specs.Bounded.{IsBounded}
use Rattle.zarrs_chunk_axes.specs.EqualEdges.{IsEqualEdges}
use Rattle.zarrs_chunk_axes.specs.LookUp.{HasRange}
use Rattle.zarrs_chunk_base.specs.Dimension.{Dimension, Holds, IsChain}
use Rattle.zarrs_chunk_base.specs.DimensionEdges.{equal}
use Rattle.zarrs_chunk_base.specs.Greatest.{greatest}
use Rattle.zarrs_chunk_prepared.specs.Prepared.{HasRunCount, IsLastUpTo, IsOfRun, IsShortest, IsTableOf, LiesInRun, Table, row}
use Rattle.zarrs_chunk_prepared.specs.seen.RunTable.{IsCut}

-- one run, up to the last index and the last chunk
abbrev pub one_run : (grid_size last_index last_chunk edge : ℕ) → Table
one_run grid_size last_index last_chunk edge = record {
  grid_size = grid_size;
  last_index = last_index;
  last_chunk = last_chunk;
  starts = 0 ∷ [];
  chunks = 0 ∷ [];
  edges = edge ∷ [];
}

-- no run
abbrev pub no_run : ℕ → Table
no_run grid_size = record { grid_size = grid_size; last_index = 0; last_chunk = 0; starts = []; chunks = []; edges = [] }

module _ (d : Dimension) (last_index last_chunk edge : ℕ) (chain : IsChain d) (positive : 0 < edge)
    (homes : (index chunk place : ℕ) → index ≤ last_index → place < edge → chunk * edge + place ≡ index
    → Holds d chunk index × (d.start chunk + place ≡ index))
    (no_home : (index : ℕ) → index ≤ greatest → last_index < index → (chunk : ℕ) → ¬ Holds d chunk index)
    (has : (chunk : ℕ) → chunk ≤ last_chunk → IsTrue (d.has_chunk chunk))
    (start : (chunk : ℕ) → chunk ≤ last_chunk → d.start chunk ≡ chunk * edge)
    (end : (chunk : ℕ) → chunk ≤ last_chunk → min (d.end chunk) (greatest + 1) ≡ min (chunk * edge + edge) (last_index + 1))
    (no_range : (chunk : ℕ) → chunk ≤ greatest → last_chunk < chunk → (range : ℕ × ℕ) → ¬ HasRange d chunk range) where
  abbrev table : Table
  table = one_run d.grid_size last_index last_chunk edge

  home : (index run quotient place : ℕ) → index ≤ last_index → IsLastUpTo (0 ∷ []) index run → place < get_or (edge ∷ []) run 0
      → get_or (0 ∷ []) run 0 + (quotient * get_or (edge ∷ []) run 0 + place) ≡ index → LiesInRun d table run index quotient place
  home index zero quotient place up_to found less whole =
      let same : quotient ≡ 0 + quotient = omega arith in
      subst (λ c. Holds d c index × (d.start c + place ≡ index)) same (homes index quotient place up_to less (omega arith))
  home index (suc run) quotient place up_to found less whole = let within = found.within in absurd (omega arith)

  of_run : (chunk run : ℕ) → chunk ≤ last_chunk → IsLastUpTo (0 ∷ []) chunk run → IsOfRun d table run chunk
  of_run chunk zero up_to found = record {
    has = has chunk up_to;
    start =
        let first : chunk ≡ chunk - 0 = omega arith in
        subst (λ n. d.start chunk ≡ 0 + n * edge) first (omega (arith, start chunk up_to));
    end = subst (λ n. min (d.end chunk) (greatest + 1) ≡ min (n + edge) (last_index + 1)) (sym (start chunk up_to)) (end chunk up_to);
  }
  of_run chunk (suc run) up_to found = let within = found.within in absurd (omega arith)

  pub one_table : IsTableOf d (one_run d.grid_size last_index last_chunk edge)
  one_table = record {
    chain = chain;
    is_grid_size = refl;
    long = record { chunks = refl; edges = refl };
    first_start = λ _. refl;
    first_chunk = λ _. refl;
    starts_rise = IsNonDecreasingBy-short (λ x. x) (0 ∷ []) (omega arith);
    chunks_rise = IsNonDecreasingBy-short (λ x. x) (0 ∷ []) (omega arith);
    some = only_edge;
    homes = home;
    no_home = λ index fit past. no_home index fit (⊎_elim (λ more. more) (λ none. absurd (omega arith)) past);
    ranges = of_run;
    no_range = λ chunk fit past. no_range chunk fit (⊎_elim (λ more. more) (λ none. absurd (omega arith)) past);
  } where
    only_edge : (run : ℕ) → run < 1 → 0 < get_or (edge ∷ []) run 0
    only_edge zero within = positive
    only_edge (suc run) within = absurd (omega arith)

-- chunks of one edge
pub equal_table : (d : Dimension) (size edge : ℕ) → IsChain d → 0 < edge → IsEqualEdges d size edge
    → IsTableOf d (one_run d.grid_size greatest greatest edge)
equal_table d size edge chain positive is =
    one_table d greatest greatest edge chain positive
    (λ index chunk place up_to less whole.
    let starts = is.start chunk in
    let ends = is.end chunk in
    (record { chunk = is.chunks chunk; from = omega arith; below = omega arith }, omega arith))
    (λ index fit past. absurd (omega arith))
    (λ chunk up_to. is.chunks chunk) (λ chunk up_to. is.start chunk) (λ chunk up_to. omega (arith, is.end chunk))
    (λ chunk fit past. absurd (omega arith))

-- what has a product has a factor
some_edges : (n edge : ℕ) → 0 < n * edge → 0 < n
some_edges zero edge some = omega arith
some_edges (suc n) edge some = omega arith

-- chunks of one edge that end with the array
pub bounded_table : (d : Dimension) (size edge : ℕ) → IsChain d → 0 < edge → 0 < size → size ≤ greatest → IsBounded d size edge
    → IsTableOf d (one_run d.grid_size (size - 1) (d.grid_size - 1) edge)
bounded_table d size edge chain positive some fits is =
    one_table d (size - 1) (d.grid_size - 1) edge chain positive
    (λ index chunk place up_to less whole.
    let has = (is.chunks chunk).1 (omega arith) in
    (record { chunk = has; from = omega (arith, is.start chunk has); below = omega (arith, is.end chunk has) }, omega (arith, is.start chunk has)))
    (λ index fit past chunk held. let below = held.below in omega (arith, is.end chunk held.chunk))
    has (λ chunk up_to. is.start chunk (has chunk up_to)) (λ chunk up_to. omega (arith, is.end chunk (has chunk up_to)))
    (λ chunk fit past range ranges.
    let within = (is.chunks chunk).0 ranges.start.chunk in
    let up_to : d.grid_size ≤ chunk = omega (arith, counts) in
    let more = mul-le-mul_right edge up_to in
    omega (arith, is.covers)) where
      counts : 0 < d.grid_size
      counts = some_edges d.grid_size edge (omega (arith, is.covers))

      counted : (chunk : ℕ) → chunk < d.grid_size → chunk * edge < size
      counted chunk less =
          ⊎_elim (λ below. below) (λ (from : size ≤ chunk * edge). absurd (omega (arith, is.least chunk from))) (cases_lt (chunk * edge) size)

      has : (chunk : ℕ) → chunk ≤ d.grid_size - 1 → IsTrue (d.has_chunk chunk)
      has chunk up_to = (is.chunks chunk).1 (counted chunk (omega (arith, counts)))

-- no chunk, where the array has no element
pub empty_table : (d : Dimension) (edge : ℕ) → IsChain d → IsBounded d 0 edge → IsTableOf d (no_run d.grid_size)
empty_table d edge chain is = record {
  chain = chain;
  is_grid_size = refl;
  long = record { chunks = refl; edges = refl };
  first_start = λ some. absurd (omega arith);
  first_chunk = λ some. absurd (omega arith);
  starts_rise = IsNonDecreasingBy-short (λ x. x) [] (omega arith);
  chunks_rise = IsNonDecreasingBy-short (λ x. x) [] (omega arith);
  some = λ run within. absurd (omega arith);
  homes = λ index run quotient place up_to found. absurd (let within = found.within in omega arith);
  no_home = λ index fit past chunk held. let none = (is.chunks chunk).0 held.chunk in omega arith;
  ranges = λ chunk run up_to found. absurd (let within = found.within in omega arith);
  no_range = λ chunk fit past range ranges. let none = (is.chunks chunk).0 ranges.start.chunk in omega arith;
}

-- one run, or none, is no more than there must be
shortest : (d : Dimension) (edge : ℕ) (t : Table) → length t.starts ≤ 1 → HasRunCount d (length t.starts) (equal edge) → IsShortest d (equal edge) t
shortest d edge t few runs = record { runs = runs; later = λ run within. absurd (omega arith); differ = λ run within. absurd (omega arith) }

-- the numbers that were appended are those of the dimension
abbrev pub Appended : Dimension → (edge : ℕ) → (before after : List ℕ) → Type 0
Appended d edge before after = (t : Table) × IsTableOf d t × IsShortest d (equal edge) t × (after ≡ before ++ row t)

module _ (before after : List ℕ) (d : Dimension) (size count edge : ℕ) (bounded : Bool) (chain : IsChain d) (counts : count ≡ d.grid_size)
    (positive : 0 < edge) (cut : IsCut bounded d size (equal edge)) where
  pub appended_equal : bounded ≡ false → after ≡ before ++ (count ∷ greatest ∷ greatest ∷ 1 ∷ 0 ∷ 0 ∷ edge ∷ []) → Appended d edge before after
  appended_equal unbounded is = (
    one_run d.grid_size greatest greatest edge,
    equal_table d size edge chain positive (rw unbounded at cut),
    shortest d edge _ (omega arith) (inl (refl, (rw unbounded at cut).chunks 0)),
    is ∙ ap (λ n. before ++ (n ∷ greatest ∷ greatest ∷ 1 ∷ 0 ∷ 0 ∷ edge ∷ [])) counts,
  )

  pub appended_empty : bounded ≡ true → size ≡ 0 → after ≡ before ++ (count ∷ 0 ∷ 0 ∷ 0 ∷ []) → Appended d edge before after
  appended_empty ends none is = (
    no_run d.grid_size,
    empty_table d edge chain (rw (ends, none) at cut),
    shortest d edge _ (omega arith) (inr (refl, λ has. let below = ((rw (ends, none) at cut).chunks 0).0 has in omega arith)),
    is ∙ ap (λ n. before ++ (n ∷ 0 ∷ 0 ∷ 0 ∷ [])) counts,
  )

  pub appended_bounded : bounded ≡ true → 0 < size → size ≤ greatest
      → after ≡ before ++ (count ∷ (size - 1) ∷ (count - 1) ∷ 1 ∷ 0 ∷ 0 ∷ edge ∷ []) → Appended d edge before after
  appended_bounded ends some fits is = (
    one_run d.grid_size (size - 1) (d.grid_size - 1) edge,
    bounded_table d size edge chain positive some fits (rw ends at cut),
    shortest d edge _ (omega arith) (inl (refl, ((rw ends at cut).chunks 0).1 (omega arith))),
    is ∙ ap (λ n. before ++ (n ∷ (size - 1) ∷ (n - 1) ∷ 1 ∷ 0 ∷ 0 ∷ edge ∷ [])) counts,
  )
