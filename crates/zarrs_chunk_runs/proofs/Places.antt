-- What running sums tell of the chunks in a run.
use Rattle.std.proofs.Common.{◌≡◌, ℕ, zero, suc, ◌+◌, ◌-◌, ◌*◌, ◌/◌, ◌%◌, ◌<◌, ◌≤◌, List, [], ◌∷◌, ◌++◌, length, map, take, replicate, get_or, refl}
use Rattle.std.proofs.Common.{sym, ap, ◌∙◌, append_assoc, add-one, subst, drop, arith}
use Rattle.std.specs.List.{sum}
use Rattle.std.specs.Int.NonZero.{non_zero_u64_get}
use Rattle.std.specs.declared.num.NonZeroU64.{NonZeroU64}
use Rattle.std.proofs.Math.Nat.{div-mul-le_self, lt-div-mul-add, lt_of_mul-lt-mul_right, mod-add-div'}
use Rattle.std.proofs.Math.Seq.{drop-cons, take-append-add, take-length}
use Rattle.std.proofs.lemmas.List.{get_or-replicate, length-append, length-replicate, take-append-le, take-replicate}
use Rattle.std.proofs.lemmas.List.Concat.{get_or-flat_map}
use Rattle.std.proofs.lemmas.List.Folds.{length-flat_map-take, sum_by-replicate}
use Rattle.std.proofs.lemmas.List.Sums.{sum_by-append, sum_by-cons}
use Rattle.zarrs_chunk_runs.specs.Runs.{IsChunkOf, IsRunOf, edges_of_run, edges_of_runs, run_of}
use Rattle.zarrs_chunk_runs.specs.lemmas.Running.{IsFirstAbove, chunk_ends_of, count_of_run, ends_of, size_of}
use Rattle.zarrs_chunk_runs.proofs.RunSums.{chunk_end_at, end_at, length_running, one_run_more}
use Rattle.std.proofs.lemmas.List.{length-map}

-- a run takes up at least one element for each of its chunks
pub at_least_count : (edge count : ℕ) → 0 < edge → count ≤ edge * count
at_least_count zero count some = absurd (omega arith)
at_least_count (suc m) count some = omega arith

pub chunks_fit : (runs : List (NonZeroU64 × NonZeroU64)) → sum (map count_of_run (map run_of runs)) ≤ sum (map size_of (map run_of runs))
chunks_fit [] = omega arith
chunks_fit (run ∷ runs) =
    omega (
      arith,
      at_least_count (non_zero_u64_get run.0) (non_zero_u64_get run.1) run.0.ok,
      chunks_fit runs,
      sum_by-cons (λ x. x) (count_of_run (run_of run)) (map count_of_run (map run_of runs)),
      sum_by-cons (λ x. x) (size_of (run_of run)) (map size_of (map run_of runs)),
    )

pub length_ends : (runs : List (ℕ × ℕ)) → length (ends_of runs) ≡ length runs
length_ends runs = length_running 0 (map size_of runs) ∙ length-map runs size_of

pub length_chunk_ends : (runs : List (ℕ × ℕ)) → length (chunk_ends_of runs) ≡ length runs
length_chunk_ends runs = length_running 0 (map count_of_run runs) ∙ length-map runs count_of_run

module _ (runs : List (ℕ × ℕ)) (k d : ℕ) (within : k < length runs) where
  -- a run ends so many elements after those of the runs before it
  pub end_after : get_or (ends_of runs) k d ≡ sum (edges_of_runs (take k runs)) + (get_or runs k (0, 0)).0 * (get_or runs k (0, 0)).1
  end_after =
      let run = get_or runs k (0, 0) in
      let more : sum (edges_of_runs (take (suc k) runs)) ≡ sum (edges_of_runs (take k runs) ++ edges_of_run run) =
      ap sum (one_run_more runs k (0, 0) within) in
      let parts = sum_by-append (λ x. x) (edges_of_runs (take k runs)) (edges_of_run run) in
      omega (arith, end_at runs k d within, more, parts, sum_by-replicate (λ x. x) run.1 run.0)

  -- and so many chunks
  pub chunk_end_after : get_or (chunk_ends_of runs) k d ≡ length (edges_of_runs (take k runs)) + (get_or runs k (0, 0)).1
  chunk_end_after =
      let run = get_or runs k (0, 0) in
      let more : length (edges_of_runs (take (suc k) runs)) ≡ length (edges_of_runs (take k runs) ++ edges_of_run run) =
      ap length (one_run_more runs k (0, 0) within) in
      omega (arith, chunk_end_at runs k d within, more, length-append (edges_of_runs (take k runs)) (edges_of_run run), length-replicate run.1 run.0)

-- the same of a run that was looked up
pub end_of_run : (runs : List (ℕ × ℕ)) (k d : ℕ) (run : ℕ × ℕ) → k < length runs → get_or runs k (0, 0) ≡ run
    → get_or (ends_of runs) k d ≡ sum (edges_of_runs (take k runs)) + run.0 * run.1
end_of_run runs k d run within is =
    subst (λ r. get_or (ends_of runs) k d ≡ sum (edges_of_runs (take k runs)) + r.0 * r.1) is (end_after runs k d within)

pub chunk_end_of_run : (runs : List (ℕ × ℕ)) (k d : ℕ) (run : ℕ × ℕ) → k < length runs → get_or runs k (0, 0) ≡ run
    → get_or (chunk_ends_of runs) k d ≡ length (edges_of_runs (take k runs)) + run.1
chunk_end_of_run runs k d run within is =
    subst (λ r. get_or (chunk_ends_of runs) k d ≡ length (edges_of_runs (take k runs)) + r.1) is (chunk_end_after runs k d within)

-- the edges up to a chunk of a run: those of the runs before it, and so many of its own
take_within : (runs : List (ℕ × ℕ)) (k j : ℕ) (d : ℕ × ℕ) → k < length runs → j ≤ (get_or runs k d).1
    → take (length (edges_of_runs (take k runs)) + j) (edges_of_runs runs) ≡ edges_of_runs (take k runs) ++ replicate j (get_or runs k d).0
take_within [] k j d within own = absurd (omega arith)
take_within (run ∷ runs) zero j d within own =
    let counted : 0 + j ≡ j = omega arith in
    ap (λ n. take n (edges_of_run run ++ edges_of_runs runs)) counted
    ∙ take-append-le j (edges_of_run run) (edges_of_runs runs) (omega (arith, length-replicate run.1 run.0)) ∙ take-replicate j run.1 run.0 own
take_within (run ∷ runs) (suc k) j d within own =
    let before = edges_of_runs (take k runs) in
    let edge = (get_or runs k d).0 in
    let counted : length (edges_of_run run ++ before) + j ≡ length (edges_of_run run) + (length before + j) =
    omega (arith, length-append (edges_of_run run) before) in
    ap (λ n. take n (edges_of_run run ++ edges_of_runs runs)) counted
    ∙ take-append-add (edges_of_run run) (edges_of_runs runs) (length before + j)
    ∙ ap (λ rest. edges_of_run run ++ rest) (take_within runs k j d (omega arith) own)
    ∙ sym (append_assoc (edges_of_run run) before (replicate j edge))

module _ (runs : List (ℕ × ℕ)) (k : ℕ) (within : k < length runs) where
  -- where a chunk of the run starts
  pub start_within : (j : ℕ) → j ≤ (get_or runs k (0, 0)).1
      → sum (take (length (edges_of_runs (take k runs)) + j) (edges_of_runs runs)) ≡ sum (edges_of_runs (take k runs)) + j * (get_or runs k (0, 0)).0
  start_within j own =
      let run = get_or runs k (0, 0) in
      let before = edges_of_runs (take k runs) in
      let taken : sum (take (length before + j) (edges_of_runs runs)) ≡ sum (before ++ replicate j run.0) =
      ap sum (take_within runs k j (0, 0) within own) in
      omega (arith, taken, sum_by-append (λ x. x) before (replicate j run.0), sum_by-replicate (λ x. x) j run.0)

  -- its edge
  pub edge_within : (j : ℕ) → j < (get_or runs k (0, 0)).1
      → get_or (edges_of_runs runs) (length (edges_of_runs (take k runs)) + j) 0 ≡ (get_or runs k (0, 0)).0
  edge_within j own =
      let run = get_or runs k (0, 0) in
      get_or-flat_map edges_of_run runs k j (0, 0) 0 within (omega (arith, length-replicate run.1 run.0)) ∙ get_or-replicate run.1 j run.0 0 own

  -- the chunks of the run are among all
  pub chunks_within : length (edges_of_runs (take k runs)) + (get_or runs k (0, 0)).1 ≤ length (edges_of_runs runs)
  chunks_within =
      let run = get_or runs k (0, 0) in
      omega (arith, length-flat_map-take edges_of_run runs k (0, 0) within, length-replicate run.1 run.0)

-- what is before the first sum above a number isn't past it
pub starts_before : (runs : List (ℕ × ℕ)) (sought k : ℕ) → IsFirstAbove (ends_of runs) sought k → k ≤ length runs
    → sum (edges_of_runs (take k runs)) ≤ sought
starts_before runs sought zero is within = omega arith
starts_before runs sought (suc k) is within =
    let low : get_or (ends_of runs) k 0 ≤ sought = is.low k (omega arith) in
    omega (arith, end_at runs k 0 (omega arith))

pub chunks_before : (runs : List (ℕ × ℕ)) (sought k : ℕ) → IsFirstAbove (chunk_ends_of runs) sought k → k ≤ length runs
    → length (edges_of_runs (take k runs)) ≤ sought
chunks_before runs sought zero is within = omega arith
chunks_before runs sought (suc k) is within =
    let low : get_or (chunk_ends_of runs) k 0 ≤ sought = is.low k (omega arith) in
    omega (arith, chunk_end_at runs k 0 (omega arith))

-- where none is above, nothing is
pub none_starts : (runs : List (ℕ × ℕ)) (sought k : ℕ) → IsFirstAbove (ends_of runs) sought k → length runs ≤ k → sum (edges_of_runs runs) ≤ sought
none_starts runs sought k is past =
    let all : k ≡ length runs = let bound = is.bound in omega (arith, length_ends runs) in
    let before : sum (edges_of_runs (take k runs)) ≤ sought = starts_before runs sought k is (omega arith) in
    rw (all, take-length runs) at before

pub none_counted : (runs : List (ℕ × ℕ)) (sought k : ℕ) → IsFirstAbove (chunk_ends_of runs) sought k → length runs ≤ k
    → length (edges_of_runs runs) ≤ sought
none_counted runs sought k is past =
    let all : k ≡ length runs = let bound = is.bound in omega (arith, length_chunk_ends runs) in
    let before : length (edges_of_runs (take k runs)) ≤ sought = chunks_before runs sought k is (omega arith) in
    rw (all, take-length runs) at before

-- a quotient by an edge counts the chunks before
below_quotient : (rest edge count : ℕ) → 0 < edge → rest < edge * count → rest / edge < count
below_quotient rest edge count positive within =
    let low : rest / edge * edge ≤ rest = div-mul-le_self rest edge in
    let fits : rest / edge * edge < count * edge = omega arith in
    lt_of_mul-lt-mul_right edge fits

-- fewer chunks than the run has come before the one that holds an index in the run
pub own_chunk : (runs : List (ℕ × ℕ)) (i k : ℕ) → IsFirstAbove (ends_of runs) i k → k < length runs → 0 < (get_or runs k (0, 0)).0
    → (i - sum (edges_of_runs (take k runs))) / (get_or runs k (0, 0)).0 < (get_or runs k (0, 0)).1
own_chunk runs i k is within positive =
    let run = get_or runs k (0, 0) in
    let high : i < get_or (ends_of runs) k 0 = is.high k (omega arith) (omega (arith, length_ends runs)) in
    below_quotient (i - sum (edges_of_runs (take k runs))) run.0 run.1 positive
    (omega (arith, starts_before runs i k is (omega arith), end_after runs k 0 within))

-- the chunk that holds an index in the run
pub chunk_found : (runs : List (ℕ × ℕ)) (i k : ℕ) → IsFirstAbove (ends_of runs) i k → k < length runs → 0 < (get_or runs k (0, 0)).0
    → IsChunkOf (edges_of_runs runs) i (length (edges_of_runs (take k runs)) + (i - sum (edges_of_runs (take k runs))) / (get_or runs k (0, 0)).0)
chunk_found runs i k is within positive =
    let run = get_or runs k (0, 0) in
    let start = sum (edges_of_runs (take k runs)) in
    let first = length (edges_of_runs (take k runs)) in
    let from : start ≤ i = starts_before runs i k is (omega arith) in
    let rest = i - start in
    let own : rest / run.0 < run.1 = own_chunk runs i k is within positive in
    let low : rest / run.0 * run.0 ≤ rest = div-mul-le_self rest run.0 in
    let above : rest < rest / run.0 * run.0 + run.0 = lt-div-mul-add positive in
    let here : sum (take (first + rest / run.0) (edges_of_runs runs)) ≡ start + rest / run.0 * run.0 =
    start_within runs k within (rest / run.0) (omega arith) in
    let next : sum (take (first + (rest / run.0 + 1)) (edges_of_runs runs)) ≡ start + (rest / run.0 + 1) * run.0 =
    start_within runs k within (rest / run.0 + 1) (omega arith) in
    let same : first + rest / run.0 + 1 ≡ first + (rest / run.0 + 1) = omega arith in
    record {
      chunk = omega (arith, chunks_within runs k within);
      from = omega arith;
      below = rw same (omega arith);
    }

-- and how far after the chunk's start the index lies
pub home_found : (runs : List (ℕ × ℕ)) (i k : ℕ) → IsFirstAbove (ends_of runs) i k → k < length runs → 0 < (get_or runs k (0, 0)).0
    → IsChunkOf (edges_of_runs runs) i (length (edges_of_runs (take k runs)) + (i - sum (edges_of_runs (take k runs))) / (get_or runs k (0, 0)).0)
    × (sum (take (length (edges_of_runs (take k runs)) + (i - sum (edges_of_runs (take k runs))) / (get_or runs k (0, 0)).0) (edges_of_runs runs))
    + (i - sum (edges_of_runs (take k runs))) % (get_or runs k (0, 0)).0 ≡ i)
home_found runs i k is within positive =
    let run = get_or runs k (0, 0) in
    let start = sum (edges_of_runs (take k runs)) in
    let from : start ≤ i = starts_before runs i k is (omega arith) in
    let rest = i - start in
    let own : rest / run.0 < run.1 = own_chunk runs i k is within positive in
    (chunk_found runs i k is within positive, omega (arith, start_within runs k within (rest / run.0) (omega arith), mod-add-div' rest run.0))

-- the run that a chunk lies in
pub run_found : (runs : List (ℕ × ℕ)) (c k : ℕ) → IsFirstAbove (chunk_ends_of runs) c k → k < length runs → IsRunOf runs c k
run_found runs c k is within =
    let high : c < get_or (chunk_ends_of runs) k 0 = is.high k (omega arith) (omega (arith, length_chunk_ends runs)) in
    record {
      run = within;
      from = chunks_before runs c k is (omega arith);
      below = rw add-one (omega (arith, chunk_end_at runs k 0 within));
    }

-- the last end is the sum of all edges, and the last count is that of all chunks
pub last_end : (runs : List (ℕ × ℕ)) → get_or (ends_of runs) (length (ends_of runs) - 1) 0 ≡ sum (edges_of_runs runs)
last_end [] = refl
last_end (run ∷ runs) =
    let at : length (ends_of (run ∷ runs)) - 1 ≡ length runs = omega (arith, length_ends (run ∷ runs)) in
    rw at (end_at (run ∷ runs) (length runs) 0 (omega arith) ∙ ap (λ taken. sum (edges_of_runs (run ∷ taken))) (take-length runs))

pub last_chunk_end : (runs : List (ℕ × ℕ)) → get_or (chunk_ends_of runs) (length (chunk_ends_of runs) - 1) 0 ≡ length (edges_of_runs runs)
last_chunk_end [] = refl
last_chunk_end (run ∷ runs) =
    let at : length (chunk_ends_of (run ∷ runs)) - 1 ≡ length runs = omega (arith, length_chunk_ends (run ∷ runs)) in
    rw at (chunk_end_at (run ∷ runs) (length runs) 0 (omega arith) ∙ ap (λ taken. length (edges_of_runs (run ∷ taken))) (take-length runs))

-- the runs that are left: the next one and those after it
pub next_run : (items : List (NonZeroU64 × NonZeroU64)) (k : ℕ) (x : NonZeroU64 × NonZeroU64) → k < length items → x ≡ get_or items k x
    → map run_of (drop k items) ≡ run_of x ∷ map run_of (drop (suc k) items)
next_run items k x within at = ap (map run_of) (drop-cons items k x within ∙ ap (λ next. next ∷ drop (suc k) items) (sym at))

pub next_size : (items : List (NonZeroU64 × NonZeroU64)) (k : ℕ) (x : NonZeroU64 × NonZeroU64) → k < length items → x ≡ get_or items k x
    → sum (map size_of (map run_of (drop k items)))
    ≡ non_zero_u64_get x.0 * non_zero_u64_get x.1 + sum (map size_of (map run_of (drop (suc k) items)))
next_size items k x within at =
    ap (λ runs. sum (map size_of runs)) (next_run items k x within at)
    ∙ sum_by-cons (λ x. x) (size_of (run_of x)) (map size_of (map run_of (drop (suc k) items)))

pub next_count : (items : List (NonZeroU64 × NonZeroU64)) (k : ℕ) (x : NonZeroU64 × NonZeroU64) → k < length items → x ≡ get_or items k x
    → sum (map count_of_run (map run_of (drop k items))) ≡ non_zero_u64_get x.1 + sum (map count_of_run (map run_of (drop (suc k) items)))
next_count items k x within at =
    ap (λ runs. sum (map count_of_run runs)) (next_run items k x within at)
    ∙ sum_by-cons (λ x. x) (count_of_run (run_of x)) (map count_of_run (map run_of (drop (suc k) items)))

-- fewer chunks take up no more
pub fewer : (j n edge : ℕ) → j ≤ n → j * edge ≤ n * edge
fewer zero n edge h = omega arith
fewer (suc j) zero edge h = absurd (omega arith)
fewer (suc j) (suc n) edge h = omega (arith, fewer j n edge (omega arith))

-- a chunk's place in its run
pub place_in_run : (runs : List (ℕ × ℕ)) (c k : ℕ) → IsRunOf runs c k → c - length (edges_of_runs (take k runs)) < (get_or runs k (0, 0)).1
place_in_run runs c k is =
    let below : c < length (edges_of_runs (take (suc k) runs)) = rw add-one at is.below in
    let from = is.from in
    omega (arith, chunk_end_at runs k 0 is.run, chunk_end_after runs k 0 is.run)

-- a chunk of the run is one of all, and has the run's edge
pub edge_found : (runs : List (ℕ × ℕ)) (c k : ℕ) → IsRunOf runs c k
    → (c < length (edges_of_runs runs)) × (get_or (edges_of_runs runs) c 0 ≡ (get_or runs k (0, 0)).0)
edge_found runs c k is =
    let own = place_in_run runs c k is in
    let from = is.from in
    let at : length (edges_of_runs (take k runs)) + (c - length (edges_of_runs (take k runs))) ≡ c = omega arith in (
      omega (arith, chunks_within runs k is.run),
      ap (λ n. get_or (edges_of_runs runs) n 0) (sym at) ∙ edge_within runs k is.run (c - length (edges_of_runs (take k runs))) own,
    )

-- where it starts
pub start_found : (runs : List (ℕ × ℕ)) (c k : ℕ) → IsRunOf runs c k
    → sum (take c (edges_of_runs runs)) ≡ sum (edges_of_runs (take k runs)) + (c - length (edges_of_runs (take k runs))) * (get_or runs k (0, 0)).0
start_found runs c k is =
    let own = place_in_run runs c k is in
    let from = is.from in
    let before = length (edges_of_runs (take k runs)) in
    let at : before + (c - before) ≡ c = omega arith in
    ap (λ n. sum (take n (edges_of_runs runs))) (sym at) ∙ start_within runs k is.run (c - before) (omega arith)

-- what comes before it in its run takes up no more than the run
pub before_in_run : (runs : List (ℕ × ℕ)) (c k : ℕ) → IsRunOf runs c k
    → (c - length (edges_of_runs (take k runs))) * (get_or runs k (0, 0)).0 ≤ (get_or runs k (0, 0)).0 * (get_or runs k (0, 0)).1
before_in_run runs c k is =
    let own = place_in_run runs c k is in
    omega (arith, fewer (c - length (edges_of_runs (take k runs))) (get_or runs k (0, 0)).1 (get_or runs k (0, 0)).0 (omega arith))
