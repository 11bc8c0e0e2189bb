-- What running sums tell of the edges that runs stand for.
use Rattle.std.proofs.Common.{◌≡◌, ℕ, zero, suc, ◌+◌, ◌<◌, ◌≤◌, List, [], ◌∷◌, ◌++◌, length, map, take, get_or, refl, sym, ap, ◌∙◌, append_assoc}
use Rattle.std.proofs.Common.{arith}
use Rattle.std.specs.List.{sum}
use Rattle.std.specs.List.Sorted.{IsNonDecreasingBy}
use Rattle.std.proofs.lemmas.List.{take-map, length-append, length-map, length-replicate}
use Rattle.std.proofs.lemmas.List.Sums.{sum_by-append, sum_by-cons}
use Rattle.std.proofs.lemmas.List.Folds.{sum_by-replicate}
use Rattle.zarrs_chunk_runs.specs.Runs.{edges_of_run, edges_of_runs}
use Rattle.zarrs_chunk_runs.specs.lemmas.Running.{running, size_of, count_of_run, ends_of, chunk_ends_of}

-- the sum of the edges is that of the runs' sizes
pub sum_of_edges : (runs : List (ℕ × ℕ)) → sum (edges_of_runs runs) ≡ sum (map size_of runs)
sum_of_edges [] = refl
sum_of_edges (run ∷ runs) =
    let both = sum_by-append (λ x. x) (edges_of_run run) (edges_of_runs runs) in
    omega (arith, both, sum_by-replicate (λ x. x) run.1 run.0, sum_of_edges runs, sum_by-cons (λ x. x) (size_of run) (map size_of runs))

-- how many edges there are is the sum of the runs' counts
pub count_of_edges : (runs : List (ℕ × ℕ)) → length (edges_of_runs runs) ≡ sum (map count_of_run runs)
count_of_edges [] = refl
count_of_edges (run ∷ runs) =
    let both = length-append (edges_of_run run) (edges_of_runs runs) in
    omega (arith, both, length-replicate run.1 run.0, count_of_edges runs, sum_by-cons (λ x. x) (count_of_run run) (map count_of_run runs))

pub length_running : (from : ℕ) (numbers : List ℕ) → length (running from numbers) ≡ length numbers
length_running from [] = refl
length_running from (n ∷ numbers) = omega (arith, length_running (from + n) numbers)

-- a running sum is that of the members so far
pub running_at : (from : ℕ) (numbers : List ℕ) (k d : ℕ) → k < length numbers → get_or (running from numbers) k d ≡ from + sum (take (suc k) numbers)
running_at from [] k d within = absurd (omega arith)
running_at from (n ∷ numbers) zero d within = omega (arith, sum_by-cons (λ x. x) n [])
running_at from (n ∷ numbers) (suc k) d within =
    omega (arith, running_at (from + n) numbers k d (omega arith), sum_by-cons (λ x. x) n (take (suc k) numbers))

-- sums of more members aren't less
pub sums_rise : (numbers : List ℕ) (b c : ℕ) → b ≤ c → sum (take b numbers) ≤ sum (take c numbers)
sums_rise numbers zero c h = omega arith
sums_rise numbers (suc b) zero h = absurd (omega arith)
sums_rise [] (suc b) (suc c) h = omega arith
sums_rise (n ∷ numbers) (suc b) (suc c) h =
    omega (arith, sum_by-cons (λ x. x) n (take b numbers), sum_by-cons (λ x. x) n (take c numbers), sums_rise numbers b c (omega arith))

pub running_rises : (numbers : List ℕ) → IsNonDecreasingBy (λ x. x) (running 0 numbers)
running_rises numbers i j d below within =
    let lengths = length_running 0 numbers in
    omega (arith, running_at 0 numbers i d (omega arith), running_at 0 numbers j d (omega arith), sums_rise numbers (suc i) (suc j) (omega arith))

module _ (runs : List (ℕ × ℕ)) (k d : ℕ) (within : k < length runs) where
  -- a run ends where the sum of its edges and of those before is
  pub end_at : get_or (ends_of runs) k d ≡ sum (edges_of_runs (take (suc k) runs))
  end_at =
      let counted : k < length (map size_of runs) = omega (arith, length-map runs size_of) in
      let taken : sum (take (suc k) (map size_of runs)) ≡ sum (map size_of (take (suc k) runs)) = ap sum (take-map size_of (suc k) runs) in
      omega (arith, running_at 0 (map size_of runs) k d counted, taken, sum_of_edges (take (suc k) runs))

  -- and there are so many chunks up to its end
  pub chunk_end_at : get_or (chunk_ends_of runs) k d ≡ length (edges_of_runs (take (suc k) runs))
  chunk_end_at =
      let counted : k < length (map count_of_run runs) = omega (arith, length-map runs count_of_run) in
      let taken : sum (take (suc k) (map count_of_run runs)) ≡ sum (map count_of_run (take (suc k) runs)) =
      ap sum (take-map count_of_run (suc k) runs) in
      omega (arith, running_at 0 (map count_of_run runs) k d counted, taken, count_of_edges (take (suc k) runs))

-- the edges up to a run's end are those before it and its own
pub one_run_more : (runs : List (ℕ × ℕ)) (k : ℕ) (d : ℕ × ℕ) → k < length runs
    → edges_of_runs (take (suc k) runs) ≡ edges_of_runs (take k runs) ++ edges_of_run (get_or runs k d)
one_run_more [] k d within = absurd (omega arith)
one_run_more (run ∷ runs) zero d within = append_nil_both (edges_of_run run) where
  append_nil_both : (edges : List ℕ) → edges ++ [] ≡ [] ++ edges
  append_nil_both [] = refl
  append_nil_both (e ∷ edges) = ap (λ rest. e ∷ rest) (append_nil_both edges)
one_run_more (run ∷ runs) (suc k) d within =
    ap (λ rest. edges_of_run run ++ rest) (one_run_more runs k d (omega arith))
    ∙ sym (append_assoc (edges_of_run run) (edges_of_runs (take k runs)) (edges_of_run (get_or runs k d)))
