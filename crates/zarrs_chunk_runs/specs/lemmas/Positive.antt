-- No edge is 0.
use Rattle.std.specs.Prelude.{ℕ, ◌-◌, ◌<◌, ◌≤◌, List, [], ◌∷◌, ◌++◌, length, map}
use Rattle.std.proofs.Common.{get_or, refl, replicate, arith, ⊎_elim}
use Rattle.std.proofs.lemmas.Bool.{cases_lt}
use Rattle.std.proofs.lemmas.List.{get_or-append_right, get_or-replicate, get_or_append_left, length-append, length-replicate}
use Rattle.std.specs.Int.NonZero.{non_zero_u64_get}
use Rattle.std.specs.declared.num.NonZeroU64.{NonZeroU64}
use Rattle.zarrs_chunk_runs.specs.Runs.{edges_of_run, edges_of_runs, run_of}
use Rattle.zarrs_chunk_runs.specs.declared.run_edges.RunEdges.{RunEdges}
use Rattle.zarrs_chunk_runs.specs.seen.RunEdges.{expanded}

-- no member is 0
abbrev ArePositive : List ℕ → Type 0
ArePositive numbers = (k : ℕ) → k < length numbers → 0 < get_or numbers k 0

joined : (first rest : List ℕ) → ArePositive first → ArePositive rest → ArePositive (first ++ rest)
joined first rest some others k within =
    ⊎_elim (λ (below : k < length first). omega (arith, get_or_append_left first rest 0 k below, some k below))
    (λ (past : length first ≤ k).
    let lengths = length-append first rest in
    omega (arith, get_or-append_right first rest (length first) k 0 refl past, lengths, others (k - length first) (omega (arith, lengths))))
    (cases_lt k (length first))

repeated : (count edge : ℕ) → 0 < edge → ArePositive (replicate count edge)
repeated count edge some k within =
    let below : k < count = omega (arith, length-replicate count edge) in
    omega (arith, get_or-replicate count k edge 0 below)

of_runs : (runs : List (NonZeroU64 × NonZeroU64)) → ArePositive (edges_of_runs (map run_of runs))
of_runs [] = λ k within. absurd (omega arith)
of_runs (run ∷ runs) =
    joined (edges_of_run (run_of run)) (edges_of_runs (map run_of runs))
    (repeated (non_zero_u64_get run.1) (non_zero_u64_get run.0) run.0.ok) (of_runs runs)

pub edges_are_positive : (edges : RunEdges) (c : ℕ) → c < length (expanded edges) → 0 < get_or (expanded edges) c 0
edges_are_positive edges = of_runs edges.runs.items
