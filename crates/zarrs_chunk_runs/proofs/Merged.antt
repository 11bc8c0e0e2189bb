-- Runs that are made of elements, one after another.
use Rattle.std.proofs.Common.{◌≡◌, ◌≢◌, ℕ, zero, suc, ◌+◌, ◌<◌, ◌≤◌, List, [], ◌∷◌, ◌++◌, length, map, min, set, replicate, get_or, sym, ap, ◌∙◌}
use Rattle.std.proofs.Common.{append_assoc, append-nil, subst, ⊎_elim, arith}
use Rattle.std.specs.List.{sum}
use Rattle.std.specs.Int.NonZero.{non_zero_u64_get}
use Rattle.std.specs.declared.num.NonZeroU64.{NonZeroU64}
use Rattle.std.proofs.Math.ListN.{get_or-map}
use Rattle.std.proofs.Math.Seq.{get_or-append_seam, map-set_same}
use Rattle.std.proofs.lemmas.Bool.{cases_lt}
use Rattle.std.proofs.lemmas.List.{get_or-map as get_or-map-at, get_or_append_left, length-append, length-map, length-set, map-append, map-set}
use Rattle.std.proofs.lemmas.List.{replicate-append-replicate}
use Rattle.std.proofs.lemmas.List.Folds.{sum_by-replicate}
use Rattle.std.proofs.lemmas.List.Sums.{sum_by-append}
use Rattle.zarrs_chunk_base.specs.Greatest.{greatest}
use Rattle.zarrs_chunk_runs.specs.Runs.{AreMerged, edges_of_run, edges_of_runs, run_of}
use Rattle.zarrs_chunk_runs.proofs.Places.{at_least_count, chunks_fit, chunks_within}
use Rattle.zarrs_chunk_runs.proofs.RunSums.{count_of_edges, sum_of_edges}

-- so many more chunks are counted, where the sum of all edges is
pub room_for_run : (items : List (NonZeroU64 × NonZeroU64)) (run : NonZeroU64 × NonZeroU64) (rest all : List ℕ)
    → edges_of_runs (map run_of items) ++ (replicate (non_zero_u64_get run.1) (non_zero_u64_get run.0) ++ rest) ≡ all → sum all ≤ greatest
    → length (edges_of_runs (map run_of items)) + non_zero_u64_get run.1 ≤ greatest
room_for_run items run rest all is fits =
    let so_far = edges_of_runs (map run_of items) in
    let edge = non_zero_u64_get run.0 in
    let count = non_zero_u64_get run.1 in
    let own = replicate count edge in
    let sums : sum (so_far ++ (own ++ rest)) ≡ sum all = ap sum is in
    omega (
      arith,
      sums,
      sum_by-append (λ x. x) so_far (own ++ rest),
      sum_by-append (λ x. x) own rest,
      sum_by-replicate (λ x. x) count edge,
      at_least_count edge count run.0.ok,
      chunks_fit items,
      sum_of_edges (map run_of items),
      count_of_edges (map run_of items),
    )

-- so many more chunks of the last run's edge
pub longer_last : (runs : List (ℕ × ℕ)) (i edge count more : ℕ) → suc i ≡ length runs → get_or runs i (0, 0) ≡ (edge, count)
    → edges_of_runs (set runs i (edge, count + more)) ≡ edges_of_runs runs ++ replicate more edge
longer_last [] i edge count more last is = absurd (omega arith)
longer_last (run ∷ []) zero edge count more last is =
    let own : edges_of_run run ≡ replicate count edge = ap edges_of_run is in
    append-nil (replicate (count + more) edge) ∙ sym (replicate-append-replicate count more edge)
    ∙ ap (λ edges. edges ++ replicate more edge) (sym own ∙ sym (append-nil (edges_of_run run)))
longer_last (run ∷ next ∷ runs) zero edge count more last is = absurd (omega arith)
longer_last (run ∷ []) (suc i) edge count more last is = absurd (omega arith)
longer_last (run ∷ next ∷ runs) (suc i) edge count more last is =
    ap (λ rest. edges_of_run run ++ rest) (longer_last (next ∷ runs) i edge count more (omega arith) is)
    ∙ sym (append_assoc (edges_of_run run) (edges_of_runs (next ∷ runs)) (replicate more edge))

-- where edges stay, the runs stay merged
pub still_merged : (runs : List (ℕ × ℕ)) (i : ℕ) (run : ℕ × ℕ) → run.0 ≡ (get_or runs i (0, 0)).0 → AreMerged runs → AreMerged (set runs i run)
still_merged runs i run same merged =
    let edges : map (λ (r : ℕ × ℕ). r.0) (set runs i run) ≡ map (λ (r : ℕ × ℕ). r.0) runs =
    map-set_same (λ (r : ℕ × ℕ). r.0) runs i run (0, 0) same in
    let at : (k : ℕ) → (get_or (set runs i run) k (0, 0)).0 ≡ (get_or runs k (0, 0)).0 = λ k.
    sym (get_or-map (λ (r : ℕ × ℕ). r.0) (set runs i run) k (0, 0)) ∙ ap (λ edges. get_or edges k 0) edges
    ∙ get_or-map (λ (r : ℕ × ℕ). r.0) runs k (0, 0) in
    λ k within equal. merged k (omega (arith, length-set runs i run)) (sym (at k) ∙ equal ∙ at (k + 1))

-- one more run behind a last one of another edge
pub one_more_merged : (runs : List (ℕ × ℕ)) (run : ℕ × ℕ) → AreMerged runs
    → ((i : ℕ) → suc i ≡ length runs → (get_or runs i (0, 0)).0 ≢ run.0) → AreMerged (runs ++ run ∷ [])
one_more_merged runs run merged other = λ k within equal.
    let lengths = length-append runs (run ∷ []) in
    let left : k < length runs = omega arith in
    let here = get_or_append_left runs (run ∷ []) (0, 0) k left in
    ⊎_elim
    (λ (both : k + 1 < length runs). merged k both
    (ap (λ r. r.0) (sym here) ∙ equal ∙ ap (λ r. r.0) (get_or_append_left runs (run ∷ []) (0, 0) (k + 1) both)))
    (λ (last : length runs ≤ k + 1).
    let at : k + 1 ≡ length runs = omega arith in
    let there : get_or (runs ++ run ∷ []) (k + 1) (0, 0) ≡ run =
    ap (λ n. get_or (runs ++ run ∷ []) n (0, 0)) at ∙ get_or-append_seam runs run [] (0, 0) in
    other k (omega arith) (ap (λ r. r.0) (sym here) ∙ equal ∙ ap (λ r. r.0) there))
    (cases_lt (k + 1) (length runs))

module _ (items : List (NonZeroU64 × NonZeroU64)) (i : ℕ) (last : NonZeroU64 × NonZeroU64) (is_last : suc i ≡ length items)
    (at : last ≡ get_or items i last) where
  -- the last run as numbers
  pub last_run : get_or (map run_of items) i (0, 0) ≡ run_of last
  last_run = get_or-map-at run_of items i last (0, 0) (omega arith) ∙ ap run_of (sym at)

  -- the edges with a longer last run
  pub lengthened : (count longer : NonZeroU64) → length (edges_of_runs (map run_of items)) + non_zero_u64_get count ≤ greatest
      → non_zero_u64_get longer ≡ min (non_zero_u64_get last.1 + non_zero_u64_get count) greatest
      → edges_of_runs (map run_of (set items i (last.0, longer)))
      ≡ edges_of_runs (map run_of items) ++ replicate (non_zero_u64_get count) (non_zero_u64_get last.0)
  lengthened count longer room is =
      let runs = map run_of items in
      let lengths = length-map items run_of in
      let own : (get_or runs i (0, 0)).1 ≡ non_zero_u64_get last.1 = ap (λ r. r.1) last_run in
      let sum : non_zero_u64_get longer ≡ non_zero_u64_get last.1 + non_zero_u64_get count = omega (arith, chunks_within runs i (omega arith)) in
      ap edges_of_runs (map-set run_of items i (last.0, longer) ∙ ap (λ n. set runs i (non_zero_u64_get last.0, n)) sum)
      ∙ longer_last runs i (non_zero_u64_get last.0) (non_zero_u64_get last.1) (non_zero_u64_get count) (omega arith) last_run

  -- and they are merged still
  pub merged_with_longer : (longer : NonZeroU64) → AreMerged (map run_of items) → AreMerged (map run_of (set items i (last.0, longer)))
  merged_with_longer longer merged =
      subst AreMerged (sym (map-set run_of items i (last.0, longer)))
      (still_merged (map run_of items) i (run_of (last.0, longer)) (ap (λ r. r.0) (sym last_run)) merged)

-- one more run, which isn't of the last one's edge
pub pushed : (items after : List (NonZeroU64 × NonZeroU64)) (run : NonZeroU64 × NonZeroU64) → after ≡ items ++ run ∷ [] → AreMerged (map run_of items)
    → ((i : ℕ) → suc i ≡ length items → (get_or (map run_of items) i (0, 0)).0 ≢ non_zero_u64_get run.0) → AreMerged (map run_of after)
pushed items after run is merged other =
    let lengths = length-map items run_of in
    subst AreMerged (sym (ap (map run_of) is ∙ map-append run_of items (run ∷ [])))
    (one_more_merged (map run_of items) (run_of run) merged (λ i last. other i (omega arith)))
