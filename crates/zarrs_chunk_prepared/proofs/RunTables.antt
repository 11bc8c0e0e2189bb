-- The numbers of listed edges are those of their dimension.
use Rattle.std.proofs.Common.{◌≡◌, ◌≢◌, ◌∙◌, ◌++◌, ℕ, zero, suc, ◌+◌, ◌-◌, ◌*◌, ◌/◌, ◌%◌, ◌<◌, ◌≤◌, List, [], ◌∷◌, ap, arith, below_more, get_or, length, map, refl, subst, sym, take, ⊎_elim}
use Rattle.std.proofs.Math.Seq.{take-length}
use Rattle.std.proofs.lemmas.Bool.{cases_lt}
use Rattle.std.proofs.lemmas.List.{get_or_append_left, get_or_default, length-append, take_all, take-map}
use Rattle.std.proofs.Math.Seq.{get_or-append_seam}
use Rattle.std.specs.declared.num.NonZeroU64.{NonZeroU64}
use Rattle.std.proofs.lemmas.Nat.{div-mul-add}
use Rattle.std.proofs.Math.Nat.{mod-add-div', mul-pos}
use Rattle.std.specs.List.{sum}
use Rattle.std.specs.List.Sorted.{IsNonDecreasing}
use Rattle.zarrs_chunk_axes.specs.Listed.{IsListed}
use Rattle.zarrs_chunk_axes.specs.seen.ListedEdges.{end_is}
use Rattle.zarrs_chunk_axes.proofs.ListedAxes.{sums_rise as edge_sums_rise}
use Rattle.zarrs_chunk_base.specs.Dimension.{Dimension, Holds, IsChain}
use Rattle.zarrs_chunk_base.specs.DimensionEdges.{listed}
use Rattle.zarrs_chunk_base.specs.Greatest.{greatest}
use Rattle.zarrs_chunk_runs.specs.Forms.{HasRuns}
use Rattle.zarrs_chunk_runs.specs.Runs.{IsChunkOf, IsRunOf, edges_of_runs, run_of}
use Rattle.zarrs_chunk_runs.specs.declared.run_edges.RunEdges.{RunEdges}
use Rattle.zarrs_chunk_runs.specs.seen.RunEdges.{expanded, runs_of}
use Rattle.zarrs_chunk_runs.specs.lemmas.Running.{IsFirstAbove, count_of_run, ends_of, size_of}
use Rattle.zarrs_chunk_runs.proofs.Forms.{has_kept_runs}
use Rattle.zarrs_chunk_runs.proofs.Places.{chunk_end_of_run, chunks_fit, edge_found, end_of_run, home_found, length_ends, start_found}
use Rattle.zarrs_chunk_runs.proofs.RunSums.{chunk_end_at, count_of_edges, end_at, sum_of_edges, sums_rise}
use Rattle.zarrs_chunk_prepared.specs.Prepared.{IsLastUpTo, IsOfRun, IsShortest, IsTableOf, LiesInRun, Table, row}
use Rattle.zarrs_chunk_prepared.specs.seen.RunTable.{IsRunTable}

-- more runs have no smaller sum, and no fewer chunks
run_sums_rise : (runs : List (ℕ × ℕ)) (i j : ℕ) → i ≤ j → sum (edges_of_runs (take i runs)) ≤ sum (edges_of_runs (take j runs))
run_sums_rise runs i j low =
    let here : sum (take i (map size_of runs)) ≡ sum (map size_of (take i runs)) = ap sum (take-map size_of i runs) in
    let there : sum (take j (map size_of runs)) ≡ sum (map size_of (take j runs)) = ap sum (take-map size_of j runs) in
    omega (arith, sum_of_edges (take i runs), sum_of_edges (take j runs), here, there, sums_rise (map size_of runs) i j low)

run_counts_rise : (runs : List (ℕ × ℕ)) (i j : ℕ) → i ≤ j → length (edges_of_runs (take i runs)) ≤ length (edges_of_runs (take j runs))
run_counts_rise runs i j low =
    let here : sum (take i (map count_of_run runs)) ≡ sum (map count_of_run (take i runs)) = ap sum (take-map count_of_run i runs) in
    let there : sum (take j (map count_of_run runs)) ≡ sum (map count_of_run (take j runs)) = ap sum (take-map count_of_run j runs) in
    omega (arith, count_of_edges (take i runs), count_of_edges (take j runs), here, there, sums_rise (map count_of_run runs) i j low)

-- no part of the edges has a greater sum than all of them
whole_at_most : (edges : List ℕ) (c : ℕ) → sum (take c edges) ≤ sum edges
whole_at_most edges c =
    ⊎_elim
    (λ (some : c < length edges). omega (arith, edge_sums_rise edges c (length edges) (omega arith), ap sum (take-length edges)))
    (λ (all : length edges ≤ c). omega (arith, ap sum (take_all c edges all)))
    (cases_lt c (length edges))

-- numbers at places do not fall where what they are doesn't
rises : (numbers : List ℕ) (f : ℕ → ℕ) → ((k : ℕ) → k < length numbers → get_or numbers k 0 ≡ f k) → ((i j : ℕ) → i ≤ j → f i ≤ f j)
    → IsNonDecreasing numbers
rises numbers f is up i j default low within =
    omega (
      arith,
      get_or_default numbers i default 0 (omega arith),
      get_or_default numbers j default 0 within,
      is i (omega arith),
      is j within,
      up i j low,
    )

-- without runs there is no edge
no_runs : (runs : List (ℕ × ℕ)) → length runs ≡ 0 → 0 < sum (edges_of_runs runs) → ⊥
no_runs [] none some = omega arith
no_runs (_ ∷ _) none some = omega arith

-- edges with a sum are some
not_none : (edges : List ℕ) → 0 < sum edges → 0 < length edges
not_none [] some = some
not_none (e ∷ edges) some = omega arith

-- what holds at the places of some numbers, and of one more behind them
at_one_more : (P : ℕ → ℕ → Type 0) (n x : ℕ) (numbers : List ℕ) → length numbers ≡ n → ((k : ℕ) → k < n → P k (get_or numbers k 0)) → P n x
    → (k : ℕ) → k < n + 1 → P k (get_or (numbers ++ x ∷ []) k 0)
at_one_more P n x numbers long so_far here =
    below_more (λ k. P k (get_or (numbers ++ x ∷ []) k 0)) n
    (λ k before. rw (get_or_append_left numbers (x ∷ []) 0 k (omega arith)) (so_far k before))
    (subst (P n) (sym (ap (λ m. get_or (numbers ++ x ∷ []) m 0) (sym long) ∙ get_or-append_seam numbers x [] 0)) here)

-- one run more
pub table_more : (runs : List (ℕ × ℕ)) (n start chunk edge count : ℕ) (starts chunks edges : List ℕ) → n < length runs
    → get_or runs n (0, 0) ≡ (edge, count) → IsRunTable runs n starts chunks edges → start ≡ sum (edges_of_runs (take n runs))
    → chunk ≡ length (edges_of_runs (take n runs))
    → IsRunTable runs (n + 1) (starts ++ start ∷ []) (chunks ++ chunk ∷ []) (edges ++ edge ∷ [])
table_more runs n start chunk edge count starts chunks edges within run are is_start is_chunk = record {
  starts_long = omega (arith, length-append starts (start ∷ []), are.starts_long);
  chunks_long = omega (arith, length-append chunks (chunk ∷ []), are.chunks_long);
  edges_long = omega (arith, length-append edges (edge ∷ []), are.edges_long);
  is_start = at_one_more (λ k x. x ≡ sum (edges_of_runs (take k runs))) n start starts are.starts_long are.is_start is_start;
  is_chunk = at_one_more (λ k x. x ≡ length (edges_of_runs (take k runs))) n chunk chunks are.chunks_long are.is_chunk is_chunk;
  is_edge = at_one_more (λ k x. x ≡ (get_or runs k (0, 0)).0) n edge edges are.edges_long are.is_edge (sym (ap (λ r. r.0) run));
}

-- the next one begins so many elements and chunks later, which is at most behind all
module _ (runs : List (ℕ × ℕ)) (n edge count : ℕ) (within : n < length runs) (run : get_or runs n (0, 0) ≡ (edge, count)) where
  pub next_start : sum (edges_of_runs (take n runs)) + edge * count ≡ sum (edges_of_runs (take (n + 1) runs))
  next_start =
      let more : suc n ≡ n + 1 = omega arith in
      let next : sum (edges_of_runs (take (suc n) runs)) ≡ sum (edges_of_runs (take (n + 1) runs)) =
      ap (λ k. sum (edges_of_runs (take k runs))) more in
      omega (arith, sym (end_at runs n 0 within), end_of_run runs n 0 (edge, count) within run, next)

  pub next_chunk : length (edges_of_runs (take n runs)) + count ≡ length (edges_of_runs (take (n + 1) runs))
  next_chunk =
      let more : suc n ≡ n + 1 = omega arith in
      let next : length (edges_of_runs (take (suc n) runs)) ≡ length (edges_of_runs (take (n + 1) runs)) =
      ap (λ k. length (edges_of_runs (take k runs))) more in
      omega (arith, sym (chunk_end_at runs n 0 within), chunk_end_of_run runs n 0 (edge, count) within run, next)

  pub start_fits : sum (edges_of_runs (take n runs)) + edge * count ≤ sum (edges_of_runs runs)
  start_fits =
      let all : sum (edges_of_runs (take (length runs) runs)) ≡ sum (edges_of_runs runs) = ap (λ rs. sum (edges_of_runs rs)) (take-length runs) in
      omega (arith, next_start, run_sums_rise runs (n + 1) (length runs) (omega arith), all)

  pub chunk_fits : length (edges_of_runs (take n runs)) + count ≤ length (edges_of_runs runs)
  chunk_fits =
      let all : length (edges_of_runs (take (length runs) runs)) ≡ length (edges_of_runs runs) =
      ap (λ rs. length (edges_of_runs rs)) (take-length runs) in
      omega (arith, next_chunk, run_counts_rise runs (n + 1) (length runs) (omega arith), all)

-- there are no more chunks than elements
pub chunks_at_most : (runs : List (NonZeroU64 × NonZeroU64)) → length (edges_of_runs (map run_of runs)) ≤ sum (edges_of_runs (map run_of runs))
chunks_at_most runs = omega (arith, count_of_edges (map run_of runs), sum_of_edges (map run_of runs), chunks_fit runs)

-- no edge of a run is 0
pub positive_edge : (runs : List (NonZeroU64 × NonZeroU64)) (k : ℕ) → k < length (map run_of runs) → 0 < (get_or (map run_of runs) k (0, 0)).0
positive_edge [] k within = absurd (omega arith)
positive_edge (run ∷ runs) zero within = run.0.ok
positive_edge (run ∷ runs) (suc k) within = positive_edge runs k (omega arith)

module _ (runs : List (ℕ × ℕ)) (starts chunks edges : List ℕ) (are : IsRunTable runs (length runs) starts chunks edges) where
  -- the run that begins last before an index is the first that ends past it
  above : (index k : ℕ) → index < sum (edges_of_runs runs) → IsLastUpTo starts index k → IsFirstAbove (ends_of runs) index k
  above index k within found =
      let counted : k < length runs = omega (arith, found.within, are.starts_long) in
      record {
        bound = omega (arith, length_ends runs);
        low = λ j before.
            omega (arith, end_at runs j 0 (omega arith), run_sums_rise runs (suc j) k (omega arith), are.is_start k counted, found.from);
        high = λ j from within'.
            let inside : j < length runs = omega (arith, length_ends runs) in
            ⊎_elim
            (λ (more : suc j < length runs).
            omega (arith, end_at runs j 0 inside, are.is_start (suc j) more, found.next (suc j) (omega arith) (omega (arith, are.starts_long))))
            (λ (last : length runs ≤ suc j).
            let all : suc j ≡ length runs = omega arith in
            let whole : sum (edges_of_runs (take (suc j) runs)) ≡ sum (edges_of_runs runs) =
            ap (λ n. sum (edges_of_runs (take n runs))) all ∙ ap (λ rs. sum (edges_of_runs rs)) (take-length runs) in
            omega (arith, end_at runs j 0 inside, whole))
            (cases_lt (suc j) (length runs));
      }

  -- and the run whose first chunk is the last one up to a chunk has it
  run_has : (chunk k : ℕ) → chunk < length (edges_of_runs runs) → IsLastUpTo chunks chunk k → IsRunOf runs chunk k
  run_has chunk k within found =
      let counted : k < length runs = omega (arith, found.within, are.chunks_long) in
      record {
        run = counted;
        from = omega (arith, are.is_chunk k counted, found.from);
        below =
            ⊎_elim
            (λ (more : k + 1 < length runs).
            omega (arith, are.is_chunk (k + 1) more, found.next (k + 1) (omega arith) (omega (arith, are.chunks_long))))
            (λ (last : length runs ≤ k + 1).
            let all : k + 1 ≡ length runs = omega arith in
            let whole : length (edges_of_runs (take (k + 1) runs)) ≡ length (edges_of_runs runs) =
            ap (λ n. length (edges_of_runs (take n runs))) all ∙ ap (λ rs. length (edges_of_runs rs)) (take-length runs) in
            omega (arith, whole))
            (cases_lt (k + 1) (length runs));
      }

  module _ (positive : (k : ℕ) → k < length runs → 0 < (get_or runs k (0, 0)).0) (some : 0 < sum (edges_of_runs runs))
      (fits : sum (edges_of_runs runs) ≤ greatest) (d : Dimension) (size grid_size : ℕ) (chain : IsChain d) (counts : grid_size ≡ d.grid_size)
      (is : IsListed d size (edges_of_runs runs)) where
    abbrev pub table : Table
    table = record {
      grid_size = grid_size;
      last_index = sum (edges_of_runs runs) - 1;
      last_chunk = length (edges_of_runs runs) - 1;
      starts = starts;
      chunks = chunks;
      edges = edges;
    }

    -- an index that lies in a chunk of the list lies in that chunk of the dimension
    holds : (index chunk : ℕ) → IsChunkOf (edges_of_runs runs) index chunk → Holds d chunk index
    holds index chunk of =
        let has = (is.chunks chunk).1 of.chunk in
        record { chunk = has; from = rw (is.start chunk has) of.from; below = rw (is.end chunk has) of.below }

    home : (index run quotient place : ℕ) → index ≤ sum (edges_of_runs runs) - 1 → IsLastUpTo starts index run → place < get_or edges run 0
        → get_or starts run 0 + (quotient * get_or edges run 0 + place) ≡ index → LiesInRun d table run index quotient place
    home index run quotient place up_to found less whole =
        let counted : run < length runs = omega (arith, found.within, are.starts_long) in
        let edge = (get_or runs run (0, 0)).0 in
        let start = sum (edges_of_runs (take run runs)) in
        let first = length (edges_of_runs (take run runs)) in
        let is_edge : get_or edges run 0 ≡ edge = are.is_edge run counted in
        let (of, behind) = home_found runs index run (above index run (omega arith) found) counted (positive run counted) in
        let rest : index - start ≡ quotient * edge + place =
        subst (λ e. index - start ≡ quotient * e + place) is_edge (omega (arith, are.is_start run counted)) in
        let divided : (index - start) / edge ≡ quotient = ap (λ n. n / edge) rest ∙ div-mul-add quotient edge place (omega arith) in
        let chunk : first + (index - start) / edge ≡ get_or chunks run 0 + quotient = omega (arith, divided, are.is_chunk run counted) in
        let holds_it = subst (λ c. Holds d c index) chunk (holds index (first + (index - start) / edge) of) in
        let starts_at = subst (λ c. sum (take c (edges_of_runs runs)) + (index - start) % edge ≡ index) chunk behind in
        let times : (index - start) / edge * edge ≡ quotient * edge = ap (λ n. n * edge) divided in
        let remains : (index - start) % edge ≡ place = omega (arith, mod-add-div' (index - start) edge, times, rest) in
        (holds_it, omega (arith, is.start (get_or chunks run 0 + quotient) holds_it.chunk, starts_at, remains))

    of_run : (chunk run : ℕ) → chunk ≤ length (edges_of_runs runs) - 1 → IsLastUpTo chunks chunk run → IsOfRun d table run chunk
    of_run chunk run up_to found =
        let counted : run < length runs = omega (arith, found.within, are.chunks_long) in
        let some_edges : 0 < length (edges_of_runs runs) = not_none (edges_of_runs runs) some in
        let lies = run_has chunk run (omega arith) found in
        let (inside, has_edge) = edge_found runs chunk run lies in
        let has = (is.chunks chunk).1 inside in
        let ended = end_is (edges_of_runs runs) chunk inside in
        let at_most = whole_at_most (edges_of_runs runs) (chunk + 1) in
        let is_edge : get_or edges run 0 ≡ (get_or runs run (0, 0)).0 = are.is_edge run counted in
        record {
          has = has;
          start =
              rw (is_edge, are.is_start run counted, are.is_chunk run counted) (is.start chunk has ∙ start_found runs chunk run lies);
          end = omega (arith, is.end chunk has, is.start chunk has, ended, has_edge, is_edge, at_most);
        }

    -- there are some runs
    none_starts : length starts ≡ 0 → ⊥
    none_starts none = no_runs runs (omega (arith, are.starts_long)) some

    pub is_table : IsTableOf d table
    is_table = record {
      chain = chain;
      is_grid_size = counts;
      long = record { chunks = omega (arith, are.chunks_long, are.starts_long); edges = omega (arith, are.edges_long, are.starts_long) };
      first_start = λ within. are.is_start 0 (omega (arith, are.starts_long));
      first_chunk = λ within. are.is_chunk 0 (omega (arith, are.starts_long));
      starts_rise = rises starts (λ k. sum (edges_of_runs (take k runs)))
          (λ k within. are.is_start k (omega (arith, are.starts_long))) (run_sums_rise runs);
      chunks_rise = rises chunks (λ k. length (edges_of_runs (take k runs)))
          (λ k within. are.is_chunk k (omega (arith, are.chunks_long))) (run_counts_rise runs);
      some = λ run within. omega (arith, are.is_edge run (omega (arith, are.starts_long)), positive run (omega (arith, are.starts_long)));
      homes = home;
      no_home = λ index fit past chunk held.
          let inside = (is.chunks chunk).0 held.chunk in
          let at_most = whole_at_most (edges_of_runs runs) (chunk + 1) in
          let below = held.below in
          ⊎_elim (λ (behind : sum (edges_of_runs runs) - 1 < index). omega (arith, is.end chunk held.chunk, at_most, some))
          (λ (none : length starts ≡ 0). none_starts none) past;
      ranges = of_run;
      no_range = λ chunk fit past range has.
          let inside = (is.chunks chunk).0 has.start.chunk in
          ⊎_elim (λ (behind : length (edges_of_runs runs) - 1 < chunk). omega arith) (λ (none : length starts ≡ 0). none_starts none) past;
    }

-- a run has some elements
run_has_some : (runs : List (NonZeroU64 × NonZeroU64)) (k : ℕ) → k < length (map run_of runs)
    → 0 < (get_or (map run_of runs) k (0, 0)).0 * (get_or (map run_of runs) k (0, 0)).1
run_has_some [] k within = absurd (omega arith)
run_has_some (run ∷ runs) zero within = mul-pos run.0.ok run.1.ok
run_has_some (run ∷ runs) (suc k) within = run_has_some runs k (omega arith)

-- no run more than there must be
is_shortest : (kept : RunEdges) (starts chunks edges : List ℕ) → IsRunTable (runs_of kept) (length (runs_of kept)) starts chunks edges
    → (d : Dimension) (t : Table) → t.starts ≡ starts → t.edges ≡ edges → IsShortest d (listed (expanded kept)) t
is_shortest kept starts chunks edges are d t is_starts is_edges = record {
  runs = subst (HasRuns (expanded kept)) (sym (ap length is_starts ∙ are.starts_long)) (has_kept_runs kept);
  later = λ run within.
      let more : run + 1 < length (runs_of kept) = omega (arith, ap length is_starts, are.starts_long) in
      let size = run_has_some kept.runs.items run (omega arith) in
      rw is_starts (omega (arith, are.is_start run (omega arith), are.is_start (run + 1) more, next_start (runs_of kept) run _ _ (omega arith) refl));
  differ = λ run within same.
      let more : run + 1 < length (runs_of kept) = omega (arith, ap length is_starts, are.starts_long) in
      kept.merged run more (sym (are.is_edge run (omega arith)) ∙ rw is_edges at same ∙ are.is_edge (run + 1) more);
}

-- some edges have some
some_length : (edges : List ℕ) → edges ≢ [] → 0 < length edges
some_length [] some = absurd (some refl)
some_length (_ ∷ _) some = omega arith

-- the numbers that were appended are those of the dimension
pub appended_runs : (kept : RunEdges) (starts chunks edges before after : List ℕ) (d : Dimension) (size count : ℕ) → IsChain d
    → count ≡ d.grid_size → IsListed d size (expanded kept) → expanded kept ≢ [] → sum (expanded kept) ≤ greatest
    → IsRunTable (runs_of kept) (length (runs_of kept)) starts chunks edges
    → after ≡ before ++ (count ∷ (sum (expanded kept) - 1) ∷ (length (expanded kept) - 1) ∷ length (runs_of kept) ∷ (starts ++ (chunks ++ edges)))
    → (t : Table) × IsTableOf d t × IsShortest d (listed (expanded kept)) t × (after ≡ before ++ row t)
appended_runs kept starts chunks edges before after d size count chain counts is some fits are appended =
    let long = some_length (expanded kept) some in
    let more = chunks_at_most kept.runs.items in (
      table (runs_of kept) starts chunks edges are (positive_edge kept.runs.items) (omega arith) fits d size count chain counts is,
      is_table (runs_of kept) starts chunks edges are (positive_edge kept.runs.items) (omega arith) fits d size count chain counts is,
      is_shortest kept starts chunks edges are d _ refl refl,
      appended
          ∙ ap (λ n. before ++ (count ∷ (sum (expanded kept) - 1) ∷ (length (expanded kept) - 1) ∷ n ∷ (starts ++ (chunks ++ edges)))) (sym are.starts_long),
    )
