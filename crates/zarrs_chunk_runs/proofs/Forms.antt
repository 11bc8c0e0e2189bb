-- The run-length form of a list of edges: there is one, and it is the shortest.
use Rattle.std.proofs.Common.{◌≡◌, ◌≢◌, ℕ, zero, suc, ◌+◌, ◌<◌, ◌≤◌, List, [], ◌∷◌, ◌++◌, length, replicate, get_or, drop, cond, map, nat_eq, refl}
use Rattle.std.proofs.Common.{sym, ap, ◌∙◌, subst, ⊎_elim, arith}
use Rattle.std.proofs.lemmas.List.{length-map}
use Rattle.std.proofs.lemmas.Bool.{cases_eq, eq-eqb, ne_eqb}
use Rattle.zarrs_chunk_base.specs.RunLength.{AreApart, Element, IsNoPairOfOne, IsRunLengthForm, edge_in, edges_of_element, joined, repeated, single}
use Rattle.std.specs.Int.NonZero.{non_zero_u64_get}
use Rattle.std.specs.declared.num.NonZeroU64.{NonZeroU64}
use Rattle.zarrs_chunk_runs.specs.Forms.{HasRuns, IsFormOf}
use Rattle.zarrs_chunk_runs.specs.Runs.{AreMerged, edges_of_runs, run_of}
use Rattle.zarrs_chunk_runs.specs.declared.run_edges.RunEdges.{RunEdges}
use Rattle.zarrs_chunk_runs.specs.seen.RunEdges.{expanded, runs_of}

-- ---- elements one by one

-- how many chunks an element counts
abbrev count_in : Element → ℕ
count_in (single edge) = 1
count_in (repeated edge count) = count

edges_are : (x : Element) → edges_of_element x ≡ replicate (count_in x) (edge_in x)
edges_are (single edge) = refl
edges_are (repeated edge count) = refl

-- in run-length form it counts some
counts_some : (x : Element) → IsNoPairOfOne x → 0 < count_in x
counts_some (single edge) no_pair = omega arith
counts_some (repeated edge count) no_pair = omega arith

-- two of one edge and one count are the same
same_element : (x y : Element) → IsNoPairOfOne x → IsNoPairOfOne y → edge_in x ≡ edge_in y → count_in x ≡ count_in y → x ≡ y
same_element (single e) (single f) here there edges counts = ap single edges
same_element (single e) (repeated f n) here there edges counts = absurd (omega arith)
same_element (repeated e m) (single f) here there edges counts = absurd (omega arith)
same_element (repeated e m) (repeated f n) here there edges counts = ap (λ edge. repeated edge m) edges ∙ ap (repeated f) counts

-- the elements behind the first one
later : (x : Element) (elements : List Element) → IsRunLengthForm (x ∷ elements) → IsRunLengthForm elements
later x [] form = record { no_pair_of_one = tt; apart = tt }
later x (y ∷ elements) form = record { no_pair_of_one = form.no_pair_of_one.1; apart = form.apart.1 }

-- ---- how many runs of equal edges there are

-- how many begin after an edge
abbrev runs_after : ℕ → List ℕ → ℕ
runs_after last [] = 0
runs_after last (edge ∷ edges) = cond (nat_eq last edge) 0 1 + runs_after edge edges

abbrev runs_in : List ℕ → ℕ
runs_in [] = 0
runs_in (edge ∷ edges) = suc (runs_after edge edges)

-- the same edge again begins none
after_copies : (edge count : ℕ) (edges : List ℕ) → runs_after edge (replicate count edge ++ edges) ≡ runs_after edge edges
after_copies edge zero edges = refl
after_copies edge (suc count) edges = rw (eq-eqb edge edge refl) (omega (arith, after_copies edge count edges))

-- another one begins one
after_other : (last edge : ℕ) (edges : List ℕ) → last ≢ edge → runs_after last (edge ∷ edges) ≡ runs_in (edge ∷ edges)
after_other last edge edges other = rw (ne_eqb last edge other) (omega arith)

-- no more begin after an edge than there are
after_at_most : (last : ℕ) (edges : List ℕ) → runs_after last edges ≤ runs_in edges
after_at_most last [] = omega arith
after_at_most last (edge ∷ edges) =
    ⊎_elim (λ same. rw (eq-eqb last edge same) (omega arith)) (λ other. rw (ne_eqb last edge other) (omega arith)) (cases_eq last edge)

-- copies of an edge in front are at most one run more
copies_at_most : (edge count : ℕ) (edges : List ℕ) → runs_in (replicate count edge ++ edges) ≤ suc (runs_in edges)
copies_at_most edge zero edges = omega arith
copies_at_most edge (suc count) edges = omega (arith, after_copies edge count edges, after_at_most edge edges)

-- elements are at least as many as the runs of their edges
pub at_least_runs : (elements : List Element) → runs_in (joined elements) ≤ length elements
at_least_runs [] = omega arith
at_least_runs (x ∷ elements) =
    let own : runs_in (joined (x ∷ elements)) ≡ runs_in (replicate (count_in x) (edge_in x) ++ joined elements) =
    ap (λ edges. runs_in (edges ++ joined elements)) (edges_are x) in
    omega (arith, own, copies_at_most (edge_in x) (count_in x) (joined elements), at_least_runs elements)

-- some copies of an edge, and behind them none or another edge, are one run more
copies_are_one : (edge count : ℕ) (edges : List ℕ) → 0 < count → runs_after edge edges ≡ runs_in edges
    → runs_in (replicate count edge ++ edges) ≡ suc (runs_in edges)
copies_are_one edge zero edges some other = absurd (omega arith)
copies_are_one edge (suc count) edges some other = omega (arith, after_copies edge count edges)

-- the edges of an element begin with its own
first_of : (x : Element) (edges : List ℕ) (d : ℕ) → 0 < count_in x → (rest : List ℕ) × (edges_of_element x ++ edges ≡ edge_in x ∷ rest)
first_of (single edge) edges d some = (edges, refl)
first_of (repeated edge zero) edges d some = absurd (omega arith)
first_of (repeated edge (suc count)) edges d some = (replicate count edge ++ edges, refl)

-- behind an element stands none or one of another edge
behind : (x : Element) (elements : List Element) → IsRunLengthForm (x ∷ elements)
    → runs_after (edge_in x) (joined elements) ≡ runs_in (joined elements)
behind x [] form = refl
behind x (y ∷ elements) form =
    let (rest, is) = first_of y (joined elements) 0 (counts_some y form.no_pair_of_one.1.0) in
    rw is (after_other (edge_in x) (edge_in y) rest form.apart.0)

-- elements in run-length form are as many as the runs
pub as_many_as_runs : (elements : List Element) → IsRunLengthForm elements → length elements ≡ runs_in (joined elements)
as_many_as_runs [] form = refl
as_many_as_runs (x ∷ elements) form =
    let own : runs_in (joined (x ∷ elements)) ≡ runs_in (replicate (count_in x) (edge_in x) ++ joined elements) =
    ap (λ edges. runs_in (edges ++ joined elements)) (edges_are x) in
    omega (
      arith,
      own,
      copies_are_one (edge_in x) (count_in x) (joined elements) (counts_some x form.no_pair_of_one.0) (behind x elements form),
      as_many_as_runs elements (later x elements form),
    )

-- no elements of the same edges are fewer
pub shortest : (form others : List Element) → IsRunLengthForm form → joined others ≡ joined form → length form ≤ length others
shortest form others is same =
    let runs : runs_in (joined others) ≡ runs_in (joined form) = ap runs_in same in
    omega (arith, as_many_as_runs form is, runs, at_least_runs others)

-- ---- there is one

-- edges begin otherwise than with an edge
abbrev BeginsOtherwise : ℕ → List ℕ → Type 0
BeginsOtherwise edge edges = (rest : List ℕ) → edges ≢ edge ∷ rest

-- copies of an edge, and what begins otherwise behind them, are told apart
split : (m n edge : ℕ) (some others : List ℕ) → BeginsOtherwise edge some → BeginsOtherwise edge others
    → replicate m edge ++ some ≡ replicate n edge ++ others → (m ≡ n) × (some ≡ others)
split zero zero edge some others one other same = (refl, same)
split zero (suc n) edge some others one other same = absurd (one (replicate n edge ++ others) same)
split (suc m) zero edge some others one other same = absurd (other (replicate m edge ++ some) (sym same))
split (suc m) (suc n) edge some others one other same =
    let (counts, rests) = split m n edge some others one other (ap (drop 1) same) in
    (ap suc counts, rests)

-- so it is behind an element
begins_otherwise : (x : Element) (elements : List Element) → IsRunLengthForm (x ∷ elements) → BeginsOtherwise (edge_in x) (joined elements)
begins_otherwise x [] form rest same = absurd (let lengths : 0 ≡ suc (length rest) = ap length same in omega arith)
begins_otherwise x (y ∷ elements) form rest same =
    let (others, is) = first_of y (joined elements) 0 (counts_some y form.no_pair_of_one.1.0) in
    form.apart.0 (sym (ap (λ edges. get_or edges 0 0) (sym is ∙ same)))

-- elements that count some stand for some edges
not_empty : (x : Element) (elements : List Element) → IsRunLengthForm (x ∷ elements) → joined (x ∷ elements) ≢ []
not_empty x elements form none =
    let (rest, is) = first_of x (joined elements) 0 (counts_some x form.no_pair_of_one.0) in
    absurd (let lengths : suc (length rest) ≡ 0 = ap length (sym is ∙ none) in omega arith)

pub only_one : (one other : List Element) → IsRunLengthForm one → IsRunLengthForm other → joined one ≡ joined other → one ≡ other
only_one [] [] form form' same = refl
only_one [] (y ∷ others) form form' same = absurd (not_empty y others form' (sym same))
only_one (x ∷ elements) [] form form' same = absurd (not_empty x elements form same)
only_one (x ∷ elements) (y ∷ others) form form' same =
    let (rest, is) = first_of x (joined elements) 0 (counts_some x form.no_pair_of_one.0) in
    let (rest', is') = first_of y (joined others) 0 (counts_some y form'.no_pair_of_one.0) in
    let edges : edge_in x ≡ edge_in y = ap (λ edges. get_or edges 0 0) (sym is ∙ same ∙ is') in
    let copies : replicate (count_in x) (edge_in x) ++ joined elements ≡ replicate (count_in y) (edge_in x) ++ joined others =
    ap (λ own. own ++ joined elements) (sym (edges_are x)) ∙ same ∙ ap (λ own. own ++ joined others) (edges_are y)
    ∙ ap (λ edge. replicate (count_in y) edge ++ joined others) (sym edges) in
    let (counts, rests) = split (count_in x) (count_in y) (edge_in x) (joined elements) (joined others) (begins_otherwise x elements form)
    (subst (λ edge. BeginsOtherwise edge (joined others)) (sym edges) (begins_otherwise y others form')) copies in
    ap (λ e. e ∷ elements) (same_element x y form.no_pair_of_one.0 form'.no_pair_of_one.0 edges counts)
    ∙ ap (λ es. y ∷ es) (only_one elements others (later x elements form) (later y others form') rests)

-- what stands apart from an element stands apart from another of its edge
still_apart : (x y : Element) (elements : List Element) → edge_in x ≡ edge_in y → AreApart (x ∷ elements) → AreApart (y ∷ elements)
still_apart x y [] same apart = tt
still_apart x y (z ∷ elements) same apart = (λ equal. apart.0 (same ∙ equal), apart.1)

-- one edge more in front
with_edge : (edge : ℕ) (elements : List Element) → IsRunLengthForm elements → (more : List Element) × IsFormOf (edge ∷ joined elements) more
with_edge edge [] form = (single edge ∷ [], record { form = record { no_pair_of_one = (tt, tt); apart = tt }; same = refl })
with_edge edge (x ∷ elements) form =
    ⊎_elim
    (λ (same : edge ≡ edge_in x). (
      repeated (edge_in x) (suc (count_in x)) ∷ elements,
      record {
        form = record {
          no_pair_of_one = (let some = counts_some x form.no_pair_of_one.0 in omega arith, form.no_pair_of_one.1);
          apart = still_apart x (repeated (edge_in x) (suc (count_in x))) elements refl form.apart;
        };
        same =
            ap (λ own. edge_in x ∷ (own ++ joined elements)) (sym (edges_are x))
            ∙ ap (λ first. first ∷ joined (x ∷ elements)) (sym same);
      },
    ))
    (λ (other : edge ≢ edge_in x). (
      single edge ∷ x ∷ elements,
      record { form = record { no_pair_of_one = (tt, form.no_pair_of_one); apart = (other, form.apart) }; same = refl },
    ))
    (cases_eq edge (edge_in x))

pub there_is_one : (edges : List ℕ) → (elements : List Element) × IsFormOf edges elements
there_is_one [] = ([], record { form = record { no_pair_of_one = tt; apart = tt }; same = refl })
there_is_one (edge ∷ edges) =
    let (elements, is) = there_is_one edges in
    let (more, so) = with_edge edge elements is.form in
    (more, record { form = so.form; same = so.same ∙ ap (λ rest. edge ∷ rest) is.same })

-- ---- and it is as long as the runs that are kept

-- the runs behind the first one
pub later_merged : (run : ℕ × ℕ) (runs : List (ℕ × ℕ)) → AreMerged (run ∷ runs) → AreMerged runs
later_merged run runs merged k within same =
    let next : suc (k + 1) ≡ suc k + 1 = omega arith in
    merged (suc k) (omega arith) (same ∙ ap (λ n. (get_or (run ∷ runs) n (0, 0)).0) next)

behind_run : (run : ℕ × ℕ) (items : List (NonZeroU64 × NonZeroU64)) → AreMerged (run ∷ map run_of items)
    → runs_after run.0 (edges_of_runs (map run_of items)) ≡ runs_in (edges_of_runs (map run_of items))
behind_run run [] merged = refl
behind_run run (next ∷ items) merged =
    let (rest, is) = first_of (repeated (non_zero_u64_get next.0) (non_zero_u64_get next.1)) (edges_of_runs (map run_of items)) 0 next.1.ok in
    rw is (after_other run.0 (non_zero_u64_get next.0) rest (merged 0 (omega arith)))

pub as_many_as_kept : (items : List (NonZeroU64 × NonZeroU64)) → AreMerged (map run_of items)
    → length (map run_of items) ≡ runs_in (edges_of_runs (map run_of items))
as_many_as_kept [] merged = refl
as_many_as_kept (run ∷ items) merged =
    omega (
      arith,
      copies_are_one (non_zero_u64_get run.0) (non_zero_u64_get run.1) (edges_of_runs (map run_of items)) run.1.ok
          (behind_run (run_of run) items merged),
      as_many_as_kept items (later_merged (run_of run) (map run_of items) merged),
    )

pub kept_runs : (edges : RunEdges) (form : List Element) → IsFormOf (expanded edges) form → length form ≡ length (runs_of edges)
kept_runs edges form is =
    let same : runs_in (joined form) ≡ runs_in (expanded edges) = ap runs_in is.same in
    omega (arith, as_many_as_runs form is.form, same, as_many_as_kept edges.runs.items edges.merged)

-- there is a run
pub has_some : (edges : RunEdges) → 0 < length (runs_of edges)
has_some edges = let some = edges.some in omega (arith, length-map edges.runs.items run_of)

-- the run-length form of kept edges has as many elements as there are runs
pub has_kept_runs : (edges : RunEdges) → HasRuns (expanded edges) (length (runs_of edges))
has_kept_runs edges = let (form, is) = there_is_one (expanded edges) in (form, is, kept_runs edges form is)

-- and no other number of them
pub no_other_runs : (edges : RunEdges) (count : ℕ) → HasRuns (expanded edges) count → count ≡ length (runs_of edges)
no_other_runs edges count (form, is, counts) = sym counts ∙ kept_runs edges form is
