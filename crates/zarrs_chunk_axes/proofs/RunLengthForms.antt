-- The run-length form of runs, one element after another.
use Rattle.std.proofs.Common.{◌≡◌, ℕ, suc, ◌+◌, ◌<◌, ◌≤◌, List, [], ◌∷◌, ◌++◌, length, map, take, drop, get_or, append_assoc, append-nil, sym, ap}
use Rattle.std.proofs.Common.{◌∙◌, arith}
use Rattle.std.proofs.lemmas.List.{length-append, map-append, take_all, take_more}
use Rattle.std.proofs.lemmas.Grind.{flat_map-append}
use Rattle.std.specs.List.{AllByRecursion}
use Rattle.zarrs_chunk_base.specs.RunLength.{AreApart, Element, IsNoPairOfOne, IsRunLengthForm, edge_in, edges_of_element, joined}
use Rattle.zarrs_chunk_runs.specs.Runs.{AreMerged, edges_of_run, edges_of_runs}
use Rattle.zarrs_chunk_runs.proofs.Forms.{later_merged}

-- the edge of a run
abbrev pub edge_of_run : ℕ × ℕ → ℕ
edge_of_run run = run.0

-- one more element at the end
joined_one_more : (elements : List Element) (x : Element) → joined (elements ++ x ∷ []) ≡ joined elements ++ edges_of_element x
joined_one_more [] x = append-nil (edges_of_element x)
joined_one_more (e ∷ elements) x =
    ap (λ rest. edges_of_element e ++ rest) (joined_one_more elements x)
    ∙ sym (append_assoc (edges_of_element e) (joined elements) (edges_of_element x))

no_pair_one_more : (elements : List Element) (x : Element) → AllByRecursion IsNoPairOfOne elements → IsNoPairOfOne x
    → AllByRecursion IsNoPairOfOne (elements ++ x ∷ [])
no_pair_one_more [] x all here = (here, tt)
no_pair_one_more (e ∷ elements) x all here = (all.0, no_pair_one_more elements x all.1 here)

-- one element for each of the first runs, which has its edges
pub record SoFar (runs : List (ℕ × ℕ)) (elements : List Element) : Type 0 where
  pub are_all : joined elements ≡ edges_of_runs (take (length elements) runs)
  pub own : map edge_in elements ≡ map edge_of_run (take (length elements) runs)
  pub no_pair_of_one : AllByRecursion IsNoPairOfOne elements

-- and one for the next run
pub next_run : (runs : List (ℕ × ℕ)) (elements : List Element) (x : Element) (run : ℕ × ℕ) → SoFar runs elements → length elements < length runs
    → get_or runs (length elements) (0, 0) ≡ run → edges_of_element x ≡ edges_of_run run → edge_in x ≡ run.0 → IsNoPairOfOne x
    → SoFar runs (elements ++ x ∷ [])
next_run runs elements x run so_far within is edges edge no_pair =
    let longer : length (elements ++ x ∷ []) ≡ length elements + 1 = length-append elements (x ∷ []) in
    let taken : take (length (elements ++ x ∷ [])) runs ≡ take (length elements) runs ++ run ∷ [] =
    ap (λ n. take n runs) longer ∙ take_more runs (length elements) (0, 0) within ∙ ap (λ r. take (length elements) runs ++ r ∷ []) is in
    record {
      are_all =
          joined_one_more elements x ∙ ap (λ first. first ++ edges_of_element x) so_far.are_all
          ∙ ap (λ last. edges_of_runs (take (length elements) runs) ++ last) (edges ∙ sym (append-nil (edges_of_run run)))
          ∙ sym (flat_map-append edges_of_run (take (length elements) runs) (run ∷ [])) ∙ ap edges_of_runs (sym taken);
      own =
          map-append edge_in elements (x ∷ []) ∙ ap (λ first. first ++ edge_in x ∷ []) so_far.own
          ∙ ap (λ e. map edge_of_run (take (length elements) runs) ++ e ∷ []) edge
          ∙ sym (map-append edge_of_run (take (length elements) runs) (run ∷ [])) ∙ ap (map edge_of_run) (sym taken);
      no_pair_of_one = no_pair_one_more elements x so_far.no_pair_of_one no_pair;
    }

-- elements with the edges of runs stand apart where those do
apart : (elements : List Element) (runs : List (ℕ × ℕ)) → map edge_in elements ≡ map edge_of_run runs → AreMerged runs → AreApart elements
apart [] runs own merged = tt
apart (e ∷ []) runs own merged = tt
apart (e ∷ f ∷ elements) [] own merged = absurd (let lengths : suc (suc (length (map edge_in elements))) ≡ 0 = ap length own in omega arith)
apart (e ∷ f ∷ elements) (r ∷ []) own merged = absurd (let lengths : suc (suc (length (map edge_in elements))) ≡ 1 = ap length own in omega arith)
apart (e ∷ f ∷ elements) (r ∷ s ∷ runs) own merged =
    let first : edge_in e ≡ r.0 = ap (λ edges. get_or edges 0 0) own in
    let second : edge_in f ≡ s.0 = ap (λ edges. get_or edges 1 0) own in
    (λ same. merged 0 (omega arith) (sym first ∙ same ∙ second), apart (f ∷ elements) (s ∷ runs) (ap (drop 1) own) (later_merged r (s ∷ runs) merged))

module _ (runs : List (ℕ × ℕ)) (elements : List Element) (so_far : SoFar runs elements) (last : length runs ≤ length elements) where
  -- after the last run the elements have all edges
  pub all_runs : joined elements ≡ edges_of_runs runs
  all_runs = so_far.are_all ∙ ap edges_of_runs (take_all (length elements) runs last)

  -- and are in run-length form
  pub in_form : AreMerged runs → IsRunLengthForm elements
  in_form merged = record {
    no_pair_of_one = so_far.no_pair_of_one;
    apart = apart elements runs (so_far.own ∙ ap (map edge_of_run) (take_all (length elements) runs last)) merged;
  }
