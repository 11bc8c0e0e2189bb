-- How many numbers a grid has.
use Rattle.std.proofs.Common.{◌≡◌, ◌∙◌, ℕ, ◌+◌, ◌*◌, List, [], ◌∷◌, ◌++◌, ap, inl, inr, length, refl, sym, arith}
use Rattle.std.proofs.lemmas.List.{length-append}
use Rattle.std.proofs.lemmas.List.Sums.{sum_by-cons}
use Rattle.std.specs.List.{AllZip, flat_map, sum}
use Rattle.zarrs_chunk_base.specs.Dimension.{Dimension, InEach}
use Rattle.zarrs_chunk_base.specs.DimensionEdges.{DimensionEdges, equal, listed}
use Rattle.zarrs_chunk_runs.proofs.Forms.{only_one}
use Rattle.zarrs_chunk_prepared.specs.Prepared.{AreShortest, HasRunCount, IsTableOf, Table, row}

-- a dimension has one number of runs
same_count : (d : Dimension) (one other : ℕ) (e : DimensionEdges) → HasRunCount d one e → HasRunCount d other e → one ≡ other
same_count d one other (equal edge) (inl (is, has)) (inl (is', has')) = is ∙ sym is'
same_count d one other (equal edge) (inl (is, has)) (inr (is', none)) = absurd (none has)
same_count d one other (equal edge) (inr (is, none)) (inl (is', has)) = absurd (none has)
same_count d one other (equal edge) (inr (is, none)) (inr (is', none')) = is ∙ sym is'
same_count d one other (listed edges) (form, is, long) (form', is', long') =
    sym long ∙ ap length (only_one form form' is.form is'.form (is.same ∙ sym is'.same)) ∙ long'

-- four of a dimension, and three for each run
row_long : (d : Dimension) (t : Table) → IsTableOf d t → length (row t) ≡ 4 + 3 * length t.starts
row_long d t is =
    omega (arith, length-append t.starts (t.chunks ++ t.edges), length-append t.chunks t.edges, is.long.chunks, is.long.edges)

pub rows_long : (ds : List Dimension) (edges : List DimensionEdges) (tables : List Table) (runs : List ℕ) → AllZip IsTableOf ds tables
    → AreShortest ds edges tables → InEach HasRunCount ds runs edges → length (flat_map row tables) ≡ 4 * length ds + 3 * sum runs
rows_long [] [] [] [] are short counts = refl
rows_long (d ∷ ds) (e ∷ edges) (t ∷ tables) (n ∷ runs) are short counts =
    omega (
      arith,
      length-append (row t) (flat_map row tables),
      row_long d t are.0,
      same_count d n (length t.starts) e counts.0 short.0.runs,
      sum_by-cons (λ x. x) n runs,
      rows_long ds edges tables runs are.1 short.1 counts.1,
    )
rows_long [] [] [] (_ ∷ _) are short counts = absurd counts
rows_long (_ ∷ _) (_ ∷ _) (_ ∷ _) [] are short counts = absurd counts
rows_long _ _ _ _ are short counts = absurd short
