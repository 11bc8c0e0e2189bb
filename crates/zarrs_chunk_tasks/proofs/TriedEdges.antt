-- The edges that are tried for the chunks of an intermediate array.
use Rattle.std.proofs.Common.{◌≡◌, ◌∙◌, ℕ, zero, suc, ◌+◌, ◌-◌, ◌*◌, ◌<◌, ◌≤◌, ◌⊎◌, List, [], ◌∷◌, ◌++◌, Contains, Vec, Global, length, map, min, refl, ap, ap₂, subst, sym, get_or, take, take_all, arith, inl, inr, ⊎_elim, mul_comm}
use Rattle.std.proofs.Math.Nat.{div-lt_iff_lt-mul, lt-div-mul-add, mul-le-mul_right}
use Rattle.std.proofs.lemmas.Bool.{cases_lt}
use Rattle.std.proofs.lemmas.Grind.{div_ceil_times, get_or_default_zero}
use Rattle.std.proofs.lemmas.List.{length-map, map-append, take_more}
use Rattle.std.specs.Int.{div_ceil}
use Rattle.std.specs.Int.NonZero.{non_zero_u64_get}
use Rattle.std.proofs.lemmas.List.Sorted.{Contains-permutation, IsPermutation-map, IsPermutation-sym, length_permutation}
use Rattle.std.specs.List.Sorted.{IsPermutation}
use Rattle.std.specs.List.{AllByRecursion, AllZip}
use Rattle.std.specs.declared.num.NonZeroU64.{NonZeroU64}
use Rattle.zarrs_chunk_base.specs.ArraySubset.{Box, IsBox, IsEmptyBox, lasts}
use Rattle.zarrs_chunk_base.specs.Dimension.{Dimension, Holds, InBox, IsChain}
use Rattle.zarrs_chunk_base.proofs.InEach.{length_numbers, length_values}
use Rattle.zarrs_chunk_axes.specs.Along.{Along}
use Rattle.zarrs_chunks.specs.Subsets.{IsCover}
use Rattle.zarrs_chunks.proofs.Covers.{head_some, tail_some}
use Rattle.zarrs_chunk_parts.specs.Plan.{Covers}
use Rattle.zarrs_chunk_plan.specs.Counts.{product}
use Rattle.zarrs_chunk_plan.specs.Region.{moved}
use Rattle.zarrs_chunk_plan.proofs.Plans.{covers_some}
use Rattle.zarrs_chunk_plan.proofs.SameBoxes.{same_box_of}
use Rattle.zarrs_chunk_tasks.specs.Edges.{AreFewPieces, AreLongest, AreTriedEdges, IsTriedEdge, IsTriedShape, longest_of_each, most_pieces, most_shapes, pieces_by, rounded_up, sums}
use Rattle.zarrs_chunk_tasks.specs.declared.edges.Units.{Units}
use Rattle.zarrs_chunk_tasks.specs.seen.LargestChunk.{IsLongestOf}
use Rattle.zarrs_chunk_tasks.specs.seen.Choices.{rows_of}
use Rattle.zarrs_chunk_tasks.specs.seen.TriedEdges.{AreUnits, HasAllBy, HasPut, IsFew, IsRow, IsSome, edges_in, rows_of_edges, units_of}
use Rattle.zarrs_chunk_tasks.proofs.GroupCounts.{first_within}
use Rattle.zarrs_chunk_tasks.proofs.Grouped.{next_group}
use Rattle.zarrs_chunk_tasks.proofs.LeastCost.{times}
use Rattle.zarrs_chunk_tasks.proofs.SumsAlong.{greatest_more}
use Rattle.zarrs_chunk_tasks.specs.seen.Thinning.{IsThinned}
use Rattle.zarrs_chunk_tasks.proofs.ThinnedRows.{HaveSome}
use Rattle.zarrs_chunk_tasks.proofs.TriedSizes.{zip_more}

-- ---- divisions, rounded up

pub up_to : (n k : ℕ) → 0 < k → n ≤ rounded_up n k * k
up_to n k some = let below = lt-div-mul-add {a = n + (k - 1)} some in omega (arith, below)

pub least : (n m k : ℕ) → 0 < k → n ≤ m * k → rounded_up n k ≤ m
least n m k some le =
    let next = next_group m k in
    let below = (div-lt_iff_lt-mul {k = k} {x = n + (k - 1)} {y = m + 1} some).1 (omega (arith, next, le)) in
    omega (arith, below)

pub ceil_is : (n k : ℕ) → 0 < k → div_ceil n k ≡ rounded_up n k
ceil_is n k some = between n k (div_ceil n k) some (div_ceil_times n k some) where
  between : (n k c : ℕ) → 0 < k → (n ≤ c * k) × (c * k < n + k) → c ≡ rounded_up n k
  between n k c some (low, high) =
      let r = rounded_up n k in
      let up = up_to n k some in
      let next = next_group r k in
      ⊎_elim (λ (more : r < c). let far = mul-le-mul_right {m = r + 1} {n = c} k (omega arith) in absurd (omega (arith, high, up, next, far)))
      (λ (le : c ≤ r). omega (arith, le, least n c k some low)) (cases_lt r c)

-- a number that is reached by a product has some factors
some_factor : (n r k : ℕ) → 0 < n → n ≤ r * k → 0 < r
some_factor n zero k some le = absurd (omega arith)
some_factor n (suc r) k some le = omega arith

some_up : (n k : ℕ) → 0 < n → 0 < k → 0 < rounded_up n k
some_up n k any some = some_factor n (rounded_up n k) k any (up_to n k some)

some_pieces_of : (units multiple pieces : ℕ) → 0 < units → units ≤ (multiple - 1) * pieces → 0 < pieces
some_pieces_of units multiple pieces some reach =
    let turned = mul_comm (multiple - 1) pieces in some_factor units pieces (multiple - 1) some (omega (arith, reach, turned))

-- more pieces are no longer
no_longer : (n p q : ℕ) → 0 < p → p ≤ q → rounded_up n q ≤ rounded_up n p
no_longer n p q some le =
    let r = rounded_up n p in
    least n r q (omega (arith, some, le)) (omega (arith, up_to n p some, times r r p q (omega arith) le))

-- by one there is no change
by_one : (n : ℕ) → rounded_up n 1 ≡ n
by_one n = omega (arith, up_to n 1 (omega arith), least n n 1 (omega arith) (omega arith))

-- up to the next number of pieces they are as long
as_long : (n m pieces p : ℕ) → m ≡ rounded_up n pieces → 1 < m → 0 < pieces → pieces ≤ p → p < rounded_up n (m - 1) → rounded_up n p ≡ rounded_up n pieces
as_long n m pieces p is more some from below =
    let r = rounded_up n p in
    let up = no_longer n pieces p some from in
    ⊎_elim
    (λ (less : r < m).
    let reach = up_to n p (omega (arith, some, from)) in
    let fit = times r (m - 1) p p (omega arith) (omega arith) in
    let turned = mul_comm (m - 1) p in
    let low = least n p (m - 1) (omega arith) (omega (arith, reach, fit, turned)) in
    absurd (omega (arith, low, below)))
    (λ (le : m ≤ r). omega (arith, is, up, le)) (cases_lt r m)

-- ---- the edges of one unit

pub units_are : (size unit units : ℕ) → 0 < size → 0 < unit → units ≡ div_ceil size unit → (units ≡ rounded_up size unit) × (0 < units)
units_are size unit units some_size some_unit is =
    let same = is ∙ ceil_is size unit some_unit in (same, omega (arith, same, some_up size unit some_size some_unit))

-- the edge has so many of the units as make at most so many pieces, and is cut to the size
abbrev IsByUnits : (size unit units edge : ℕ) → Type 0
IsByUnits size unit units edge = (pieces : ℕ) × (0 < pieces) × (edge ≡ min size (unit * rounded_up units pieces))

-- The edges of up to so many pieces are there, where so many make pieces of `multiple` units.
pub record IsSoFar (size unit units : ℕ) (before : List ℕ) (pieces multiple : ℕ) (edges : List ℕ) : Type 0 where
  pub kept : (x : ℕ) → Contains before x → Contains edges x
  pub some_pieces : 0 < pieces
  pub multiple_is : multiple ≡ rounded_up units pieces
  pub some : 0 < multiple
  pub any : 0 < length edges
  pub only : (x : ℕ) → Contains edges x → Contains before x ⊎ IsByUnits size unit units x
  pub few : length edges + multiple ≤ length before + units + 1
  pub all : units ≤ most_pieces → (p : ℕ) → 0 < p → p ≤ pieces → Contains edges (min size (unit * rounded_up units p))

some_there : (xs : List ℕ) (x : ℕ) → Contains xs x → 0 < length xs
some_there xs x (k, within, is) = omega arith

pub first_piece : (size unit units : ℕ) (before after : List ℕ) (edge : ℕ) → 0 < units → edge ≡ min size (unit * units) → HasPut before edge after
    → IsSoFar size unit units before 1 units after
first_piece size unit units before after edge some edge_is has =
    let one = by_one units in
    record {
      kept = has.kept;
      some_pieces = omega arith;
      multiple_is = sym one;
      some = some;
      any = some_there after edge has.put;
      only = λ x there.
          ⊎_elim (λ was. inl was) (λ new. inr (1, omega arith, new ∙ edge_is ∙ ap (λ n. min size (unit * n)) (sym one))) (has.only x there);
      few = omega (arith, has.few);
      all = λ _ p some_p up.
          let is : p ≡ 1 = omega arith in
          subst (Contains after) (edge_is ∙ ap (λ n. min size (unit * n)) (sym one ∙ ap (rounded_up units) (sym is))) has.put;
    }

pub next_piece : (size unit units : ℕ) (before edges after : List ℕ) (pieces multiple next shorter edge : ℕ) → 0 < units → 1 < multiple
    → IsSoFar size unit units before pieces multiple edges → units ≤ (multiple - 1) * next → (units ≤ most_pieces → next ≡ rounded_up units (multiple - 1))
    → shorter ≡ div_ceil units next → edge ≡ min size (unit * shorter) → HasPut edges edge after
    → IsSoFar size unit units before next shorter after × (shorter < multiple)
next_piece size unit units before edges after pieces multiple next shorter edge some more so_far reach exact is edge_is has =
    let some_next = some_pieces_of units multiple next some reach in
    let shorter_is = is ∙ ceil_is units next some_next in
    let less = least units (multiple - 1) next some_next reach in (
      record {
        kept = λ x there. has.kept x (so_far.kept x there);
        some_pieces = some_next;
        multiple_is = shorter_is;
        some = subst (λ n. 0 < n) (sym shorter_is) (some_up units next some some_next);
        any = some_there after edge has.put;
        only = λ x there.
            ⊎_elim (λ was. so_far.only x was) (λ new. inr (next, some_next, new ∙ edge_is ∙ ap (λ n. min size (unit * n)) shorter_is)) (has.only x there);
        few = omega (arith, has.few, so_far.few, less, shorter_is, more);
        all = λ few p some_p up.
            ⊎_elim (λ (before_it : p < next).
            ⊎_elim (λ (later : pieces < p).
            let same = as_long units multiple pieces p so_far.multiple_is more so_far.some_pieces (omega arith) (subst (λ n. p < n) (exact few) before_it) in
            subst (λ n. Contains after (min size (unit * n))) (sym same) (has.kept _ (so_far.all few pieces so_far.some_pieces (omega arith))))
            (λ (le : p ≤ pieces). has.kept _ (so_far.all few p some_p le)) (cases_lt pieces p))
            (λ (le : next ≤ p).
            let is : p ≡ next = omega arith in
            subst (Contains after) (edge_is ∙ ap (λ n. min size (unit * n)) (shorter_is ∙ ap (rounded_up units) (sym is))) has.put) (cases_lt p next);
      },
      omega (arith, less, shorter_is, more),
    )

-- pieces of one unit are the last ones
pub all_pieces : (size unit units : ℕ) (before edges : List ℕ) (pieces multiple : ℕ) → units ≡ rounded_up size unit → 0 < units → multiple ≤ 1
    → IsSoFar size unit units before pieces multiple edges → HasAllBy size unit before edges
all_pieces size unit units before edges pieces multiple units_are some ended so_far = record {
  kept = so_far.kept;
  some = so_far.any;
  only = λ edge there. ⊎_elim (λ was. inl was) (λ by. inr (by_units edge by)) (so_far.only edge there);
  few = omega (arith, so_far.few, so_far.some, units_are);
  all = λ few edge tried. found (omega (arith, few, units_are)) edge tried;
} where
  by_units : (edge : ℕ) → IsByUnits size unit units edge → IsTriedEdge size unit edge
  by_units edge (p, some_p, is) = record { pieces = p; some = some_p; edge_is = is ∙ ap (λ n. min size (unit * rounded_up n p)) units_are }

  found : units ≤ most_pieces → (edge : ℕ) → IsTriedEdge size unit edge → Contains edges edge
  found few edge tried =
      let p = tried.pieces in
      let is = tried.edge_is ∙ ap (λ n. min size (unit * rounded_up n p)) (sym units_are) in
      subst (Contains edges) (sym is)
      (⊎_elim (λ (later : pieces < p).
      let up = no_longer units pieces p so_far.some_pieces (omega arith) in
      let any = some_up units p some tried.some in
      let same : rounded_up units p ≡ rounded_up units pieces = omega (arith, up, any, ended, so_far.multiple_is) in
      subst (λ n. Contains edges (min size (unit * n))) (sym same) (so_far.all few pieces so_far.some_pieces (omega arith)))
      (λ (le : p ≤ pieces). so_far.all few p tried.some le) (cases_lt pieces p))

-- ---- the edges of both units

pub row_is : (units : Units) (first after : List ℕ) → HasAllBy units.size units.read [] first → HasAllBy units.size units.written first after → IsRow units after
row_is units first after read written = record {
  some = written.some;
  only = λ edge there.
      ⊎_elim (λ was. ⊎_elim (λ none. absurd (no_edge edge none)) (λ by_read. inl by_read) (read.only edge was)) (λ by_written. inr by_written)
      (written.only edge there);
  few = omega (arith, read.few, written.few);
  all = λ few edge tried. ⊎_elim (λ by_read. written.kept edge (read.all few.0 edge by_read)) (λ by_written. written.all few.1 edge by_written) tried;
} where
  no_edge : (edge : ℕ) → ¬ Contains [] edge
  no_edge edge (k, within, is) = omega arith

-- in another order
pub row_in_order : (units : Units) (row sorted : List NonZeroU64) → IsPermutation row sorted → IsRow units (edges_in row) → IsRow units (edges_in sorted)
row_in_order units row sorted same is =
    let numbers = IsPermutation-map non_zero_u64_get row sorted same in
    let long = length_permutation (edges_in row) (edges_in sorted) numbers in
    record {
      some = omega (arith, is.some, long);
      only = λ edge there. is.only edge (Contains-permutation (edges_in sorted) (edges_in row) edge (IsPermutation-sym (edges_in row) (edges_in sorted) numbers) there);
      few = omega (arith, is.few, long);
      all = λ few edge tried. Contains-permutation (edges_in row) (edges_in sorted) edge numbers (is.all few edge tried);
    }

-- ---- rows

-- edges and their numbers are equally many
pub as_many_numbers : (rows : List (Vec NonZeroU64 Global)) → map length (rows_of_edges rows) ≡ map length (rows_of rows)
as_many_numbers [] = refl
as_many_numbers (row ∷ rows) = ap₂ (λ n ns. n ∷ ns) (length-map row.items non_zero_u64_get) (as_many_numbers rows)

pub rows_more : (units : List Units) (k : ℕ) (along : Units) (rows after : List (Vec NonZeroU64 Global)) (row : Vec NonZeroU64 Global) → k < length units
    → AllZip IsRow (take k units) (rows_of_edges rows) → IsRow (get_or units k along) (edges_in row.items) → after ≡ rows ++ row ∷ []
    → AllZip IsRow (take (k + 1) units) (rows_of_edges after)
rows_more units k along rows after row within so_far here put =
    rw (take_more units k along within, ap rows_of_edges put, map-append (λ (r : Vec NonZeroU64 Global). edges_in r.items) rows (row ∷ []))
    (zip_more IsRow (take k units) (rows_of_edges rows) (get_or units k along) (edges_in row.items) so_far here)

-- ---- properties of each

all_put : {X : Type 0} (P : X → Type 0) (xs : List X) (x : X) → AllByRecursion P xs → P x → AllByRecursion P (xs ++ x ∷ [])
all_put P [] x all here = (here, tt)
all_put P (y ∷ xs) x all here = (all.0, all_put P xs x all.1 here)

pub all_more : {X : Type 0} (P : X → Type 0) (xs : List X) (k : ℕ) (d : X) → k < length xs → AllByRecursion P (take k xs) → P (get_or xs k d)
    → AllByRecursion P (take (k + 1) xs)
all_more P xs k d within so_far here = rw (take_more xs k d within) (all_put P (take k xs) (get_or xs k d) so_far here)

-- ---- fewer edges

-- an edge, as a number, is one of a row
pub edge_of_number : (row : List NonZeroU64) (edge : ℕ) → Contains (edges_in row) edge → (e : NonZeroU64) × Contains row e × (non_zero_u64_get e ≡ edge)
edge_of_number [] edge (k, within, is) = absurd (omega arith)
edge_of_number (e ∷ row) edge (zero, within, is) = (e, (0, omega arith, refl), is)
edge_of_number (e ∷ row) edge (suc k, within, is) =
    let (f, (j, below, at), same) = edge_of_number row edge (k, omega arith, is) in
    (f, (suc j, omega arith, at), same)

-- and the other way round
pub number_of_edge : (row : List NonZeroU64) (edge : NonZeroU64) → Contains row edge → Contains (edges_in row) (non_zero_u64_get edge)
number_of_edge [] edge (k, within, is) = absurd (omega arith)
number_of_edge (e ∷ row) edge (zero, within, is) = (0, omega arith, ap non_zero_u64_get is)
number_of_edge (e ∷ row) edge (suc k, within, is) =
    let (j, below, at) = number_of_edge row edge (k, omega arith, is) in (suc j, omega arith, at)

pub edges_there : (rows : List (Vec NonZeroU64 Global)) → HaveSome (rows_of_edges rows) → HaveSome (rows_of rows)
edges_there [] some = tt
edges_there (row ∷ rows) some = (omega (arith, some.0, length-map row.items non_zero_u64_get), edges_there rows some.1)

pub numbers_there : (rows : List (Vec NonZeroU64 Global)) → HaveSome (rows_of rows) → HaveSome (rows_of_edges rows)
numbers_there [] some = tt
numbers_there (row ∷ rows) some = (omega (arith, some.0, length-map row.items non_zero_u64_get), numbers_there rows some.1)

-- a shape of thinned rows is one of the rows
pub shape_of_thinned : (rows fewer : List (Vec NonZeroU64 Global)) (shape : List ℕ) → AllZip IsThinned (rows_of rows) (rows_of fewer)
    → AllZip Contains (rows_of_edges fewer) shape → AllZip Contains (rows_of_edges rows) shape
shape_of_thinned [] [] [] are has = tt
shape_of_thinned (row ∷ rows) (part ∷ fewer) (edge ∷ shape) are has =
    let (e, there, same) = edge_of_number part.items edge has.0 in
    (subst (Contains (edges_in row.items)) same (number_of_edge row.items e (are.0.among e there)), shape_of_thinned rows fewer shape are.1 has.1)
shape_of_thinned [] (_ ∷ _) shape are has = absurd are
shape_of_thinned (_ ∷ _) [] shape are has = absurd are
shape_of_thinned [] [] (_ ∷ _) are has = absurd has
shape_of_thinned (_ ∷ _) (_ ∷ _) [] are has = absurd has

pub as_many_rows : (rows fewer : List (Vec NonZeroU64 Global)) → AllZip IsThinned (rows_of rows) (rows_of fewer) → length fewer ≡ length rows
as_many_rows [] [] are = refl
as_many_rows (row ∷ rows) (part ∷ fewer) are = ap suc (as_many_rows rows fewer are.1)
as_many_rows [] (_ ∷ _) are = absurd are
as_many_rows (_ ∷ _) [] are = absurd are

-- ---- the longest chunks

pub longest_long : (ds : List Dimension) (first many : List ℕ) → length first ≡ length ds → length many ≡ length ds
    → length (longest_of_each ds first many) ≡ length ds
longest_long [] [] [] e f = refl
longest_long (d ∷ ds) (c ∷ first) (n ∷ many) e f = ap suc (longest_long ds first many (omega arith) (omega arith))
longest_long _ _ _ e f = absurd (omega arith)

longest_at : (ds : List Dimension) (first many : List ℕ) (k edge : ℕ) → length first ≡ length ds → length many ≡ length ds
    → Along (IsLongestOf (get_or first k 0) (get_or many k 0) edge) ds k → edge ≡ get_or (longest_of_each ds first many) k 0
longest_at (d ∷ ds) (c ∷ first) (n ∷ many) zero edge e f is = is
longest_at (d ∷ ds) (c ∷ first) (n ∷ many) (suc k) edge e f is = longest_at ds first many k edge (omega arith) (omega arith) is
longest_at _ _ _ k edge e f is = absurd (first_of (assumption, omega arith))

some_longest : (ds : List Dimension) (first many start shape : List ℕ) → (¬ Contains many 0) → InBox ds (lasts first many) (lasts start shape)
    → AllByRecursion (λ edge. 0 < edge) (longest_of_each ds first many)
some_longest (d ∷ ds) (c ∷ first) (n ∷ many) (a ∷ start) (m ∷ shape) some last =
    let any = head_some n many some in
    let low = last.0.from in
    let high = last.0.below in
    let one : n - 1 + 1 ≡ n = omega (arith, any) in
    let more = rw one at (greatest_more (λ e. d.end e - d.start e) c (n - 1)) in
    (omega (arith, more, low, high), some_longest ds first many start shape (tail_some n many some) last.1)
some_longest (d ∷ ds) (c ∷ first) (n ∷ many) [] shape some last = absurd last
some_longest (d ∷ ds) (c ∷ first) (n ∷ many) (_ ∷ _) [] some last = absurd last
some_longest [] first many start shape some last = tt
some_longest (d ∷ ds) [] many start shape some last = tt
some_longest (d ∷ ds) (c ∷ first) [] start shape some last = tt

module _ (ds : List Dimension) (b cover : Box) (chains : AllByRecursion IsChain ds) (is_box : IsBox b) (some : ¬ IsEmptyBox b) (is : IsCover ds b cover) where
  first_long : length cover.start ≡ length ds
  first_long = length_numbers Holds ds cover.start b.start is.first

  many_long : length cover.shape ≡ length ds
  many_long = sym is.is_box.lengths ∙ first_long

  start_long : length b.start ≡ length ds
  start_long = length_values Holds ds cover.start b.start is.first

  each_long : length (longest_of_each ds cover.start cover.shape) ≡ length ds
  each_long = longest_long ds cover.start cover.shape first_long many_long

  pub one_more : (k edge : ℕ) (edges after : List ℕ) → k < length cover.start → edges ≡ take k (longest_of_each ds cover.start cover.shape)
      → Along (IsLongestOf (get_or cover.start k 0) (get_or cover.shape k 0) edge) ds k → after ≡ edges ++ edge ∷ []
      → after ≡ take (k + 1) (longest_of_each ds cover.start cover.shape)
  one_more k edge edges after within so_far here put =
      put ∙ ap₂ (λ (xs : List ℕ) (x : ℕ). xs ++ x ∷ []) so_far (longest_at ds cover.start cover.shape k edge first_long many_long here)
      ∙ sym (take_more (longest_of_each ds cover.start cover.shape) k 0 (omega (arith, within, first_long, each_long)))

  all_found : (k : ℕ) (edges : List ℕ) → length cover.start ≤ k → edges ≡ take k (longest_of_each ds cover.start cover.shape)
      → edges ≡ longest_of_each ds cover.start cover.shape
  all_found k edges ended so_far = so_far ∙ take_all k (longest_of_each ds cover.start cover.shape) (omega (arith, ended, first_long, each_long))

  pub are_longest : (k : ℕ) (edges : List ℕ) → length cover.start ≤ k → edges ≡ take k (longest_of_each ds cover.start cover.shape) → AreLongest ds b edges
  are_longest k edges ended so_far = record {
    cover = cover;
    is_cover = covers_some ds b cover chains is_box some is;
    are_longest = all_found k edges ended so_far;
  }

  pub as_many_longest : (k : ℕ) (edges : List ℕ) → length cover.start ≤ k → edges ≡ take k (longest_of_each ds cover.start cover.shape)
      → length edges ≡ length b.shape
  as_many_longest k edges ended so_far = ap length (all_found k edges ended so_far) ∙ each_long ∙ sym start_long ∙ is_box.lengths

  pub each_longest : (k : ℕ) (edges : List ℕ) → length cover.start ≤ k → edges ≡ take k (longest_of_each ds cover.start cover.shape)
      → AllByRecursion (λ edge. 0 < edge) edges
  each_longest k edges ended so_far =
      rw (all_found k edges ended so_far) (some_longest ds cover.start cover.shape b.start b.shape is.some is.last)

-- there is one cover
pub one_cover : (ds : List Dimension) (b one other : Box) → IsBox b → (¬ IsEmptyBox b) → Covers ds b one → Covers ds b other → one ≡ other
one_cover ds b one other is_box some first second =
    let begins = first_within b.start b.shape is_box.lengths some in
    let (chunk, home) = first.homes b.start begins in
    same_box_of one other chunk ((first.named chunk).1 (b.start, home, begins))
    (λ x. (λ there. (second.named x).1 ((first.named x).0 there), λ there. (first.named x).1 ((second.named x).0 there)))

-- there is one list of longest edges
pub same_longest : (ds : List Dimension) (b : Box) (one other : List ℕ) → IsBox b → (¬ IsEmptyBox b) → AreLongest ds b one → AreLongest ds b other → one ≡ other
same_longest ds b one other is_box some first second =
    let same = one_cover ds b first.cover second.cover is_box some first.is_cover second.is_cover in
    first.are_longest ∙ ap (λ (cover : Box). longest_of_each ds cover.start cover.shape) same ∙ sym second.are_longest

-- ---- units

pub units_long : (sizes read written : List ℕ) → length read ≡ length sizes → length written ≡ length sizes → length (units_of sizes read written) ≡ length sizes
units_long [] [] [] e f = refl
units_long (n ∷ sizes) (r ∷ read) (w ∷ written) e f = ap suc (units_long sizes read written (omega arith) (omega arith))
units_long _ _ _ e f = absurd (omega arith)

abbrev pub one_units : (size read written : ℕ) → Units
one_units size read written = record { size = size; read = read; written = written }

units_at : (sizes read written : List ℕ) (k : ℕ) (d : Units) → length read ≡ length sizes → length written ≡ length sizes → k < length sizes
    → get_or (units_of sizes read written) k d
    ≡ one_units (get_or sizes k 0) (min (get_or read k 0) (get_or sizes k 0)) (min (get_or written k 0) (get_or sizes k 0))
units_at (n ∷ sizes) (r ∷ read) (w ∷ written) zero d e f within = refl
units_at (n ∷ sizes) (r ∷ read) (w ∷ written) (suc k) d e f within = units_at sizes read written k d (omega arith) (omega arith) (omega arith)
units_at _ _ _ k d e f within = absurd (omega arith)

pub units_more : (sizes read written : List ℕ) (k x y r w : ℕ) (units after : List Units) → length read ≡ length sizes → length written ≡ length sizes
    → k < length sizes → units ≡ take k (units_of sizes read written) → x ≡ get_or read k x → y ≡ get_or written k y → r ≡ min x (get_or sizes k 0)
    → w ≡ min y (get_or sizes k 0) → after ≡ units ++ one_units (get_or sizes k 0) r w ∷ [] → after ≡ take (k + 1) (units_of sizes read written)
units_more sizes read written k x y r w units after e f within so_far x_is y_is r_is w_is put =
    let all = units_of sizes read written in
    let size = get_or sizes k 0 in
    let by_read = r_is ∙ ap (λ n. min n size) (x_is ∙ get_or_default_zero read k x (omega (arith, e, within))) in
    let by_written = w_is ∙ ap (λ n. min n size) (y_is ∙ get_or_default_zero written k y (omega (arith, f, within))) in
    let same = ap₂ (λ (m n : ℕ). one_units size m n) by_read by_written in
    put ∙ ap₂ (λ (xs : List Units) (u : Units). xs ++ u ∷ []) so_far (same ∙ sym (units_at sizes read written k (one_units size r w) e f within))
    ∙ sym (take_more all k (one_units size r w) (omega (arith, units_long sizes read written e f, within)))

some_units : (sizes read written : List ℕ) → (¬ Contains sizes 0) → AllByRecursion (λ edge. 0 < edge) read → AllByRecursion (λ edge. 0 < edge) written
    → AllByRecursion IsSome (units_of sizes read written)
some_units (n ∷ sizes) (r ∷ read) (w ∷ written) some reads writes =
    let any = head_some n sizes some in
    let by_read = reads.0 in
    let by_written = writes.0 in (
      record { size = any; read = omega (arith, any, by_read); written = omega (arith, any, by_written) },
      some_units sizes read written (tail_some n sizes some) reads.1 writes.1,
    )
some_units [] read written some reads writes = tt
some_units (n ∷ sizes) [] written some reads writes = tt
some_units (n ∷ sizes) (r ∷ read) [] some reads writes = tt

abbrev box_of : (start shape : List ℕ) → Box
box_of start shape = record { start = start; shape = shape }

-- the units of a copy
pub are_units : (source target : List Dimension) (region to : Box) (read written : List ℕ) (k : ℕ) (units : List Units) → to.shape ≡ region.shape → IsBox region
    → IsBox to → (¬ IsEmptyBox region) → AreLongest source region read → AreLongest target to written → length read ≡ length region.shape
    → length written ≡ length to.shape → AllByRecursion (λ edge. 0 < edge) read → AllByRecursion (λ edge. 0 < edge) written → length region.shape ≤ k
    → units ≡ take k (units_of region.shape read written) → AreUnits source target region to.start units
are_units source target region to read written k units same is_region is_to some reads writes read_long written_long some_read some_written ended so_far =
    let many = units_long region.shape read written read_long (written_long ∙ ap length same) in
    let all = so_far ∙ take_all k (units_of region.shape read written) (omega (arith, ended, many)) in
    record {
      read = read;
      is_read = reads;
      read_long = read_long;
      written = written;
      is_written = subst (λ (shape : List ℕ). AreLongest target (box_of to.start shape) written) same writes;
      written_long = written_long ∙ ap length same;
      region_is_box = is_region;
      moved_is_box = subst (λ (shape : List ℕ). IsBox (box_of to.start shape)) same is_to;
      are = all;
      long = ap length all ∙ many;
      some = rw all (some_units region.shape read written some some_read some_written);
    }

-- ---- all shapes

has_all : (sizes read written edges : List ℕ) (rows : List (List ℕ)) → AllZip IsRow (units_of sizes read written) rows
    → AllByRecursion IsFew (units_of sizes read written) → AreTriedEdges sizes read written edges → AllZip Contains rows edges
has_all [] [] [] [] [] is few tried = tt
has_all [] [] [] [] (_ ∷ _) is few tried = absurd is
has_all (n ∷ sizes) (r ∷ read) (w ∷ written) (edge ∷ edges) (row ∷ rows) is few tried =
    (is.0.all few.0 edge tried.0, has_all sizes read written edges rows is.1 few.1 tried.1)
has_all (n ∷ sizes) (r ∷ read) (w ∷ written) (edge ∷ edges) [] is few tried = absurd is
has_all _ _ _ _ rows is few tried = absurd tried

has_only : (sizes read written edges : List ℕ) (rows : List (List ℕ)) → length read ≡ length sizes → length written ≡ length sizes
    → AllZip IsRow (units_of sizes read written) rows → AllZip Contains rows edges → AreTriedEdges sizes read written edges
has_only [] [] [] [] [] e f is has = tt
has_only (n ∷ sizes) (r ∷ read) (w ∷ written) (edge ∷ edges) (row ∷ rows) e f is has =
    (is.0.only edge has.0, has_only sizes read written edges rows (omega arith) (omega arith) is.1 has.1)
has_only [] [] [] edges (_ ∷ _) e f is has = absurd is
has_only [] [] [] (_ ∷ _) [] e f is has = absurd has
has_only (_ ∷ _) (_ ∷ _) (_ ∷ _) edges [] e f is has = absurd is
has_only (_ ∷ _) (_ ∷ _) (_ ∷ _) [] (_ ∷ _) e f is has = absurd has
has_only _ _ _ edges rows e f is has = absurd (omega arith)

few_together : (sizes read written : List ℕ) (rows : List (List ℕ)) → AllZip IsRow (units_of sizes read written) rows
    → product (map length rows) ≤ product (sums (pieces_by sizes read) (pieces_by sizes written))
few_together (n ∷ sizes) (r ∷ read) (w ∷ written) (row ∷ rows) is =
    times (length row) (rounded_up n (min r n) + rounded_up n (min w n)) (product (map length rows))
    (product (sums (pieces_by sizes read) (pieces_by sizes written))) is.0.few (few_together sizes read written rows is.1)
few_together (n ∷ sizes) (r ∷ read) (w ∷ written) [] is = absurd is
few_together [] read written [] is = omega arith
few_together [] read written (_ ∷ _) is = absurd is
few_together (n ∷ sizes) [] written [] is = omega arith
few_together (n ∷ sizes) [] written (_ ∷ _) is = absurd is
few_together (n ∷ sizes) (r ∷ read) [] [] is = omega arith
few_together (n ∷ sizes) (r ∷ read) [] (_ ∷ _) is = absurd is

few_units : (sizes read written : List ℕ) → AllByRecursion (λ n. n ≤ most_pieces) (pieces_by sizes read)
    → AllByRecursion (λ n. n ≤ most_pieces) (pieces_by sizes written) → AllByRecursion IsFew (units_of sizes read written)
few_units (n ∷ sizes) (r ∷ read) (w ∷ written) reads writes = ((reads.0, writes.0), few_units sizes read written reads.1 writes.1)
few_units [] read written reads writes = tt
few_units (n ∷ sizes) [] written reads writes = tt
few_units (n ∷ sizes) (r ∷ read) [] reads writes = tt

pub some_rows : (units : List Units) (rows : List (List ℕ)) → AllZip IsRow units rows → AllByRecursion (λ row. 0 < length row) rows
some_rows [] [] is = tt
some_rows (along ∷ units) (row ∷ rows) is = (is.0.some, some_rows units rows is.1)
some_rows [] (_ ∷ _) is = absurd is
some_rows (_ ∷ _) [] is = absurd is

many_rows : (units : List Units) (rows : List (List ℕ)) → AllZip IsRow units rows → length rows ≡ length units
many_rows [] [] is = refl
many_rows (along ∷ units) (row ∷ rows) is = ap suc (many_rows units rows is.1)
many_rows [] (_ ∷ _) is = absurd is
many_rows (_ ∷ _) [] is = absurd is

module _ (source target : List Dimension) (region : Box) (at : List ℕ) (some : ¬ IsEmptyBox region) (units : List Units)
    (are : AreUnits source target region at units) (rows : List (Vec NonZeroU64 Global)) (is : AllZip IsRow units (rows_of_edges rows)) where
  pub as_many : length rows ≡ length region.shape
  as_many =
      sym (length-map rows (λ (row : Vec NonZeroU64 Global). edges_in row.items)) ∙ many_rows units (rows_of_edges rows) is ∙ are.long

  along : AllZip IsRow (units_of region.shape are.read are.written) (rows_of_edges rows)
  along = subst (λ (all : List Units). AllZip IsRow all (rows_of_edges rows)) are.are is

  same_read : (read : List ℕ) → AreLongest source region read → read ≡ are.read
  same_read read is_read = same_longest source region read are.read are.region_is_box some is_read are.is_read

  same_written : (written : List ℕ) → AreLongest target (moved at region) written → written ≡ are.written
  same_written written is_written = same_longest target (moved at region) written are.written are.moved_is_box some is_written are.is_written

  -- each shape is one edge from each row
  pub all_tried : AllByRecursion IsFew units → (shape : List ℕ) → IsTriedShape source target region at shape → AllZip Contains (rows_of_edges rows) shape
  all_tried few shape tried =
      has_all region.shape are.read are.written shape (rows_of_edges rows) along (subst (AllByRecursion IsFew) are.are few)
      (subst (λ (read : List ℕ). AreTriedEdges region.shape read are.written shape) (same_read tried.read tried.is_read)
      (subst (λ (written : List ℕ). AreTriedEdges region.shape tried.read written shape) (same_written tried.written tried.is_written) tried.edges))

  -- and nothing else is
  pub only_tried : (shape : List ℕ) → AllZip Contains (rows_of_edges rows) shape → IsTriedShape source target region at shape
  only_tried shape has = record {
    read = are.read;
    is_read = are.is_read;
    written = are.written;
    is_written = are.is_written;
    edges = has_only region.shape are.read are.written shape (rows_of_edges rows) are.read_long are.written_long along has;
  }

  pub few_along : AreFewPieces source target region at → AllByRecursion IsFew units
  few_along few =
      subst (AllByRecursion IsFew) (sym are.are)
      (few_units region.shape are.read are.written
      (subst (λ (read : List ℕ). AllByRecursion (λ n. n ≤ most_pieces) (pieces_by region.shape read)) (same_read few.read few.is_read) few.few_read)
      (subst (λ (written : List ℕ). AllByRecursion (λ n. n ≤ most_pieces) (pieces_by region.shape written)) (same_written few.written few.is_written)
      few.few_written))

  pub few_rows : AreFewPieces source target region at → product (map length (rows_of_edges rows)) ≤ most_shapes
  few_rows few =
      let together = few_together region.shape are.read are.written (rows_of_edges rows) along in
      let read_is = same_read few.read few.is_read in
      let written_is = same_written few.written few.is_written in
      let same = ap₂ (λ (read written : List ℕ). product (sums (pieces_by region.shape read) (pieces_by region.shape written))) read_is written_is in
      omega (arith, together, same, few.few_together)
