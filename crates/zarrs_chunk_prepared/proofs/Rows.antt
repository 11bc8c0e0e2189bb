-- The numbers of a dimension, one list of them behind another.
use Rattle.std.proofs.Common.{◌≡◌, ◌∙◌, ℕ, ◌<◌, List, [], ◌∷◌, ◌++◌, ap, append-nil, append_assoc, arith, drop, get_or, length, map, refl, sym, take}
use Rattle.std.proofs.lemmas.List.{length-map, map-append, take-append-drop}
use Rattle.std.proofs.Math.Seq.{drop-append_seam, take-append_seam}
use Rattle.std.specs.List.{IsSplitAt}
use Rattle.std.specs.List.{AllByRecursion, AllZip, flat_map}
use Rattle.zarrs_chunk_base.specs.Dimension.{Dimension}
use Rattle.zarrs_chunk_prepared.specs.Prepared.{HasAsMany, IsTableOf, Table, row}
use Rattle.zarrs_chunk_prepared.specs.declared.axis.PreparedAxis.{PreparedAxis}
use Rattle.zarrs_chunk_prepared.specs.seen.Axis.{table_of}

-- what is split where one list ends and the other begins
pub split_front : (xs ys all front back : List ℕ) (n : ℕ) → all ≡ xs ++ ys → n ≡ length xs → IsSplitAt all n front back → (front ≡ xs) × (back ≡ ys)
split_front xs ys all front back n is long (_, is_front, is_back, _, _) =
    let taken : take n all ≡ take (length xs) (xs ++ ys) = ap (λ k. take k all) long ∙ ap (take (length xs)) is in
    let dropped : drop n all ≡ drop (length xs) (xs ++ ys) = ap (λ k. drop k all) long ∙ ap (drop (length xs)) is in
    (is_front ∙ taken ∙ take-append_seam xs ys, is_back ∙ dropped ∙ drop-append_seam xs ys)

-- what is read of a dimension's numbers, and what is left behind them
pub record IsRead (t : Table) (behind head starts chunks edges rest : List ℕ) : Type 0 where
  pub grid_size : get_or head 0 0 ≡ t.grid_size
  pub last_index : get_or head 1 0 ≡ t.last_index
  pub last_chunk : get_or head 2 0 ≡ t.last_chunk
  pub is_starts : starts ≡ t.starts
  pub is_chunks : chunks ≡ t.chunks
  pub is_edges : edges ≡ t.edges
  pub is_rest : rest ≡ behind

pub is_read : (t : Table) (behind numbers head after_head starts after_starts chunks after_chunks edges rest : List ℕ) → HasAsMany t
    → numbers ≡ row t ++ behind → IsSplitAt numbers 4 head after_head → IsSplitAt after_head (get_or head 3 0) starts after_starts
    → IsSplitAt after_starts (get_or head 3 0) chunks after_chunks → IsSplitAt after_chunks (get_or head 3 0) edges rest
    → IsRead t behind head starts chunks edges rest
is_read t behind numbers head after_head starts after_starts chunks after_chunks edges rest long is first second third fourth =
    let four = t.grid_size ∷ t.last_index ∷ t.last_chunk ∷ length t.starts ∷ [] in
    let together : (t.starts ++ (t.chunks ++ t.edges)) ++ behind ≡ t.starts ++ (t.chunks ++ (t.edges ++ behind)) =
    append_assoc t.starts (t.chunks ++ t.edges) behind ∙ ap (λ more. t.starts ++ more) (append_assoc t.chunks t.edges behind) in
    let (is_head, is_after) = split_front four ((t.starts ++ (t.chunks ++ t.edges)) ++ behind) numbers head after_head 4 is (omega arith) first in
    let runs : get_or head 3 0 ≡ length t.starts = ap (λ h. get_or h 3 0) is_head in
    let (is_starts, after) = split_front t.starts (t.chunks ++ (t.edges ++ behind)) after_head starts after_starts (get_or head 3 0)
    (is_after ∙ together) runs second in
    let (is_chunks, after) = split_front t.chunks (t.edges ++ behind) after_starts chunks after_chunks (get_or head 3 0) after
    (runs ∙ sym long.chunks) third in
    let (is_edges, after) = split_front t.edges behind after_chunks edges rest (get_or head 3 0) after (runs ∙ sym long.edges) fourth in
    record {
      grid_size = ap (λ h. get_or h 0 0) is_head;
      last_index = ap (λ h. get_or h 1 0) is_head;
      last_chunk = ap (λ h. get_or h 2 0) is_head;
      is_starts = is_starts;
      is_chunks = is_chunks;
      is_edges = is_edges;
      is_rest = after;
    }

-- the two parts of what is split
pub parts : (all front back : List ℕ) (n : ℕ) → IsSplitAt all n front back → all ≡ front ++ back
parts all front back n (_, is_front, is_back, _, _) = sym (rw (is_front, is_back) (take-append-drop n all))

-- the first two numbers, and the first four
two : (head : List ℕ) → length head ≡ 2 → head ≡ get_or head 0 0 ∷ get_or head 1 0 ∷ []
two (a ∷ b ∷ []) long = refl
two _ long = absurd (omega arith)

four : (head : List ℕ) → length head ≡ 4 → head ≡ get_or head 0 0 ∷ get_or head 1 0 ∷ get_or head 2 0 ∷ get_or head 3 0 ∷ []
four (a ∷ b ∷ c ∷ d ∷ []) long = refl
four _ long = absurd (omega arith)

-- what was read of a dimension's numbers is all that stands before those that are left
pub is_row : (numbers head after_head starts after_starts chunks after_chunks edges rest : List ℕ) → IsSplitAt numbers 4 head after_head
    → IsSplitAt after_head (get_or head 3 0) starts after_starts → IsSplitAt after_starts (get_or head 3 0) chunks after_chunks
    → IsSplitAt after_chunks (get_or head 3 0) edges rest
    → numbers ≡ row (record {
      grid_size = get_or head 0 0;
      last_index = get_or head 1 0;
      last_chunk = get_or head 2 0;
      starts = starts;
      chunks = chunks;
      edges = edges;
    }) ++ rest
is_row numbers head after_head starts after_starts chunks after_chunks edges rest first second third fourth =
    let runs : length starts ≡ get_or head 3 0 = second.3 in
    let three : after_head ≡ (starts ++ (chunks ++ edges)) ++ rest =
    parts after_head starts after_starts _ second
    ∙ ap (λ more. starts ++ more) (parts after_starts chunks after_chunks _ third ∙ ap (λ more. chunks ++ more) (parts after_chunks edges rest _ fourth))
    ∙ sym (append_assoc starts (chunks ++ edges) rest ∙ ap (λ more. starts ++ more) (append_assoc chunks edges rest)) in
    parts numbers head after_head 4 first ∙ ap (λ h. h ++ after_head) (four head first.3)
    ∙ ap (λ more. get_or head 0 0 ∷ get_or head 1 0 ∷ get_or head 2 0 ∷ get_or head 3 0 ∷ more) three
    ∙ ap (λ n. get_or head 0 0 ∷ get_or head 1 0 ∷ get_or head 2 0 ∷ n ∷ ((starts ++ (chunks ++ edges)) ++ rest)) (sym runs)

-- those that are read so far, and those that are left
abbrev pub AreReadSoFar : List PreparedAxis → List ℕ → List Table → Type 0
AreReadSoFar axes rest tables =
    (left : List Table) × (map table_of axes ++ left ≡ tables) × AllByRecursion HasAsMany left × (rest ≡ flat_map row left)

-- one dimension more
pub one_more : (axes : List PreparedAxis) (axis : PreparedAxis) (rest behind : List ℕ) (tables : List Table) → AreReadSoFar axes rest tables
    → length behind < length rest → ((t : Table) (more : List ℕ) → HasAsMany t → rest ≡ row t ++ more → (table_of axis ≡ t) × (behind ≡ more))
    → AreReadSoFar (axes ++ axis ∷ []) behind tables
one_more axes axis rest behind tables ([], so_far, long, is) shorter next =
    absurd (let none : length rest ≡ 0 = ap length is in omega arith)
one_more axes axis rest behind tables (t ∷ left, so_far, long, is) shorter next =
    let (is_t, is_behind) = next t (flat_map row left) long.0 is in
    let all : map table_of (axes ++ axis ∷ []) ++ left ≡ map table_of axes ++ (t ∷ left) =
    ap (λ ts. ts ++ left) (map-append table_of axes (axis ∷ [])) ∙ append_assoc (map table_of axes) (table_of axis ∷ []) left
    ∙ ap (λ first. map table_of axes ++ (first ∷ left)) is_t in
    (left, all ∙ so_far, long.1, is_behind)

-- where no number is left, all are read
pub all_read : (axes : List PreparedAxis) (rest : List ℕ) (tables : List Table) → length rest ≡ 0 → AreReadSoFar axes rest tables
    → map table_of axes ≡ tables
all_read axes rest tables none ([], so_far, long, is) = sym (append-nil (map table_of axes)) ∙ so_far
all_read axes rest tables none (t ∷ left, so_far, long, is) =
    absurd (let some : length rest ≡ length (flat_map row (t ∷ left)) = ap length is in omega arith)

pub none_behind : (numbers rest : List ℕ) → length rest ≡ 0 → numbers ++ rest ≡ numbers
none_behind numbers [] none = append-nil numbers
none_behind numbers (_ ∷ _) none = absurd (omega arith)

-- where some is left, it is a dimension's
pub none_left : (axes : List PreparedAxis) (rest : List ℕ) (tables : List Table) → 0 < length rest → AreReadSoFar axes rest tables
    → ((t : Table) (more : List ℕ) → HasAsMany t → rest ≡ row t ++ more → ⊥) → ⊥
none_left axes rest tables some ([], so_far, long, is) next = let none : length rest ≡ 0 = ap length is in omega arith
none_left axes rest tables some (t ∷ left, so_far, long, is) next = next t (flat_map row left) long.0 is

-- the numbers of dimensions have as many of each kind
pub all_long : (ds : List Dimension) (tables : List Table) → AllZip IsTableOf ds tables → AllByRecursion HasAsMany tables
all_long [] [] are = tt
all_long (d ∷ ds) (t ∷ tables) (is, are) = (is.long, all_long ds tables are)
all_long [] (_ ∷ _) are = absurd are
all_long (_ ∷ _) [] are = absurd are

-- so have those of dimensions that were read
pub axes_long : (axes : List PreparedAxis) → AllByRecursion HasAsMany (map table_of axes)
axes_long [] = tt
axes_long (axis ∷ axes) = (record { chunks = axis.chunks_long; edges = axis.edges_long }, axes_long axes)

-- and those of one more behind them
pub rows_append : (tables : List Table) (t : Table) → flat_map row (tables ++ t ∷ []) ≡ flat_map row tables ++ row t
rows_append [] t = append-nil (row t)
rows_append (u ∷ tables) t = ap (λ rest. row u ++ rest) (rows_append tables t) ∙ sym (append_assoc (row u) (flat_map row tables) (row t))

pub one_row_more : (axes : List PreparedAxis) (axis : PreparedAxis) (numbers rest behind : List ℕ)
    → numbers ≡ flat_map row (map table_of axes) ++ rest → rest ≡ row (table_of axis) ++ behind
    → numbers ≡ flat_map row (map table_of (axes ++ axis ∷ [])) ++ behind
one_row_more axes axis numbers rest behind so_far next =
    let rows = flat_map row (map table_of axes) in
    so_far ∙ ap (λ more. rows ++ more) next ∙ sym (append_assoc rows (row (table_of axis)) behind)
    ∙ ap (λ all. all ++ behind)
    (sym (ap (flat_map row) (map-append table_of axes (axis ∷ [])) ∙ rows_append (map table_of axes) (table_of axis)))

-- a mark, how many there are, and their numbers
pub are_tables : (mark : ℕ) (axes : List PreparedAxis) (numbers head rest : List ℕ) → IsSplitAt numbers 2 head rest → get_or head 0 0 ≡ mark
    → get_or head 1 0 ≡ length axes → rest ≡ flat_map row (map table_of axes)
    → numbers ≡ mark ∷ length (map table_of axes) ∷ flat_map row (map table_of axes)
are_tables mark axes numbers head rest split is_mark counted is_rest =
    parts numbers head rest 2 split ∙ ap (λ h. h ++ rest) (two head split.3) ∙ ap (λ m. m ∷ get_or head 1 0 ∷ rest) is_mark
    ∙ ap (λ n. mark ∷ n ∷ rest) (counted ∙ sym (length-map axes table_of)) ∙ ap (λ more. mark ∷ length (map table_of axes) ∷ more) is_rest

-- the first numbers of a grid, and those behind them
pub read_head : (mark : ℕ) (tables : List Table) (numbers head rest : List ℕ) → numbers ≡ mark ∷ length tables ∷ flat_map row tables
    → IsSplitAt numbers 2 head rest → (get_or head 1 0 ≡ length tables) × (rest ≡ flat_map row tables)
read_head mark tables numbers head rest is split =
    let (is_head, is_rest) = split_front (mark ∷ length tables ∷ []) (flat_map row tables) numbers head rest 2 is (omega arith) split in
    (ap (λ h. get_or h 1 0) is_head, is_rest)
