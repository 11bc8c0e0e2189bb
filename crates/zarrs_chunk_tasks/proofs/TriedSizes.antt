-- The sizes that are tried along each dimension.
use Rattle.std.proofs.Common.{◌≡◌, ◌∙◌, Bool, ℕ, zero, suc, ◌+◌, ◌-◌, ◌*◌, ◌<◌, ◌≤◌, List, [], ◌∷◌, ◌++◌, Contains, length, map, min, refl, ap, ap₂, subst, sym, get_or, slice_index_or, take, arith, IsTrue, ◌↔◌}
use Rattle.std.proofs.lemmas.List.{map-append, take_more}
use Rattle.std.proofs.Common.{Vec, Global}
use Rattle.std.specs.List.{AllByRecursion, AllZip}
use Rattle.zarrs_chunk_base.specs.ArraySubset.{Box, IsEmptyBox, ends, lasts}
use Rattle.zarrs_chunk_base.specs.Dimension.{Dimension}
use Rattle.zarrs_chunk_base.specs.Greatest.{greatest}
use Rattle.zarrs_chunk_axes.specs.Along.{Along}
use Rattle.zarrs_chunks.proofs.Covers.{head_some, tail_some}
use Rattle.zarrs_chunk_plan.specs.Counts.{product}
use Rattle.zarrs_chunks.specs.Subsets.{IsCover}
use Rattle.zarrs_chunk_tasks.specs.Cheapest.{most_choices, most_sizes}
use Rattle.zarrs_chunk_tasks.specs.declared.copied.Grouped.{Grouped}
use Rattle.zarrs_chunk_tasks.specs.declared.tried.Tried.{Tried}
use Rattle.zarrs_chunk_tasks.specs.declared.sizes.Size.{Size}
use Rattle.zarrs_chunk_tasks.specs.seen.Choices.{rows_of}
use Rattle.zarrs_chunk_tasks.specs.seen.Sizes.{AreSizes, AreTried, IsSize, Side, sides}
use Rattle.zarrs_chunk_tasks.specs.seen.Thinning.{IsThinned}
use Rattle.zarrs_chunk_tasks.specs.seen.Tried.{AreTriedOver}
use Rattle.zarrs_chunk_tasks.specs.seen.Counts.{AreGrouped}
use Rattle.zarrs_chunk_tasks.proofs.LargestChunk.{capped, product_more}
use Rattle.zarrs_chunk_tasks.proofs.LeastCost.{all_has}
use Rattle.zarrs_chunk_tasks.proofs.ThinnedRows.{HaveSome}
use Rattle.zarrs_chunk_tasks.proofs.SideCounts.{AreAsMany, as_many_sides, fewer_lists}

-- ---- rows

all_of_part : (P : Size → Type 0) (row part : List Size) → AllByRecursion P row → ((s : Size) → Contains part s → Contains row s) → AllByRecursion P part
all_of_part P row [] all among = tt
all_of_part P row (s ∷ part) all among = (
  all_has P row s all (among s (0, omega arith, refl)),
  all_of_part P row part all (λ x (k, within, is). among x (suc k, omega arith, is)),
)

thinned_are : (side : Side) (row part : List Size) → AreTried side row → IsThinned row part → AreTried side part
thinned_are side row part are is =
    let least = are.least in
    let (rest, same) = is.starts least.first_size least.others least.are in
    record {
      are = all_of_part (IsSize side) row part are.are is.among;
      least = record { first_size = least.first_size; others = rest; are = same; one = least.one; least = least.least };
    }

-- fewer sizes are tried, and aren't all
pub fewer_are : (are_all : Bool) (all : List Side) (rows parts : List (List Size)) → (¬ IsTrue are_all) → AllZip (AreSizes are_all) all rows
    → AllZip IsThinned rows parts → AllZip (AreSizes are_all) all parts
fewer_are are_all [] [] [] not are is = tt
fewer_are are_all (side ∷ all) (row ∷ rows) (part ∷ parts) not are is =
    (record { tried = thinned_are side row part are.0.tried is.0; all = λ true. absurd (not true) }, fewer_are are_all all rows parts not are.1 is.1)
fewer_are are_all [] [] (_ ∷ _) not are is = absurd is
fewer_are are_all (_ ∷ _) (_ ∷ _) [] not are is = absurd is
fewer_are are_all [] (_ ∷ _) parts not are is = absurd are
fewer_are are_all (_ ∷ _) [] parts not are is = absurd are

pub are_tried : (are_all : Bool) (all : List Side) (rows : List (List Size)) → AllZip (AreSizes are_all) all rows → AllZip AreTried all rows
are_tried are_all [] [] are = tt
are_tried are_all (side ∷ all) (row ∷ rows) are = (are.0.tried, are_tried are_all all rows are.1)
are_tried are_all [] (_ ∷ _) are = absurd are
are_tried are_all (_ ∷ _) [] are = absurd are

pub have_sizes : (are_all : Bool) (all : List Side) (rows : List (List Size)) → AllZip (AreSizes are_all) all rows → HaveSome rows
have_sizes are_all [] [] are = tt
have_sizes are_all (side ∷ all) (row ∷ rows) are = (rw are.0.tried.least.are (omega arith), have_sizes are_all all rows are.1)
have_sizes are_all [] (_ ∷ _) are = absurd are
have_sizes are_all (_ ∷ _) [] are = absurd are

some_sizes : (side : Side) (row : List Size) → AllByRecursion (IsSize side) row → AllByRecursion (λ (s : Size). 0 < s.largest) row
some_sizes side [] all = tt
some_sizes side (s ∷ row) all = (all.0.some, some_sizes side row all.1)

pub some_rows : (all : List Side) (rows : List (List Size)) → AllZip AreTried all rows
    → AllByRecursion (AllByRecursion (λ (s : Size). 0 < s.largest)) rows
some_rows [] [] are = tt
some_rows (side ∷ all) (row ∷ rows) are = (some_sizes side row are.0.are, some_rows all rows are.1)
some_rows [] (_ ∷ _) are = absurd are
some_rows (_ ∷ _) [] are = absurd are

-- the chunks up to the last one of a cover
pub lasts_few : (start shape : List ℕ) → (¬ Contains shape 0) → AllByRecursion (λ n. n ≤ most_sizes) (ends start shape)
    → AllByRecursion (λ n. n < most_sizes) (lasts start shape)
lasts_few [] shape some few = tt
lasts_few (a ∷ start) [] some few = tt
lasts_few (a ∷ start) (n ∷ shape) some few =
    let any = head_some n shape some in
    let up_to : a + n ≤ most_sizes = few.0 in
    (omega (arith, any, up_to), lasts_few start shape (tail_some n shape some) few.1)

ends_of_lasts : (start shape : List ℕ) → (¬ Contains shape 0) → map suc (lasts start shape) ≡ ends start shape
ends_of_lasts [] shape some = refl
ends_of_lasts (a ∷ start) [] some = refl
ends_of_lasts (a ∷ start) (n ∷ shape) some =
    let any = head_some n shape some in
    let here : suc (a + (n - 1)) ≡ a + n = omega (arith, any) in
    ap₂ (λ (m : ℕ) (ms : List ℕ). m ∷ ms) here (ends_of_lasts start shape (tail_some n shape some))

pub all_at : {X : Type 0} (P : X → Type 0) (xs : List X) (k : ℕ) (d : X) → k < length xs → AllByRecursion P xs → P (get_or xs k d)
all_at P [] k d within all = absurd (omega arith)
all_at P (x ∷ xs) zero d within all = all.0
all_at P (x ∷ xs) (suc k) d within all = all_at P xs k d (omega arith) all.1

pub chunks_more : (last : List ℕ) (k chunks up_to after : ℕ) → k < length last → AllByRecursion (λ n. n < most_sizes) last
    → chunks ≡ min greatest (product (map suc (take k last))) → up_to ≡ min (get_or last k 0 + 1) greatest → after ≡ min (chunks * up_to) greatest
    → after ≡ min greatest (product (map suc (take (k + 1) last)))
chunks_more last k chunks up_to after within few before up_to_is after_is =
    let n = get_or last k 0 in
    let next = ap (map suc) (take_more last k 0 within) ∙ map-append suc (take k last) (n ∷ []) in
    let small = all_at (λ m. m < most_sizes) last k 0 within few in
    let here : up_to ≡ suc n = omega (arith, up_to_is, small) in
    after_is ∙ ap₂ (λ (a b : ℕ). min (a * b) greatest) before here ∙ capped (product (map suc (take k last))) (suc n)
    ∙ ap (min greatest) (sym (ap product next ∙ product_more (map suc (take k last)) (suc n)))

-- the sizes of one dimension more
pub rows_more : (R : Side → List Size → Type 0) (source target : List Dimension) (first at shape low high : List ℕ) (k : ℕ) (rows : List (List Size))
    (row : List Size) → AreAsMany source target first at shape low high → k < length target
    → AllZip R (take k (sides source target first at shape low high)) rows
    → Along (λ t. Along (λ s. R (record {
      source = s;
      target = t;
      first = slice_index_or first k 0;
      at = slice_index_or at k 0;
      size = slice_index_or shape k 0;
      low = slice_index_or low k 0;
      high = slice_index_or high k 0;
    }) row) source k) target k
    → AllZip R (take (k + 1) (sides source target first at shape low high)) (rows ++ row ∷ [])
rows_more R (s ∷ source) (t ∷ target) (f ∷ first) (a ∷ at) (n ∷ shape) (l ∷ low) (h ∷ high) zero [] row many within so_far here = (here, tt)
rows_more R (s ∷ source) (t ∷ target) (f ∷ first) (a ∷ at) (n ∷ shape) (l ∷ low) (h ∷ high) zero (_ ∷ _) row many within so_far here = absurd so_far
rows_more R (s ∷ source) (t ∷ target) (f ∷ first) (a ∷ at) (n ∷ shape) (l ∷ low) (h ∷ high) (suc k) (r ∷ rows) row many within so_far here =
    let next : suc k + 1 ≡ suc (k + 1) = omega arith in
    rw next (so_far.0, rows_more R source target first at shape low high k rows row (fewer_lists many) (omega arith) so_far.1 here)
rows_more R (s ∷ source) (t ∷ target) (f ∷ first) (a ∷ at) (n ∷ shape) (l ∷ low) (h ∷ high) (suc k) [] row many within so_far here = absurd so_far
rows_more R [] [] _ _ _ _ _ k rows row many within so_far here = absurd (omega arith)
rows_more R _ _ _ _ _ _ _ k rows row many within so_far here =
    absurd (omega (arith, many.source_many, many.first_many, many.at_many, many.shape_many, many.low_many, many.high_many))

-- ---- a row more

pub zip_more : {X Y : Type 0} (R : X → Y → Type 0) (xs : List X) (ys : List Y) (x : X) (y : Y) → AllZip R xs ys → R x y → AllZip R (xs ++ x ∷ []) (ys ++ y ∷ [])
zip_more R [] [] x y all here = (here, tt)
zip_more R (z ∷ xs) (w ∷ ys) x y all here = (all.0, zip_more R xs ys x y all.1 here)
zip_more R [] (_ ∷ _) x y all here = absurd all
zip_more R (_ ∷ _) [] x y all here = absurd all

-- ---- the lists of some groups

pub grouped_many : {K : Type 0} (dimensions : K → List Dimension) (source target : List Dimension) (first at : List ℕ) (groups : Grouped K)
    → AreGrouped dimensions source target first at groups
    → AreAsMany source target first groups.elements.now.start groups.elements.now.shape groups.cover.start groups.last.items
grouped_many dimensions source target first at groups are =
    let long = are.long in
    record {
      source_many = omega (arith, long.source_long, long.target_long);
      first_many = omega (arith, long.first_long, long.target_long);
      at_many = omega (arith, long.start_long, long.target_long);
      shape_many = omega (arith, long.shape_long, long.target_long);
      low_many = omega (arith, are.cover_long, long.target_long);
      high_many = omega (arith, are.last_long, long.target_long);
    }

-- ---- what is tried

-- the rows are tried, whether they are all or were thinned
pub are_tried_over : (source target : List Dimension) (first : List ℕ) (elements cover : Box) (rows : List (Vec Size Global)) (tried : Tried)
    → (¬ IsEmptyBox elements) → IsCover target elements cover
    → AreAsMany source target first elements.start elements.shape cover.start (lasts cover.start cover.shape)
    → AllZip (AreSizes tried.is_exact) (sides source target first elements.start elements.shape cover.start (lasts cover.start cover.shape)) (rows_of rows)
    → tried.rows.items ≡ rows
    → IsTrue tried.is_exact ↔ (AllByRecursion (λ n. n < most_sizes) (lasts cover.start cover.shape)
    × (product (map suc (lasts cover.start cover.shape)) ≤ most_choices))
    → AreTriedOver source target first elements tried
are_tried_over source target first elements cover rows tried some is many are same exact = record {
  some = some;
  cover = cover;
  is_cover = is;
  long = as_many_sides source target first elements.start elements.shape cover.start (lasts cover.start cover.shape) many;
  are_sizes = rw same are;
  few = λ few up_to.
      exact.1 (
        lasts_few cover.start cover.shape is.some few,
        subst (λ ns. product ns ≤ most_choices) (sym (ends_of_lasts cover.start cover.shape is.some)) up_to,
      );
}
