-- What is counted along each dimension: for a box of elements, for a group, and for all groups of a box.
use Rattle.std.proofs.Common.{◌≡◌, ◌∙◌, ℕ, zero, suc, ◌+◌, ◌-◌, IsTrue, List, [], ◌∷◌, Contains, length, map, min, refl, ap, ap₂, subst, sym, arith, ◌*◌}
use Rattle.std.specs.List.{AllByRecursion, AllZip, range_with_len, sum}
use Rattle.zarrs_chunk_base.specs.ArraySubset.{Box, IsBox, IsEmptyBox, lasts}
use Rattle.zarrs_chunk_base.specs.Dimension.{Dimension, Holds, InBox, IsChain, IsShape, array_sizes}
use Rattle.zarrs_chunk_base.proofs.InEach.{by_dimension, length_numbers, length_values}
unfoldable use Rattle.zarrs_chunk_axes.specs.RowMajor.{row_major}
use Rattle.zarrs_chunks.specs.Walks.{chunks_in, counted_from}
use Rattle.zarrs_chunks.proofs.ChunksInBoxes.{are_those_inside}
use Rattle.zarrs_chunks.proofs.Chains.{in_chain}
use Rattle.zarrs_chunks.proofs.Covers.{head_some, tail_some}
use Rattle.zarrs_chunk_parts.specs.Plan.{Covers}
use Rattle.zarrs_chunk_plan.specs.Counts.{product}
use Rattle.zarrs_chunk_plan.specs.Region.{LiesIn}
use Rattle.zarrs_chunk_plan.specs.seen.Sources.{met, met_by, met_in, taken_sizes, taken_starts, taken_from}
use Rattle.zarrs_chunk_plan.proofs.ByNumber.{as_many, length-shape}
use Rattle.zarrs_chunk_plan.proofs.MetChunks.{met_is}
use Rattle.zarrs_chunk_plan.proofs.MovedBoxes.{within_below}
use Rattle.zarrs_chunk_plan.proofs.Plans.{all_of_each, covers_some}
use Rattle.zarrs_chunk_plan.proofs.Products.{met_by_all, sum_of_products}
use Rattle.zarrs_chunk_plan.proofs.SomePlan.{array_homes, has_cover}
use Rattle.zarrs_chunk_plan.proofs.TakenBoxes.{AllTakeSome}
use Rattle.zarrs_chunk_tasks.specs.Counts.{AreMet}
use Rattle.zarrs_chunk_tasks.specs.seen.Counts.{of_groups_each, whole}
use Rattle.zarrs_chunk_tasks.proofs.SumsAlong.{sum_more, whole_is}

abbrev pub Count : Type 0
Count = Dimension → ℕ → ℕ → ℕ

-- ---- a box of elements

-- what is counted of a box along each dimension
abbrev pub of_ranges : Count → List Dimension → (start shape : List ℕ) → List ℕ
of_ranges count (d ∷ ds) (a ∷ start) (n ∷ shape) = count d a n ∷ of_ranges count ds start shape
of_ranges _ _ _ _ = []

-- how long each chunk is along each dimension
abbrev pub edges : List Dimension → List (ℕ → ℕ)
edges = map (λ d c. d.end c - d.start c)

-- the edges of neighbouring chunks add up to where they end
edges_add : (d : Dimension) → IsChain d → (c j : ℕ) → IsTrue (d.has_chunk (c + j))
    → sum (map (λ m. d.end m - d.start m) (range_with_len c (j + 1))) ≡ d.end (c + j) - d.start c
edges_add d chain c zero has =
    let here : c + 0 ≡ c = omega arith in
    omega (arith, sum_more (λ m. d.end m - d.start m) c 0, ap d.start here, ap d.end here)
edges_add d chain c (suc j) has =
    let next : c + suc j ≡ c + j + 1 = omega arith in
    let gap = chain.no_gap (c + j) (subst (λ m. IsTrue (d.has_chunk m)) next has) in
    let some = chain.not_empty (c + suc j) has in
    let (order, _) = in_chain d chain c (c + j) (omega arith) gap.0 in
    let more = chain.not_empty (c + j) gap.0 in
    let one : j + 1 ≡ suc j = omega arith in
    let rest = rw one at (edges_add d chain c j gap.0) in
    omega (arith, sum_more (λ m. d.end m - d.start m) c (suc j), rest, ap d.start next, gap.1, some, order, more)

-- the cover of a box tells what is counted of it
pub record Spans (ds : List Dimension) (first sizes start shape : List ℕ) : Type 0 where
  pub chunks : sizes ≡ of_ranges met ds start shape
  pub elements : map sum (met_in (edges ds) first sizes) ≡ of_ranges whole ds start shape

spans : (ds : List Dimension) (first sizes start shape : List ℕ) → AllByRecursion IsChain ds → (¬ Contains sizes 0) → length sizes ≡ length first
    → length shape ≡ length start → length first ≡ length ds → length start ≡ length ds → InBox ds first start
    → InBox ds (lasts first sizes) (lasts start shape) → Spans ds first sizes start shape
spans [] [] [] [] [] chains some e f g h low high = record { chunks = refl; elements = refl }
spans (d ∷ ds) (c ∷ first) (k ∷ sizes) (a ∷ start) (n ∷ shape) chains some e f g h low high =
    let rest = spans ds first sizes start shape chains.1 (tail_some k sizes some) (omega arith) (omega arith) (omega arith) (omega arith) low.1 high.1 in
    let any = head_some k sizes some in
    let many = met_is d chains.0 c (c + (k - 1)) a n low.0 high.0 in
    let one : k - 1 + 1 ≡ k = omega arith in
    let all = rw one at (edges_add d chains.0 c (k - 1) high.0.chunk) in
    record {
      chunks = ap₂ (λ x xs. x ∷ xs) (omega (arith, many)) rest.chunks;
      elements = ap₂ (λ x xs. x ∷ xs) (all ∙ sym (whole_is d chains.0 c (c + (k - 1)) a n low.0 high.0)) rest.elements;
    }
spans _ _ _ _ _ chains some e f g h low high = absurd (omega arith)

-- as many lists are below a shape as the product of its numbers
below_shape : (shape : List ℕ) → length (row_major shape) ≡ product shape
unfolding row_major
below_shape [] = refl
below_shape (n ∷ shape) = length-shape n shape ∙ ap (λ m. n * m) (below_shape shape)

pub in_box_many : (b : Box) → length (chunks_in b) ≡ product b.shape
in_box_many b = as_many b.start b.shape ∙ below_shape b.shape

pub all_zip_map : {X Y : Type 0} (R : X → Y → Type 0) (f : X → Y) (xs : List X) → AllByRecursion (λ x. R x (f x)) xs → AllZip R xs (map f xs)
all_zip_map R f [] all = tt
all_zip_map R f (x ∷ xs) all = (all.0, all_zip_map R f xs all.1)

pub map_of_map : {X Y Z : Type 0} (g : Y → Z) (f : X → Y) (xs : List X) → map g (map f xs) ≡ map (λ x. g (f x)) xs
map_of_map g f [] = refl
map_of_map g f (x ∷ xs) = ap (λ zs. g (f x) ∷ zs) (map_of_map g f xs)

-- a chunk that holds an index is as long as its edges
has_edges : (ds : List Dimension) (chunk index : List ℕ) → InBox ds chunk index → IsShape ds chunk (met_by (edges ds) chunk)
has_edges =
    by_dimension Holds (λ ds chunk index. IsShape ds chunk (met_by (edges ds) chunk)) tt
    (λ d c i ds chunk index here rest. (record { chunk = here.chunk; edge = omega (arith, here.from, here.below) }, rest))

-- and so is each chunk of a cover
pub shapes_of_cover : (ds : List Dimension) (b cover : Box) → IsBox cover → Covers ds b cover
    → AllZip (IsShape ds) (chunks_in cover) (map (met_by (edges ds)) (chunks_in cover))
shapes_of_cover ds b cover is_box covers =
    all_zip_map (IsShape ds) (met_by (edges ds)) (chunks_in cover)
    (all_of_each (λ chunk. IsShape ds chunk (met_by (edges ds) chunk)) (chunks_in cover)
    (λ chunk among.
    let (index, box, _) = (covers.named chunk).0 ((are_those_inside cover is_box chunk).0 among) in has_edges ds chunk index box))

pub box_is_met : (ds : List Dimension) (b : Box) → AllByRecursion IsChain ds → IsBox b → (¬ IsEmptyBox b) → LiesIn b (array_sizes ds)
    → AreMet ds b (product (of_ranges met ds b.start b.shape), product (of_ranges whole ds b.start b.shape))
box_is_met ds b chains is_box some lies =
    let (cover, is) = has_cover ds chains b is_box some (array_homes ds chains b (λ index inside. within_below b.start b.shape (array_sizes ds) index lies inside)) in
    let covers = covers_some ds b cover chains is_box some is in
    let starts = length_values Holds ds cover.start b.start is.first in
    let firsts = length_numbers Holds ds cover.start b.start is.first in
    let long = spans ds cover.start cover.shape b.start b.shape chains is.some (sym is.is_box.lengths) (sym is_box.lengths) firsts starts is.first is.last in
    record {
      cover = cover;
      is_cover = covers;
      chunks = in_box_many cover ∙ ap product long.chunks;
      shapes = map (met_by (edges ds)) (chunks_in cover);
      are_shapes = shapes_of_cover ds b cover is.is_box covers;
      elements =
          ap sum (map_of_map product (met_by (edges ds)) (chunks_in cover))
          ∙ ap sum (met_by_all (edges ds) cover.start cover.shape (omega (arith, firsts, edges_long ds)) (omega (arith, firsts, edges_long ds, is.is_box.lengths)))
          ∙ sum_of_products (met_in (edges ds) cover.start cover.shape) ∙ ap product long.elements;
    } where
      edges_long : (ds : List Dimension) → length (edges ds) ≡ length ds
      edges_long [] = refl
      edges_long (d ∷ ds) = ap suc (edges_long ds)

-- ---- a group

-- what is counted of what a group takes of a box, from elsewhere on, is what is counted of the group
pub shares_of : (count : Count) (others gs : List Dimension) (first steps at shape group : List ℕ) → AllTakeSome gs at shape group
    → length others ≡ length gs → length first ≡ length gs → counted_from at steps ≡ taken_starts gs at group
    → of_ranges count others (counted_from first steps) (taken_sizes gs at shape group)
    ≡ met_by (of_groups_each count others gs first at shape) group
shares_of count [] [] [] steps [] [] [] takes e f same = refl
shares_of count (d ∷ others) (g ∷ gs) (x ∷ first) (k ∷ steps) (a ∷ at) (n ∷ shape) (t ∷ group) takes e f same =
    let here : a + k ≡ taken_from g a t = cc in
    let rest : counted_from at steps ≡ taken_starts gs at group = cc in
    let from : k ≡ taken_from g a t - a = omega arith in
    ap₂ (λ m ms. m ∷ ms) (ap (λ steps. count d (x + steps) (min (g.end t) (a + n) - taken_from g a t)) from)
    (shares_of count others gs first steps at shape group takes.1 (omega arith) (omega arith) rest)
shares_of count (_ ∷ _) (_ ∷ _) (_ ∷ _) [] (_ ∷ _) (_ ∷ _) (_ ∷ _) takes e f same = absurd (let long = ap length same in omega arith)
shares_of count _ _ _ _ _ _ _ takes e f same = absurd (first_of (assumption, omega arith))

-- ---- all groups of a box

pub each_long : (count : Count) (others gs : List Dimension) (first at shape : List ℕ) → length others ≡ length gs → length first ≡ length gs
    → length at ≡ length gs → length shape ≡ length gs → length (of_groups_each count others gs first at shape) ≡ length gs
each_long count [] [] first at shape e f g h = refl
each_long count (d ∷ others) (t ∷ gs) (x ∷ first) (a ∷ at) (n ∷ shape) e f g h =
    ap suc (each_long count others gs first at shape (omega arith) (omega arith) (omega arith) (omega arith))
each_long count _ _ _ _ _ e f g h = absurd (omega arith)

pub tables_long : (counters : List (ℕ → ℕ)) (first sizes : List ℕ) → length first ≡ length counters → length sizes ≡ length counters
    → length (met_in counters first sizes) ≡ length counters
tables_long [] [] [] e g = refl
tables_long (f ∷ counters) (a ∷ first) (n ∷ sizes) e g = ap suc (tables_long counters first sizes (omega arith) (omega arith))
tables_long _ _ _ e g = absurd (omega arith)
