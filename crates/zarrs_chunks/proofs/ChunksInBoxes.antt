-- The chunks in a box of chunk numbers: which they are, and their order.
use Rattle.std.proofs.Common.{◌≡◌, ◌≢◌, ◌↔◌, ◌∙◌, ℕ, zero, suc, ◌+◌, ◌-◌, ◌<◌, ◌≤◌, List, [], ◌∷◌, ◌++◌, Contains, drop, get_or, length, map, refl}
use Rattle.std.proofs.Common.{ap, ap₂, subst, sym, inl, inr, take, ⊎_elim, arith}
use Rattle.std.proofs.lemmas.List.{get_or-map, length-map}
use Rattle.std.proofs.lemmas.List.Elements.{Contains-get_or}
use Rattle.std.proofs.lemmas.Slice.Zip.{AllZip-long}
use Rattle.std.specs.List.{AllByRecursion, AllPairs}
use Rattle.zarrs_chunk_base.specs.ArraySubset.{AreWithin, Box, IsBox, IsEmptyBox, IsInside, ends}
use Rattle.zarrs_chunk_base.specs.Dimension.{Dimension, IsChain, IsOrigin}
use Rattle.zarrs_chunk_base.specs.Greatest.{greatest, AllFit}
use Rattle.zarrs_chunk_axes.specs.InBounds.{AreBelow}
use Rattle.zarrs_chunk_axes.specs.RowMajor.{IsBefore, row_major}
use Rattle.zarrs_chunk_axes.proofs.RowMajorOrder.{are_those_below, in_order, not_before_itself}
use Rattle.zarrs_chunks.specs.Subsets.{IsCover}
use Rattle.zarrs_chunks.specs.Walks.{chunks_in, counted_from}
use Rattle.zarrs_chunks.proofs.Boxes.{has_origin}
use Rattle.zarrs_chunks.proofs.Meeting.{cover_meets}

-- ---- numbers that are counted from a start

-- what was written over all of a list
pub written : (new items : List ℕ) → length new ≡ length items → take (length items) (new ++ drop (length new) items) ≡ new
written [] [] same = refl
written (n ∷ new) (i ∷ items) same = ap (λ xs. n ∷ xs) (written new items (omega arith))
written _ _ same = absurd (omega arith)

-- sums, place by place, are the numbers as they are from 0
pub are_counted : (start old new : List ℕ) → length old ≡ length start → length new ≡ length old
    → ((k : ℕ) → get_or new k 0 ≡ get_or start k 0 + get_or old k 0) → new ≡ counted_from start old
are_counted [] [] [] same as_many each = refl
are_counted (s ∷ start) (n ∷ old) (m ∷ new) same as_many each =
    ap₂ (λ x xs. x ∷ xs) (each 0) (are_counted start old new (omega arith) (omega arith) (λ k. each (suc k)))
are_counted _ _ _ same as_many each = absurd (omega arith)

-- there are as many numbers as sizes
pub length_below : (shape numbers : List ℕ) → AreBelow shape numbers → length numbers ≡ length shape
length_below = AllZip-long (λ size n. n < size)

-- numbers below a shape lie in the box from a start with this shape, counted from 0
pub lie_within : (start shape numbers : List ℕ) → length start ≡ length shape → AreBelow shape numbers
    → AreWithin start shape (counted_from start numbers)
lie_within [] [] [] same below = tt
lie_within (s ∷ start) (n ∷ shape) (i ∷ numbers) same below =
    let here : i < n = below.0 in
    (omega arith, omega arith, lie_within start shape numbers (omega arith) below.1)
lie_within _ _ [] same below = absurd (omega arith)
lie_within _ _ _ same below = absurd (omega arith)

-- what lies in the box is counted so
pub offset_of : (start shape chunk : List ℕ) → AreWithin start shape chunk
    → (numbers : List ℕ) × AreBelow shape numbers × (counted_from start numbers ≡ chunk)
offset_of [] [] [] within = ([], tt, refl)
offset_of (s ∷ start) (n ∷ shape) (c ∷ chunk) within =
    let (numbers, below, is) = offset_of start shape chunk within.2 in
    let from : s ≤ c = within.0 in
    let before : c < s + n = within.1 in
    let counts : s + (c - s) ≡ c = omega arith in
    ((c - s) ∷ numbers, (omega arith, below), ap₂ (λ x xs. x ∷ xs) counts is)
offset_of _ _ _ within = absurd within

-- an index in a box fits
pub inside_fits : (start shape index : List ℕ) → AllFit (ends start shape) → AreWithin start shape index → AllFit index
inside_fits [] [] [] fit within = tt
inside_fits (s ∷ start) (n ∷ shape) (i ∷ index) fit within =
    let end : s + n ≤ greatest = fit.0 in
    let below : i < s + n = within.1 in
    (omega arith, inside_fits start shape index fit.1 within.2)
inside_fits _ _ _ fit within = absurd within

-- sums of a box's start and of numbers below its shape fit
pub sums_fit : (start shape numbers : List ℕ) → length start ≡ length shape → AllFit (ends start shape) → AreBelow shape numbers
    → (k : ℕ) → get_or start k 0 + get_or numbers k 0 ≤ greatest
sums_fit [] [] [] same fit below k = omega arith
sums_fit (s ∷ start) (n ∷ shape) (i ∷ numbers) same fit below zero =
    let end : s + n ≤ greatest = fit.0 in
    let here : i < n = below.0 in
    omega arith
sums_fit (s ∷ start) (n ∷ shape) (i ∷ numbers) same fit below (suc k) = sums_fit start shape numbers (omega arith) fit.1 below.1 k
sums_fit _ _ _ same fit below k = absurd (omega arith)

-- the order doesn't change
counted_in_order : (start shape one other : List ℕ) → length start ≡ length shape → AreBelow shape one → AreBelow shape other → IsBefore one other
    → IsBefore (counted_from start one) (counted_from start other)
counted_in_order [] [] [] [] same below also before = before
counted_in_order (s ∷ start) (n ∷ shape) (i ∷ one) (j ∷ other) same below also before =
    ⊎_elim (λ (less : i < j). inl (omega arith))
    (λ rest.
    let first : s + i ≡ s + j = ap₂ ◌+◌ refl rest.0 in
    inr (first, counted_in_order start shape one other (omega arith) below.1 also.1 rest.1))
    before
counted_in_order _ _ _ _ same below also before = absurd (omega arith)

-- ---- lists of what is made of each

module _ {X Y : Type 0} (f : X → Y) where
  pub made_of : (xs : List X) (x : X) → Contains xs x → Contains (map f xs) (f x)
  made_of xs x (k, within, is) = (k, omega (arith, length-map xs f), get_or-map f xs k x (f x) within ∙ ap f is)

  pub source_of : (xs : List X) (y : Y) → Contains (map f xs) y → (x : X) × Contains xs x × (f x ≡ y)
  source_of [] y (k, within, is) = absurd (omega arith)
  source_of (x ∷ xs) y (zero, within, is) = (x, (zero, omega arith, refl), is)
  source_of (x ∷ xs) y (suc k, within, is) =
      let (z, (j, below, same), made) = source_of xs y (k, omega arith, is) in
      (z, (suc j, omega arith, same), made)

-- ---- the chunks in a box

-- they are the lists that lie in it
pub are_those_inside : (b : Box) → IsBox b → (chunk : List ℕ) → Contains (chunks_in b) chunk ↔ IsInside b chunk
are_those_inside b is_box chunk = (inside, contained) where
  inside : Contains (chunks_in b) chunk → IsInside b chunk
  inside has =
      let (numbers, among, is) = source_of (counted_from b.start) (row_major b.shape) chunk has in
      subst (AreWithin b.start b.shape) is (lie_within b.start b.shape numbers is_box.lengths ((are_those_below b.shape numbers).0 among))

  contained : IsInside b chunk → Contains (chunks_in b) chunk
  contained within =
      let (numbers, below, is) = offset_of b.start b.shape chunk within in
      subst (Contains (chunks_in b)) is (made_of (counted_from b.start) (row_major b.shape) numbers ((are_those_below b.shape numbers).1 below))

-- each comes before those that follow it
pub chunks_in_order : (b : Box) → IsBox b → AllPairs IsBefore (chunks_in b)
chunks_in_order b is_box i j d before within =
    let lists = row_major b.shape in
    let f = counted_from b.start in
    let many = length-map lists f in
    let below = λ (k : ℕ) (counted : k < length lists). (are_those_below b.shape (get_or lists k d)).0 (Contains-get_or lists k d counted) in
    rw (get_or-map f lists i d d (omega arith), get_or-map f lists j d d (omega arith))
    (counted_in_order b.start b.shape _ _ is_box.lengths (below i (omega arith)) (below j (omega arith))
    (in_order b.shape i j d before (omega arith)))

-- so none comes twice
pub chunks_once : (b : Box) → IsBox b → AllPairs (λ one other. one ≢ other) (chunks_in b)
chunks_once b is_box i j d before within same =
    not_before_itself (get_or (chunks_in b) i d)
    (subst (λ other. IsBefore (get_or (chunks_in b) i d) other) (sym same) (chunks_in_order b is_box i j d before within))

-- ---- the chunks of a cover

-- a chunk of the cover holds an element of the box, and so has an origin
pub has_origin_in_cover : (ds : List Dimension) (b cover : Box) → AllByRecursion IsChain ds → IsBox b → (¬ IsEmptyBox b) → IsCover ds b cover
    → (chunk : List ℕ) → IsInside cover chunk → (origin : List ℕ) × IsOrigin ds chunk origin × AllFit origin
has_origin_in_cover ds b cover chains is_box some is chunk within =
    let (index, box, inside) = (cover_meets ds b cover chains is_box some is chunk).0 within in
    has_origin ds chunk index box (inside_fits b.start b.shape index is_box.fits inside)
