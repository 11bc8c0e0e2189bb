-- The box of a chunk, from its origin and its shape.
use Rattle.std.proofs.Common.{◌≡◌, ℕ, zero, suc, ◌+◌, ◌<◌, ◌≤◌, List, [], ◌∷◌, length, Option, Some, None, MatchOption, Result, Ok, Err, inr, sym}
use Rattle.std.proofs.Common.{subst, ◌∙◌, arith}
use Rattle.std.specs.Prelude.{slice_index, MatchResult}
use Rattle.std.specs.Result.{result_ok}
use Rattle.zarrs_chunk_base.specs.declared.array_subset_error.ArraySubsetError.{ArraySubsetError}
use Rattle.zarrs_chunk_base.specs.declared.array_subset_error.ArraySubsetError.TheVariants.{Lengths, End}
use Rattle.zarrs_chunk_base.specs.declared.incompatible_dimensionality_error.IncompatibleDimensionalityError.{IncompatibleDimensionalityError}
use Rattle.zarrs_chunk_base.specs.declared.refusal.Refusal.{Refusal}
use Rattle.zarrs_chunk_base.specs.declared.refusal.Refusal.TheVariants.{Refused, Memory}
use Rattle.zarrs_chunk_base.specs.ArraySubset.{Box, IsBox, IsEmptyBox, ends, lasts}
use Rattle.zarrs_chunk_base.specs.ArraySubsetError.{IsBoxFault}
use Rattle.zarrs_chunk_base.specs.Dimension.{Dimension, EndsAt, IsChunk, IsEnd, IsOrigin, IsShape, HasEdge, StartsAt}
use Rattle.zarrs_chunk_base.specs.Greatest.{greatest, AllFit}
use Rattle.zarrs_chunk_axes.specs.LookUp.{AnswersOrigin, AreRanges}
use Rattle.zarrs_chunks.specs.Subsets.{AnswersChunksSubset, AnswersSubset, HasNoBox}
use Rattle.zarrs_chunk_base.proofs.InEach.{by_dimension, by_dimension_twice, length_values, same_values}

-- no start is past an end
pub starts_fit : (start shape : List ℕ) → length start ≡ length shape → AllFit (ends start shape) → AllFit start
starts_fit [] [] same fit = tt
starts_fit (s ∷ start) (n ∷ shape) same fit = (let here : s + n ≤ greatest = fit.0 in omega arith, starts_fit start shape (omega arith) fit.1)
starts_fit _ _ same fit = absurd (omega arith)

-- what starts somewhere is a chunk
pub is_chunk : (ds : List Dimension) (chunk origin : List ℕ) → IsOrigin ds chunk origin → IsChunk ds chunk
is_chunk = by_dimension StartsAt (λ ds chunk origin. IsChunk ds chunk) tt (λ d c o ds chunk origin here rest. (here.chunk, rest))

-- a chunk ends as far behind its start as it is long
pub is_end : (ds : List Dimension) (chunk origin shape : List ℕ) → IsOrigin ds chunk origin → IsShape ds chunk shape
    → IsEnd ds chunk (ends origin shape)
is_end =
    by_dimension_twice StartsAt HasEdge (λ ds chunk origin shape. IsEnd ds chunk (ends origin shape)) tt
    (λ d c o s ds chunk origin shape starts long rest.
    let start = starts.start in
    let end = long.edge in
    (record { chunk = starts.chunk; end = omega arith }, rest))

-- a chunk without an origin that fits has no box
pub no_origin : (ds : List Dimension) (chunk : List ℕ) → ((origin : List ℕ) → IsOrigin ds chunk origin → ¬ AllFit origin) → HasNoBox ds chunk
no_origin ds chunk none b spans = none b.start spans.start (starts_fit b.start b.shape spans.is_box.lengths spans.is_box.fits)

-- what is no chunk has no box
pub no_chunk : (ds : List Dimension) (chunk : List ℕ) → (¬ IsChunk ds chunk) → HasNoBox ds chunk
no_chunk ds chunk none b spans = none (is_chunk ds chunk b.start spans.start)

-- a chunk is as long as from its start to its end
pub is_shape : (ds : List Dimension) (chunk origin shape : List ℕ) → length origin ≡ length shape → IsOrigin ds chunk origin
    → IsEnd ds chunk (ends origin shape) → IsShape ds chunk shape
is_shape [] [] [] [] same starts ended = tt
is_shape (d ∷ ds) (c ∷ chunk) (o ∷ origin) (s ∷ shape) same starts ended =
    let start = starts.0.start in
    let end = ended.0.end in
    (record { chunk = starts.0.chunk; edge = omega arith }, is_shape ds chunk origin shape (omega arith) starts.1 ended.1)
is_shape [] [] [] (_ ∷ _) same starts ended = absurd (omega arith)
is_shape _ _ (_ ∷ _) [] same starts ended = absurd (omega arith)
is_shape (_ ∷ _) (_ ∷ _) [] _ same starts ended = absurd starts
is_shape (_ ∷ _) [] _ _ same starts ended = absurd starts
is_shape [] (_ ∷ _) _ _ same starts ended = absurd starts
is_shape [] [] (_ ∷ _) _ same starts ended = absurd starts

-- without ranges that end at the greatest number or before there is no box
pub no_ranges : (ds : List Dimension) (chunk : List ℕ) → ((starts sizes : List ℕ) → ¬ AreRanges ds chunk starts sizes) → HasNoBox ds chunk
no_ranges ds chunk none b spans =
    none b.start b.shape
    (record { origin = spans.start; shape = is_shape ds chunk b.start b.shape spans.is_box.lengths spans.start spans.end; fits = spans.is_box.fits })

-- a chunk has one end
pub same_end : (ds : List Dimension) (chunk xs ys : List ℕ) → IsEnd ds chunk xs → IsEnd ds chunk ys → xs ≡ ys
same_end = same_values EndsAt (λ d c x y first second. sym first.end ∙ second.end)

-- no number of a list that fits is past the greatest
pub fits_at : (xs : List ℕ) (k : ℕ) → AllFit xs → k < length xs → slice_index xs k ≤ greatest
fits_at [] k fit within = absurd (omega arith)
fits_at (x ∷ xs) zero fit within = fit.0
fits_at (x ∷ xs) (suc k) fit within = fits_at xs k fit.1 (omega arith)

-- a chunk's origin and shape make its box, or it has none
pub makes_box : (ds : List Dimension) (chunk origin shape : List ℕ) (made : Result Box ArraySubsetError) → length chunk ≡ length ds
    → IsOrigin ds chunk origin → IsShape ds chunk shape
    → MatchResult made (λ b. (b ≡ record { start = origin; shape = shape }) × IsBox b) (IsBoxFault origin shape)
    → AnswersSubset ds chunk (Ok (result_ok made))
makes_box ds chunk origin shape (Ok b) same is edge h = (
  same,
  record {
    is_box = h.1;
    start = rw h.0 is;
    end = rw h.0 (is_end ds chunk origin shape is edge);
  },
)
makes_box ds chunk origin shape (Err (Lengths e)) same is edge h =
    absurd (h.0 (length_values HasEdge ds chunk shape edge ∙ sym (length_values StartsAt ds chunk origin is)))
makes_box ds chunk origin shape (Err (End e)) same is edge h = (
  same,
  λ b spans.
      let ended : ends b.start b.shape ≡ ends origin shape = same_end ds chunk _ _ spans.end (is_end ds chunk origin shape is edge) in
      let fit = fits_at (ends origin shape) e.dimension (subst AllFit ended spans.is_box.fits) h.1.counted in
      let past = h.1.past in
      absurd (omega arith),
)

-- the last chunk's origin is refused for memory alone
pub last_refused : (ds : List Dimension) (last : List ℕ) (chunks : Box) (refusal : Refusal IncompatibleDimensionalityError)
    → length last ≡ length ds → length chunks.start ≡ length ds → AnswersOrigin ds last (Err refusal) → AnswersChunksSubset ds chunks (Err refusal)
last_refused ds last chunks (Refused e) same agree refused = absurd (refused.0 same)
last_refused ds last chunks (Memory e) same agree refused = (agree, tt)

-- a chunk whose end is past the greatest number has no box
pub no_end : (ds : List Dimension) (chunk origin shape : List ℕ) → IsOrigin ds chunk origin → IsShape ds chunk shape
    → ¬ AllFit (ends origin shape) → HasNoBox ds chunk
no_end ds chunk origin shape starts long past b spans =
    past (subst AllFit (same_end ds chunk _ _ spans.end (is_end ds chunk origin shape starts long)) spans.is_box.fits)

-- a box from where the first chunk starts to where the last one ends, or none where the last one has no box
pub spans_or_none : (ds : List Dimension) (first last start origin shape : List ℕ) (chunks : Box) (made : Option Box)
    → length chunks.start ≡ length ds
    → (¬ IsEmptyBox chunks) → chunks.start ≡ first → lasts chunks.start chunks.shape ≡ last → IsOrigin ds first start
    → IsOrigin ds last origin → IsShape ds last shape
    → MatchOption made (¬ AllFit (ends origin shape)) (λ b. IsBox b × (b.start ≡ start) × (ends b.start b.shape ≡ ends origin shape))
    → AnswersChunksSubset ds chunks (Ok made)
spans_or_none ds first last start origin shape chunks (Some b) agree some is_first is_last starts last_starts long (is_box, at, end) = (
  agree,
  (
    λ empty. absurd (some empty),
    λ _. record {
      is_box = is_box;
      start = rw (is_first, at) starts;
      end = rw (is_last, end) (is_end ds last origin shape last_starts long);
    },
  ),
)
spans_or_none ds first last start origin shape chunks None agree some is_first is_last starts last_starts long past =
    (agree, (some, inr (rw is_last (no_end ds last origin shape last_starts long past))))
