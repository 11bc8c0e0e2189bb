-- A chunk whose box holds an index has an origin, and the index a place behind it.
use Rattle.std.proofs.Common.{◌≡◌, ℕ, suc, ◌-◌, ◌<◌, ◌≤◌, List, [], ◌∷◌, length, get_or, Err, refl, ap₂, arith}
use Rattle.zarrs_chunk_base.specs.declared.incompatible_dimensionality_error.IncompatibleDimensionalityError.{IncompatibleDimensionalityError}
use Rattle.zarrs_chunk_base.specs.declared.refusal.Refusal.{Refusal}
use Rattle.zarrs_chunk_base.specs.declared.refusal.Refusal.TheVariants.{Refused, Memory}
use Rattle.zarrs_chunk_base.specs.Dimension.{Dimension, Holds, InBox, IsOrigin, IsPlace, StartsAt}
use Rattle.zarrs_chunk_base.specs.Greatest.{greatest, AllFit}
use Rattle.zarrs_chunk_base.proofs.InEach.{by_dimension, by_dimension_twice, length_numbers}
use Rattle.zarrs_chunk_axes.specs.LookUp.{AnswersHome, AnswersOrigin}

-- a chunk whose box holds an index that fits has an origin that fits
pub has_origin : (ds : List Dimension) (chunk index : List ℕ) → InBox ds chunk index → AllFit index
    → (origin : List ℕ) × IsOrigin ds chunk origin × AllFit origin
has_origin =
    by_dimension Holds (λ ds chunk index. AllFit index → (origin : List ℕ) × IsOrigin ds chunk origin × AllFit origin) (λ fit. ([], tt, tt))
    (λ d c i ds chunk index here rest fit.
    let (origin, is_origin, fits) = rest fit.1 in
    let low = here.from in
    let most : i ≤ greatest = fit.0 in
    (d.start c ∷ origin, (record { chunk = here.chunk; start = refl }, is_origin), (omega arith, fits)))

-- differences of an index and an origin are its place
abbrev IsBehind : List Dimension → List ℕ → List ℕ → List ℕ → Type 0
IsBehind ds chunk index origin = (place : List ℕ) → length place ≡ length origin
    → ((k : ℕ) → k < length place → get_or place k 0 ≡ get_or index k 0 - get_or origin k 0) → IsPlace ds chunk index place

pub is_place : (ds : List Dimension) (chunk index origin place : List ℕ) → InBox ds chunk index → IsOrigin ds chunk origin
    → length place ≡ length origin
    → ((k : ℕ) → k < length place → get_or place k 0 ≡ get_or index k 0 - get_or origin k 0) → IsPlace ds chunk index place
is_place ds chunk index origin place box is same differ =
    by_dimension_twice Holds StartsAt IsBehind none more ds chunk index origin box is place same differ where
      none : IsBehind [] [] [] []
      none [] same differ = tt
      none (_ ∷ _) same differ = absurd (omega arith)

      more : (d : Dimension) (c i o : ℕ) (ds : List Dimension) (chunk index origin : List ℕ) → Holds d c i → StartsAt d c o
          → IsBehind ds chunk index origin → IsBehind (d ∷ ds) (c ∷ chunk) (i ∷ index) (o ∷ origin)
      more d c i o ds chunk index origin here starts rest [] same differ = absurd (omega arith)
      more d c i o ds chunk index origin here starts rest (p ∷ place) same differ =
          let first : p ≡ i - o = differ 0 (omega arith) in
          let low = here.from in
          let start = starts.start in
          (omega arith, rest place (omega arith) (λ k within. differ (suc k) (omega arith)))

-- the origin of a chunk that holds an index is refused for memory alone
pub home_refused : (ds : List Dimension) (chunk index home_chunk place : List ℕ) (refusal : Refusal IncompatibleDimensionalityError)
    → InBox ds chunk index → AnswersOrigin ds chunk (Err refusal) → length index ≡ length ds → AnswersHome ds index (Err refusal) home_chunk place
home_refused ds chunk index home_chunk place (Refused e) box refused same = absurd (refused.0 (length_numbers Holds ds chunk index box))
home_refused ds chunk index home_chunk place (Memory e) box refused same = (same, refused.1)

-- an index is known by its chunk and its place there
pub same_index : (ds : List Dimension) (chunk one other place : List ℕ) → IsPlace ds chunk one place → IsPlace ds chunk other place → one ≡ other
same_index [] [] [] [] [] first second = refl
same_index (d ∷ ds) (c ∷ chunk) (i ∷ one) (j ∷ other) (p ∷ place) first second =
    let here : i ≡ j = let one_is = first.0 in let other_is = second.0 in omega arith in
    ap₂ (λ x xs. x ∷ xs) here (same_index ds chunk one other place first.1 second.1)
same_index [] [] [] (_ ∷ _) place first second = absurd second
same_index (_ ∷ _) (_ ∷ _) (_ ∷ _) [] (_ ∷ _) first second = absurd second
same_index _ _ _ _ _ first second = absurd first
