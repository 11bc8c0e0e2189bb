-- The cover from a first chunk to a last one, as how many chunks there are.
use Rattle.std.proofs.Common.{◌≡◌, ◌∙◌, ℕ, suc, ◌+◌, ◌-◌, ◌<◌, ◌≤◌, List, [], ◌∷◌, ap₂, arith, get_or, length, map, refl, sym}
use Rattle.std.proofs.lemmas.List.Elements.{length_all_zip}
use Rattle.std.specs.List.{AllByRecursion, AllZip}
use Rattle.zarrs_chunk_base.specs.ArraySubset.{Box, IsBox, IsEmptyBox, ends, lasts}
use Rattle.zarrs_chunk_base.specs.Dimension.{Dimension, InBox, IsChain}
use Rattle.zarrs_chunk_base.specs.Greatest.{greatest}
use Rattle.zarrs_chunks.specs.Subsets.{IsCover}
use Rattle.zarrs_chunks.proofs.Covers.{chunks_small, firsts_before_lasts, in_order, is_cover, lasts_small}
use Rattle.zarrs_chunks.proofs.UpTo.{ones_fit}

-- as many from the first one on end after the last one
counted : (first last counts : List ℕ) → AllZip ◌≤◌ first last → AllByRecursion (λ n. n < greatest) last → length counts ≡ length last
    → ((k : ℕ) → k < length first → get_or first k 0 ≤ get_or last k 0 → get_or last k 0 < greatest
    → get_or counts k 0 ≡ get_or last k 0 - get_or first k 0 + 1)
    → ends first counts ≡ map (λ n. n + 1) last
counted [] [] [] order small long each = refl
counted (f ∷ first) (l ∷ last) (n ∷ counts) order small long each =
    let low : f ≤ l = order.0 in
    let count : n ≡ l - f + 1 = each 0 (omega arith) low small.0 in
    let here : f + n ≡ l + 1 = omega arith in
    ap₂ (λ x xs. x ∷ xs) here (counted first last counts order.1 small.1 (omega arith) (λ k less. each (suc k) (omega arith)))
counted [] (_ ∷ _) counts order small long each = absurd order
counted (_ ∷ _) [] counts order small long each = absurd order
counted _ _ _ order small long each = absurd (omega arith)

pub is_counted_cover : (ds : List Dimension) (b : Box) (first last counts : List ℕ) → AllByRecursion IsChain ds → IsBox b → (¬ IsEmptyBox b)
    → InBox ds first b.start → InBox ds last (lasts b.start b.shape) → length counts ≡ length last
    → ((k : ℕ) → k < length first → get_or first k 0 ≤ get_or last k 0 → get_or last k 0 < greatest
    → get_or counts k 0 ≡ get_or last k 0 - get_or first k 0 + 1)
    → IsCover ds b (record { start = first; shape = counts })
is_counted_cover ds b first last counts chains is_box some in_first in_last long each =
    let order = in_order ds first last b.start (lasts b.start b.shape) chains (firsts_before_lasts b.start b.shape is_box.lengths) in_first in_last in
    let numbers = lasts_small b.start b.shape is_box.lengths is_box.fits some in
    let small = chunks_small (λ n. n < greatest) (λ m n low below. omega arith) ds last (lasts b.start b.shape) chains in_last numbers in
    let ended = counted first last counts order small long each in
    is_cover ds b (record { start = first; shape = counts }) first last
    (record { lengths = length_all_zip ◌≤◌ first last order ∙ sym long; fits = rw ended (ones_fit last small) }) refl ended order in_first in_last
