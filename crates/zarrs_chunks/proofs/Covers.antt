-- The box of the chunks from that of a box's first element to that of its last.
use Rattle.std.proofs.Common.{◌≡◌, ℕ, zero, suc, ◌+◌, ◌-◌, ◌<◌, ◌≤◌, List, [], ◌∷◌, length, map, replicate, Option, Some, None, MatchOption, Ok, Err}
use Rattle.std.proofs.Common.{refl, ap, ap₂, ◌∙◌, ⊎_elim, arith, Result}
use Rattle.std.specs.Prelude.{MatchResult}
use Rattle.std.specs.Result.{result_ok}
use Rattle.std.proofs.lemmas.Bool.{cases_lt}
use Rattle.std.specs.List.{AllByRecursion, AllZip, Contains}
use Rattle.zarrs_chunk_base.specs.declared.incompatible_dimensionality_error.IncompatibleDimensionalityError.{IncompatibleDimensionalityError}
use Rattle.zarrs_chunk_base.specs.declared.refusal.Refusal.{Refusal}
use Rattle.zarrs_chunk_base.specs.declared.refusal.Refusal.TheVariants.{Refused, Memory}
use Rattle.zarrs_chunk_axes.specs.LookUp.{AnswersChunk, AreOverBox, counts_between}
use Rattle.zarrs_chunk_base.specs.ArraySubset.{Box, IsBox, IsEmptyBox, ends, lasts}
use Rattle.zarrs_chunk_base.specs.ArraySubsetError.{IsBoxFault}
use Rattle.zarrs_chunk_base.specs.declared.array_subset_error.ArraySubsetError.{ArraySubsetError}
use Rattle.zarrs_chunk_base.specs.Dimension.{Dimension, Holds, IsChain, InBox, IsOrigin, StartsAt}
use Rattle.zarrs_chunk_base.proofs.InEach.{along, by_dimension, by_dimension_twice, turned}
use Rattle.zarrs_chunk_base.specs.Greatest.{greatest, AllFit}
use Rattle.zarrs_chunks.specs.Subsets.{AnswersCover, IsCover}
use Rattle.zarrs_chunks.proofs.UpTo.{after_ones, made_up_to, ones_fit}
use Rattle.zarrs_chunks.proofs.Chains.{at_most_start, in_chain, no_later}

-- no range ends before it starts
pub firsts_before_lasts : (start shape : List ℕ) → length start ≡ length shape → AllZip ◌≤◌ start (lasts start shape)
firsts_before_lasts [] [] same = tt
firsts_before_lasts (s ∷ start) (n ∷ shape) same = (omega arith, firsts_before_lasts start shape (omega arith))
firsts_before_lasts _ _ same = absurd (omega arith)

-- chunks start before later ones, or with them
pub starts_in_order : (ds : List Dimension) (first last origin last_origin : List ℕ) → AllByRecursion IsChain ds → AllZip ◌≤◌ first last
    → IsOrigin ds first origin → IsOrigin ds last last_origin → AllZip ◌≤◌ origin last_origin
starts_in_order ds first last origin last_origin chains order starts last_starts =
    by_dimension_twice (λ d l o. (f : ℕ) × (f ≤ l) × StartsAt d f o) StartsAt
    (λ ds last origin others. AllByRecursion IsChain ds → AllZip ◌≤◌ origin others) (λ chains. tt)
    (λ d l o e ds last origin others (f, order, starts) later rest chains.
    let (before, _) = in_chain d chains.0 f l order later.chunk in
    let start = starts.start in
    let last = later.start in
    (omega arith, rest chains.1))
    ds last origin last_origin (along StartsAt ◌≤◌ ds first origin starts last order) last_starts chains

-- a later index lies in no earlier chunk
pub in_order : (ds : List Dimension) (first last low high : List ℕ) → AllByRecursion IsChain ds → AllZip ◌≤◌ low high
    → InBox ds first low → InBox ds last high → AllZip ◌≤◌ first last
in_order ds first last low high chains order f l =
    by_dimension_twice (λ d j a. (i : ℕ) × (i ≤ j) × Holds d a i) (λ d j b. Holds d b j)
    (λ ds high first last. AllByRecursion IsChain ds → AllZip ◌≤◌ first last) (λ chains. tt)
    (λ d j a b ds indices first last (i, order, low) high rest chains. (no_later d chains.0 a b i j order low high, rest chains.1))
    ds high first last (along (λ d i c. Holds d c i) ◌≤◌ ds low first (turned Holds ds first low f) high order) (turned Holds ds last high l) chains

-- a list without a 0 begins with none
pub head_some : (n : ℕ) (shape : List ℕ) → (¬ Contains (n ∷ shape) 0) → 0 < n
head_some n shape some =
    ⊎_elim (λ (below : 0 < n). below) (λ (none : n ≤ 0). let is : n ≡ 0 = omega arith in absurd (some (0, omega arith, is))) (cases_lt 0 n)

pub tail_some : (n : ℕ) (shape : List ℕ) → (¬ Contains (n ∷ shape) 0) → ¬ Contains shape 0
tail_some n shape some (k, within, is) = some (suc k, omega arith, is)

-- the last numbers of a box are below its ends, which fit
pub lasts_small : (start shape : List ℕ) → length start ≡ length shape → AllFit (ends start shape) → (¬ Contains shape 0)
    → AllByRecursion (λ n. n < greatest) (lasts start shape)
lasts_small [] [] same fit some = tt
lasts_small (s ∷ start) (n ∷ shape) same fit some =
    let any : 0 < n = head_some n shape some in
    let end : s + n ≤ greatest = fit.0 in
    (omega arith, lasts_small start shape (omega arith) fit.1 (tail_some n shape some))
lasts_small _ _ same fit some = absurd (omega arith)

-- what holds of a number and of each that is at most that holds of the numbers of a chunk that holds an index, if it holds of the index
pub chunks_small : (P : ℕ → Type 0) → ((m n : ℕ) → m ≤ n → P n → P m) → (ds : List Dimension) (chunk index : List ℕ)
    → AllByRecursion IsChain ds → InBox ds chunk index → AllByRecursion P index → AllByRecursion P chunk
chunks_small P lower ds chunk index chains box small =
    by_dimension Holds (λ ds chunk index. AllByRecursion IsChain ds → AllByRecursion P index → AllByRecursion P chunk) (λ chains small. tt)
    (λ d c i ds chunk index here rest chains small.
    let low : c ≤ d.start c = at_most_start d chains.0 c here.chunk in
    let from = here.from in
    (lower c i (omega arith) small.0, rest chains.1 small.1))
    ds chunk index box chains small

-- what ends after the last numbers has them as its last numbers
pub lasts_are : (start shape last : List ℕ) → length start ≡ length shape → AllZip ◌≤◌ start last → ends start shape ≡ map (λ n. n + 1) last
    → (lasts start shape ≡ last) × (¬ Contains shape 0)
lasts_are [] [] [] same order end = (refl, λ (k, within, is). absurd (omega arith))
lasts_are (s ∷ start) (n ∷ shape) (l ∷ last) same order end =
    let here : s + n ≡ l + 1 = cc in
    let others : ends start shape ≡ map (λ n. n + 1) last = cc in
    let le : s ≤ l = order.0 in
    let (rest, some) = lasts_are start shape last (omega arith) order.1 others in
    let first : s + (n - 1) ≡ l = omega arith in
    (cc, not_here here le some) where
      not_here : s + n ≡ l + 1 → s ≤ l → (¬ Contains shape 0) → ¬ Contains (n ∷ shape) 0
      not_here here le some (zero, within, is) = absurd (omega arith)
      not_here here le some (suc k, within, is) = some (k, omega arith, is)
lasts_are [] [] (_ ∷ _) same order end = absurd order
lasts_are (_ ∷ _) (_ ∷ _) [] same order end = absurd order
lasts_are _ _ _ same order end = absurd (omega arith)

pub is_cover : (ds : List Dimension) (b cover : Box) (first last : List ℕ) → IsBox cover → cover.start ≡ first
    → ends cover.start cover.shape ≡ map (λ n. n + 1) last → AllZip ◌≤◌ first last
    → InBox ds first b.start → InBox ds last (lasts b.start b.shape) → IsCover ds b cover
is_cover ds b cover first last is_box starts end order in_first in_last =
    let (lasts_is, some) = lasts_are cover.start cover.shape last is_box.lengths (rw starts order) end in
    record { is_box = is_box; some = some; first = rw starts in_first; last = rw lasts_is in_last }

-- a box of no dimensions isn't empty
pub none_is_not_empty : (b : Box) → IsBox b → length b.start ≡ 0 → ¬ IsEmptyBox b
none_is_not_empty b is_box none (k, within, is) = let same = is_box.lengths in absurd (omega arith)

-- the cover from the first chunk to the last one, or none, which can't be where the chunks are small
pub covers : (ds : List Dimension) (b : Box) (first last sizes : List ℕ) (made : Option Box) → length b.start ≡ length ds → AllZip ◌≤◌ first last
    → AllByRecursion (λ n. n < greatest) last → sizes ≡ replicate (length last) 1 → InBox ds first b.start → InBox ds last (lasts b.start b.shape)
    → MatchOption made (¬ AllFit (ends last sizes)) (λ cover. IsBox cover × (cover.start ≡ first) × (ends cover.start cover.shape ≡ ends last sizes))
    → AnswersCover ds b (Ok made)
covers ds b first last sizes (Some cover) agree order small ones in_first in_last (is_box, starts, end) =
    (agree, is_cover ds b cover first last is_box starts (end ∙ ap (ends last) ones ∙ after_ones last) order in_first in_last)
covers ds b first last sizes None agree order small ones in_first in_last past =
    absurd (past (rw (ones, after_ones last) (ones_fit last small)))

-- the last element's chunk is refused for memory alone
pub cover_refused : (ds : List Dimension) (end : List ℕ) (b : Box) (refusal : Refusal IncompatibleDimensionalityError)
    → length end ≡ length ds → length b.start ≡ length ds → AnswersChunk ds end (Err refusal) → AnswersCover ds b (Err refusal)
cover_refused ds end b (Refused e) same agree refused = absurd (refused.0 same)
cover_refused ds end b (Memory e) same agree refused = (agree, tt)

-- counted from the first chunks, the counts end with the last chunks
between_reaches : (firsts last : List ℕ) → AllZip ◌≤◌ firsts last
    → (length (counts_between firsts last) ≡ length firsts) × (ends firsts (counts_between firsts last) ≡ ends last (replicate (length last) 1))
between_reaches [] [] order = (refl, refl)
between_reaches (f ∷ firsts) (l ∷ last) order =
    let (same, rest) = between_reaches firsts last order.1 in
    let le : f ≤ l = order.0 in
    let here : f + (l - f + 1) ≡ l + 1 = omega arith in
    (ap suc same, ap₂ (λ n ns. n ∷ ns) here rest)
between_reaches [] (_ ∷ _) order = absurd order
between_reaches (_ ∷ _) [] order = absurd order

-- the chunks over a box are its cover
pub over_box_covers : (ds : List Dimension) (b : Box) (firsts counts : List ℕ) (made : Result Box ArraySubsetError) → AllByRecursion IsChain ds → IsBox b
    → (¬ IsEmptyBox b) → length b.start ≡ length ds → AreOverBox ds b firsts counts
    → MatchResult made (λ cover. (cover ≡ record { start = firsts; shape = counts }) × IsBox cover) (IsBoxFault firsts counts)
    → AnswersCover ds b (Ok (result_ok made))
over_box_covers ds b firsts counts made chains is_box some agree over h =
    let order = in_order ds firsts over.last_chunk b.start (lasts b.start b.shape) chains (firsts_before_lasts b.start b.shape is_box.lengths) over.first over.last in
    let small = chunks_small (λ n. n < greatest) (λ m n low below. omega arith) ds over.last_chunk (lasts b.start b.shape) chains over.last
    (lasts_small b.start b.shape is_box.lengths is_box.fits some) in
    let counted : counts ≡ counts_between firsts over.last_chunk = over.counted small in
    let (same, reach) = between_reaches firsts over.last_chunk order in
    covers ds b firsts over.last_chunk (replicate (length over.last_chunk) 1) (result_ok made) agree order small refl over.first over.last
    (made_up_to firsts counts over.last_chunk (replicate (length over.last_chunk) 1) made (rw counted same) (rw counted reach) h)
