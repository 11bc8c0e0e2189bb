-- Parts of a plan that were found, and what is written of them.
use Rattle.std.proofs.Common.{◌≡◌, ◌∙◌, ℕ, zero, suc, ◌+◌, ◌-◌, ◌*◌, ◌<◌, ◌≤◌, List, [], ◌∷◌, Some}
use Rattle.std.proofs.Common.{below_more, drop, get_or, length, min, take, refl, ap, subst, sym, arith, add-mul}
use Rattle.std.proofs.lemmas.List.{drop-drop, get_or-drop, get_or-take, length-drop, length-take}
use Rattle.std.proofs.lemmas.Option.{get_or_from_slice_get}
use Rattle.std.proofs.lemmas.Slice.Zip.{AllZip-long}
use Rattle.std.specs.List.{AllZip, slice_get}
use Rattle.zarrs_chunk_base.specs.ArraySubset.{Box}
use Rattle.zarrs_chunk_base.specs.Dimension.{Dimension}
use Rattle.zarrs_chunks.specs.Walks.{chunks_in}
use Rattle.zarrs_chunk_parts.specs.Plan.{AreShared, IsPart}
use Rattle.zarrs_chunk_plan.specs.SomeParts.{AreSomeParts}
use Rattle.zarrs_chunk_parts.specs.declared.part.Part.{Part}
use Rattle.zarrs_chunk_plan.specs.declared.read.numbered_parts.SomeParts.{SomeParts}
use Rattle.zarrs_chunk_batches.specs.Batch.{AreTexts}
use Rattle.zarrs_chunk_batches.specs.Parts.{AreListsKept, IsPartAt, IsPlanWith}
use Rattle.zarrs_chunk_batches.specs.declared.structs.PartBuffers.{PartBuffers}
use Rattle.zarrs_chunk_batches.specs.seen.Parts.{AreWrittenBelow, IsKeyOf, IsWritten}

-- ---- what is written

-- what lies behind more than what lay behind so much is as it was, too
pub kept_further : (n m : ℕ) (before between after : List ℕ) → n ≤ m → drop n between ≡ drop n before → drop m after ≡ drop m between
    → drop m after ≡ drop m before
kept_further n m before between after less same last =
    let further : n + (m - n) ≡ m = omega arith in
    let split = drop-drop (m - n) n before in
    let also = drop-drop (m - n) n between in
    last ∙ sym (subst (λ k. drop (m - n) (drop n between) ≡ drop k between) further also) ∙ ap (drop (m - n)) same
    ∙ subst (λ k. drop (m - n) (drop n before) ≡ drop k before) further split

-- the lists behind one more part
pub kept_more : (width number : ℕ) (initial before after : PartBuffers) → AreListsKept width number initial before
    → AreListsKept width (number + 1) before after → AreListsKept width (number + 1) initial after
kept_more width number initial before after kept wrote =
    let split = add-mul number 1 width in
    let less : number * width ≤ (number + 1) * width = omega arith in
    record {
      chunks = kept_further _ _ _ _ _ less kept.chunks wrote.chunks;
      in_chunk = kept_further _ _ _ _ _ less kept.in_chunk wrote.in_chunk;
      in_selection = kept_further _ _ _ _ _ less kept.in_selection wrote.in_selection;
      shapes = kept_further _ _ _ _ _ less kept.shapes wrote.shapes;
    }

-- one part more
pub written_more : (width number : ℕ) (parts : List Part) (part : Part) (before after : PartBuffers) → AreWrittenBelow number width parts before
    → part ≡ get_or parts number part → IsWritten width part after number
    → ((k : ℕ) → k < number → (p : Part) → IsWritten width p before k → IsWritten width p after k)
    → AreWrittenBelow (number + 1) width parts after
written_more width number parts part before after are is here earlier =
    below_more (λ k. (p : Part) → slice_get parts k ≡ Some p → IsWritten width p after k) number
    (λ k below p found. earlier k below p (are k below p found))
    (λ p found. subst (λ q. IsWritten width q after number) (is ∙ get_or_from_slice_get parts number p part found) here)

-- ---- what is written of what was found

module _ {X Y : Type 0} (R : X → Y → Type 0) where
  at_place : (xs : List X) (ys : List Y) (k : ℕ) → AllZip R xs ys → k < length ys
      → (x : X) × ((y : Y) × (slice_get xs k ≡ Some x) × (slice_get ys k ≡ Some y) × R x y)
  at_place [] [] k are less = absurd (omega arith)
  at_place (x ∷ xs) (y ∷ ys) zero are less = (x, (y, refl, refl, are.0))
  at_place (x ∷ xs) (y ∷ ys) (suc k) are less = at_place xs ys k are.1 (omega arith)
  at_place [] (_ ∷ _) k are less = absurd are
  at_place (_ ∷ _) [] k are less = absurd are

-- what is taken from a place on, by place
taken_at : (xs : List (List ℕ)) (first count k : ℕ) (x : List ℕ) → k < count → slice_get (take count (drop first xs)) k ≡ Some x
    → get_or xs (first + k) [] ≡ x
taken_at xs first count k x less found =
    sym (get_or-drop first xs k []) ∙ sym (get_or-take count (drop first xs) k [] less)
    ∙ get_or_from_slice_get (take count (drop first xs)) k x [] found

module _ (ds : List Dimension) (IsKey : List ℕ → List ℕ → Type 0) (subset : Box) where
  -- a part, of which these lists are written
  part_at : (chunk : List ℕ) (part : Part) (buffers : PartBuffers) (number : ℕ) → IsPart ds IsKey subset chunk part
      → IsWritten (length ds) part buffers number → IsPartAt ds subset chunk buffers number
  part_at chunk part buffers number is lists =
      let shape : part.in_chunk.shape ≡ part.in_selection.shape = sym is.boxes.from_chunk.shape ∙ is.boxes.from_subset.shape in
      let shared = subst (λ s. AreShared ds subset chunk part.in_chunk (record { start = part.in_selection.start; shape = s })) (sym shape) is.boxes in
      record { numbers = lists.is_chunk ∙ is.numbers; boxes = rw (lists.is_in_chunk, lists.is_in_selection, lists.is_shape) shared }

  module _ (first room : ℕ) (some : SomeParts) (are : AreSomeParts ds IsKey subset first room some.in_all some.parts.items) where
    abbrev pub IsPartOf : List ℕ → Part → Type 0
    IsPartOf = IsPart ds IsKey subset

    abbrev pub parts : List Part
    parts = some.parts.items

    abbrev chunks : List (List ℕ)
    chunks = chunks_in are.cover

    abbrev pub count : ℕ
    count = min (some.in_all - first) room

    abbrev taken : List (List ℕ)
    taken = take count (drop first chunks)

    pub count_is : length parts ≡ count
    count_is =
        let same = AllZip-long IsPartOf taken parts are.are_parts in
        let long = length-take count (drop first chunks) in
        let rest = length-drop first chunks in
        let in_all = are.counted in
        omega arith

    pub all_written : (buffers : PartBuffers) (keys : List ℕ) → buffers.in_all ≡ some.in_all
        → buffers.count ≡ length parts → length buffers.offsets.now - 1 ≡ room → AreWrittenBelow (length parts) (length ds) parts buffers
        → AreTexts (IsKeyOf parts) (length parts) keys buffers.offsets.now → IsPlanWith ds IsKey subset first buffers keys
    all_written buffers keys in_all counted has_room lists texts = record {
      cover = are.cover;
      is_cover = are.is_cover;
      has_in_all = in_all ∙ are.counted;
      has_written = rw (counted, in_all, has_room) count_is;
      parts = λ number less.
          let (chunk, (part, of_chunk, of_part, is)) = at_place IsPartOf taken parts number are.are_parts (omega arith) in
          let among = count_is in
          let at = taken_at chunks first count number chunk (omega arith) of_chunk in
          rw at (part_at chunk part buffers number is (lists number (omega arith) part of_part));
      are_keys = rw counted (record {
        first = texts.first;
        last = texts.last;
        within = texts.within;
        texts = λ number less.
            let (chunk, (part, of_chunk, of_part, is)) = at_place IsPartOf taken parts number are.are_parts less in
            let of_number = lists number less part of_part in
            rw (of_number.is_chunk, is.numbers, texts.texts number less part of_part) is.key;
      });
    }
