-- Keys and other texts one after another.
use Rattle.std.proofs.Common.{◌≡◌, ℕ, ◌+◌, ◌-◌, ◌<◌, ◌≤◌, List, [], ◌++◌, length, drop, take, slice_index_or, slice_set, ⊎_elim, below_more, length-append}
use Rattle.std.proofs.Common.{arith}
use Rattle.std.proofs.lemmas.Bool.{cases_lt}
use Rattle.std.proofs.lemmas.List.{drop-append-le, get_or-set_other, get_or-set_same, length-drop, take-append-le}
use Rattle.std.proofs.Math.Seq.{drop-append_seam, take-length}
use Rattle.zarrs_chunk_batches.specs.Batch.{AreTexts, text_at}

module _ (IsText : ℕ → List ℕ → Type 0) where
  -- no text yet
  pub no_texts : (offsets : List ℕ) → 0 < length offsets → AreTexts IsText 0 [] (slice_set offsets 0 0)
  no_texts offsets some =
      let zero = get_or-set_same offsets 0 0 0 some in
      record {
        first = zero;
        last = zero;
        within = λ number le. let same : number ≡ 0 = omega arith in rw (same, zero) (omega arith);
        texts = λ number less. absurd (omega arith);
      }

  -- a part of a text stays where more is appended
  part_stays : (text more : List ℕ) (start end : ℕ) → start ≤ length text → end ≤ length text
      → take (end - start) (drop start (text ++ more)) ≡ take (end - start) (drop start text)
  part_stays text more start end from to =
      let rest = length-drop start text in
      rw (drop-append-le start text more from) (take-append-le (end - start) (drop start text) more (omega arith))

  module _ (text offsets added : List ℕ) (count : ℕ) (before : AreTexts IsText count text offsets) (room : count + 1 < length offsets)
      (is_text : IsText count added) where
    abbrev longer : List ℕ
    longer = text ++ added

    abbrev after : List ℕ
    after = slice_set offsets (count + 1) (length longer)

    long : length longer ≡ length text + length added
    long = length-append text added

    own : slice_index_or after (count + 1) 0 ≡ length longer
    own = get_or-set_same offsets (count + 1) (length longer) 0 room

    same : (number : ℕ) → number ≤ count → slice_index_or after number 0 ≡ slice_index_or offsets number 0
    same number le = get_or-set_other offsets (count + 1) number (length longer) 0 (λ at. absurd (omega arith))

    earlier : (number : ℕ) → number < count → IsText number (text_at longer after number)
    earlier number less =
        rw (
          same number (omega arith),
          same (number + 1) (omega arith),
          part_stays text added (slice_index_or offsets number 0) (slice_index_or offsets (number + 1) 0) (before.within number (omega arith))
              (before.within (number + 1) (omega arith)),
        )
        (before.texts number less)

    last_text : text_at longer after count ≡ added
    last_text =
        let length_is : length text + length added - length text ≡ length added = omega arith in
        rw (same count (omega arith), own, before.last, long, length_is, drop-append_seam text added) (take-length added)

    -- one text more
    pub one_text_more : AreTexts IsText (count + 1) longer after
    one_text_more = record {
      first = let is = same 0 (omega arith) in rw is before.first;
      last = own;
      within = λ number le.
          ⊎_elim
          (λ below. let is = same number (omega arith) in let bound = before.within number (omega arith) in omega (arith, long))
          (λ (at : count + 1 ≤ number). let is : number ≡ count + 1 = omega arith in rw (is, own) (omega arith))
          (cases_lt number (count + 1));
      texts = below_more (λ number. IsText number (text_at longer after number)) count earlier (rw last_text is_text);
    }
