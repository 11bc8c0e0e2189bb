-- The bytes of a line, one after another.
use Rattle.std.proofs.Common.{◌≡◌, ◌≢◌, ◌∙◌, ℕ, ◌+◌, ◌<◌, ◌≤◌, Bool, true, false, eqb, List, Option, Some, None, [], ◌∷◌, ◌++◌, append-nil, append_assoc, ap, arith, cond, eq-eqb}
use Rattle.std.proofs.Common.{length, length-append, ne_eqb, refl, sym}
use Rattle.std.proofs.lemmas.Option.{none-some, same_Some}
use Rattle.std.specs.Io.BufRead.{drop_through, take_through}
use Rattle.streams.specs.declared.lines.Lines.{Lines}
use Rattle.streams.specs.OneLine.{line_feeds}
use Rattle.streams.specs.seen.Lines.{IsNextByte, left, unread}
use Rattle.streams.proofs.OneLines.{line_feeds-append}

module _ (byte : ℕ) (rest : List ℕ) where
  pub line_ends : byte ≡ 10 → (take_through 10 (byte ∷ rest) ≡ byte ∷ []) × (drop_through 10 (byte ∷ rest) ≡ rest)
  line_ends is =
      let hit = eq-eqb byte 10 is in (
        ap (λ b. cond b (byte ∷ []) (byte ∷ take_through 10 rest)) hit,
        ap (λ b. cond b rest (drop_through 10 rest)) hit,
      )

  pub line_goes_on : byte ≢ 10 → (take_through 10 (byte ∷ rest) ≡ byte ∷ take_through 10 rest) × (drop_through 10 (byte ∷ rest) ≡ drop_through 10 rest)
  line_goes_on other =
      let miss = ne_eqb byte 10 other in (
        ap (λ b. cond b (byte ∷ []) (byte ∷ take_through 10 rest)) miss,
        ap (λ b. cond b rest (drop_through 10 rest)) miss,
      )

-- What was taken of a line so far, and what is still to be taken of it and left behind it, is the whole of it. No line feed was taken.
pub record IsPartOfLine (before line : List ℕ) (bytes rest : List ℕ) : Type 0 where
  pub begun : List ℕ
  pub whole : bytes ≡ begun ++ rest
  pub unended : line_feeds begun ≡ 0
  pub line_is : line ≡ before ++ begun
  pub taken : before ++ take_through 10 bytes ≡ line ++ take_through 10 rest
  pub behind : drop_through 10 bytes ≡ drop_through 10 rest
  pub longer : length before ≤ length line

no_line_feed : (byte : ℕ) → byte ≢ 10 → line_feeds (byte ∷ []) ≡ 0
no_line_feed byte other = ap (λ b. cond b 1 0 + 0) (ne_eqb byte 10 other)

module _ (before line bytes : List ℕ) where
  pub one_more_byte : (byte : ℕ) (rest : List ℕ) → byte ≢ 10 → IsPartOfLine before line bytes (byte ∷ rest)
      → IsPartOfLine before (line ++ byte ∷ []) bytes rest
  one_more_byte byte rest other part =
      let more = line_goes_on byte rest other in
      let many = length-append line (byte ∷ []) in
      record {
        begun = part.begun ++ byte ∷ [];
        whole = part.whole ∙ sym (append_assoc part.begun (byte ∷ []) rest);
        unended = line_feeds-append part.begun (byte ∷ []) part.unended (no_line_feed byte other);
        line_is = ap (λ xs. xs ++ byte ∷ []) part.line_is ∙ append_assoc before part.begun (byte ∷ []);
        taken = part.taken ∙ ap (λ xs. line ++ xs) more.0 ∙ sym (append_assoc line (byte ∷ []) (take_through 10 rest));
        behind = part.behind ∙ more.1;
        longer = omega (arith, part.longer);
      }

  pub last_byte : (byte : ℕ) (rest : List ℕ) → byte ≡ 10 → IsPartOfLine before line bytes (byte ∷ rest)
      → (line ++ byte ∷ [] ≡ before ++ take_through 10 bytes) × (rest ≡ drop_through 10 bytes) × (length before < length (line ++ byte ∷ []))
  last_byte byte rest is part =
      let ends = line_ends byte rest is in
      let many = length-append line (byte ∷ []) in
      (sym (part.taken ∙ ap (λ xs. line ++ xs) ends.0), sym (part.behind ∙ ends.1), omega (arith, part.longer))

  pub no_more_bytes : IsPartOfLine before line bytes []
      → (line ≡ before ++ take_through 10 bytes) × ([] ≡ drop_through 10 bytes)
  no_more_bytes part = (sym (part.taken ∙ append-nil line), sym part.behind)

-- nothing is left where there is no next byte
pub at_end : (bytes : List ℕ) (found : Option ℕ) (behind : Option (List ℕ)) → ((byte : ℕ) → found ≢ Some byte) → IsNextByte bytes found behind
    → (bytes ≡ []) × (behind ≡ Some [])
at_end bytes None behind none is = is
at_end bytes (Some byte) behind none is = absurd (none byte refl)

both_at : (ended : Bool) (byte : ℕ) (bytes : List ℕ) → bytes ≡ take_through 10 bytes ++ drop_through 10 bytes
    → byte ∷ bytes ≡ cond ended (byte ∷ []) (byte ∷ take_through 10 bytes) ++ cond ended bytes (drop_through 10 bytes)
both_at true byte bytes both = refl
both_at false byte bytes both = ap (λ xs. byte ∷ xs) both

-- a line and what is behind it are all
pub both_parts : (bytes : List ℕ) → bytes ≡ take_through 10 bytes ++ drop_through 10 bytes
both_parts [] = refl
both_parts (byte ∷ bytes) = both_at (eqb byte 10) byte bytes (both_parts bytes)

-- where nothing is left, the reader is at its end
pub nothing_left : (lines : Lines) (remaining : Option (List ℕ)) → left lines remaining ≡ Some [] → remaining ≡ Some []
nothing_left lines None none = absurd (none-some [] none)
nothing_left lines (Some rest) is = ap Some (last_part (unread lines) rest (same_Some (unread lines ++ rest) [] is))
  where
    last_part : (first rest : List ℕ) → first ++ rest ≡ [] → rest ≡ []
    last_part [] rest is = is
    last_part (x ∷ first) rest is = absurd (omega (arith, ap length is))
