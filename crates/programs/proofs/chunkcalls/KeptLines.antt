-- What is kept of a line.
use Rattle.programs.proofs.chunkcalls.Common.{◌≡◌, ◌≢◌, ◌∙◌, ℕ, suc, ◌+◌, ◌<◌, ◌≤◌, List, [], ◌∷◌, ◌++◌, ap, length, length-append, min, refl, subst}
use Rattle.programs.proofs.chunkcalls.Common.{sym, ⊎_elim, take_all, arith, length-take, take-append-le, IsReply, IsReplyTo, answered, long_answer}
use Rattle.programs.proofs.chunkcalls.Common.{long_line, longest_line, IsBegun, kept}
use Rattle.std.proofs.lemmas.Bool.{cases_lt}
use Rattle.programs.proofs.chunkcalls.Counts.{line_feeds-push}

pub nothing_begun : IsBegun [] []
nothing_begun = record { unbroken = refl; is_kept = refl }

-- of a line that isn't too long all is kept
all_kept : (line : List ℕ) → length line ≤ longest_line → kept line ≡ line
all_kept line few = take_all (suc longest_line) line (omega arith)

kept_long : (line : List ℕ) → length (kept line) ≡ min (suc longest_line) (length line)
kept_long line = length-take (suc longest_line) line

-- how many bytes are kept
pub kept_bytes : (line held : List ℕ) → IsBegun line held → length held ≡ min (suc longest_line) (length line)
kept_bytes line held begun = ap length begun.is_kept ∙ kept_long line

module _ (line held : List ℕ) (b : ℕ) (other : b ≢ 10) (begun : IsBegun line held) where
  -- one byte more of a line that isn't too long yet
  pub one_kept : (more : List ℕ) → more ≡ held ++ b ∷ [] → length held ≤ longest_line → IsBegun (line ++ b ∷ []) more
  one_kept more is few =
      let counted = kept_bytes line held begun in
      let few_all : length line ≤ longest_line = omega arith in
      let longer : length (line ++ b ∷ []) ≡ length line + 1 = length-append line (b ∷ []) in
      let whole : kept (line ++ b ∷ []) ≡ line ++ b ∷ [] = take_all (suc longest_line) (line ++ b ∷ []) (omega arith) in
      record {
        unbroken = line_feeds-push line b other begun.unbroken;
        is_kept = is ∙ ap (λ front. front ++ b ∷ []) (begun.is_kept ∙ all_kept line few_all) ∙ sym whole;
      }

  -- and of one that is
  pub none_kept : longest_line < length held → IsBegun (line ++ b ∷ []) held
  none_kept many =
      let counted = kept_bytes line held begun in
      record {
        unbroken = line_feeds-push line b other begun.unbroken;
        is_kept = begun.is_kept ∙ sym (take-append-le (suc longest_line) line (b ∷ []) (omega arith));
      }

-- what is written for a line is found by what is kept of it
pub of_whole : (line held reply : List ℕ) → held ≡ kept line → IsReplyTo held reply → IsReplyTo line reply
of_whole line held reply is (one, replies) = (one, ⊎_elim long short (cases_lt longest_line (length line)))
  where
    counted : length held ≡ min (suc longest_line) (length line)
    counted = ap length is ∙ kept_long line

    of_long : longest_line < length line → IsReply held reply → IsReply line reply
    of_long many (long_line _ same) = long_line many same
    of_long many (long_answer few _ _ _) = let n = counted in absurd (omega arith)
    of_long many (answered few _) = let n = counted in absurd (omega arith)

    long : longest_line < length line → IsReply line reply
    long many = of_long many replies

    short : length line ≤ longest_line → IsReply line reply
    short few = subst (λ xs. IsReply xs reply) (is ∙ all_kept line few) replies
