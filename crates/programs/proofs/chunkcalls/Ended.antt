-- The answers to lines that are ended, and to what comes behind them.
use Rattle.programs.proofs.chunkcalls.Common.{◌≡◌, ℕ, List, [], ◌∷◌, ◌++◌, append-nil, append_assoc, line_feeds, AreAnswers, AreEndedAnswers}
use Rattle.programs.proofs.chunkcalls.Common.{IsReplyTo, first_line, no_ended, one_ended}

pub ended_one : (line answer : List ℕ) → line_feeds line ≡ 0 → IsReplyTo line answer → AreEndedAnswers (line ++ 10 ∷ []) answer
ended_one line answer unbroken is = rw append-nil at (one_ended line answer [] [] unbroken is no_ended)

module _ (back back_answers : List ℕ) where
  pub ended_more : (lines answers : List ℕ) → AreEndedAnswers lines answers → AreEndedAnswers back back_answers
      → AreEndedAnswers (lines ++ back) (answers ++ back_answers)
  ended_more _ _ no_ended behind = behind
  ended_more _ _ (one_ended line answer others others_answers unbroken is are) behind =
      rw (append_assoc line (10 ∷ others) back, append_assoc answer others_answers back_answers)
      (one_ended line answer (others ++ back) (others_answers ++ back_answers) unbroken is (ended_more others others_answers are behind))

  pub ended_then : (lines answers : List ℕ) → AreEndedAnswers lines answers → AreAnswers back back_answers
      → AreAnswers (lines ++ back) (answers ++ back_answers)
  ended_then _ _ no_ended behind = behind
  ended_then _ _ (one_ended line answer others others_answers unbroken is are) behind =
      rw (append_assoc line (10 ∷ others) back, append_assoc answer others_answers back_answers)
      (first_line line answer (others ++ back) (others_answers ++ back_answers) unbroken is (ended_then others others_answers are behind))
