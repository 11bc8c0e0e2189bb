-- Counting lines.
use Rattle.programs.proofs.chunkcalls.Common.{◌≡◌, ◌≢◌, ℕ, ◌+◌, ◌<◌, List, [], ◌∷◌, ◌++◌, length, refl, length-append, append-nil, append_assoc}
use Rattle.programs.proofs.chunkcalls.Common.{arith, nat_tests, line_feeds, IsOneLine, AreAnswers, AreLinesFor, first_line, last_line, line_count}
use Rattle.programs.proofs.chunkcalls.Common.{no_line}

line_feeds-append : (front back : List ℕ) → line_feeds (front ++ back) ≡ line_feeds front + line_feeds back
line_feeds-append [] back = omega arith
line_feeds-append (b ∷ front) back =
    let rest = line_feeds-append front back in
    omega arith

-- one byte more that is no line feed
pub line_feeds-push : (front : List ℕ) (b : ℕ) → b ≢ 10 → line_feeds front ≡ 0 → line_feeds (front ++ b ∷ []) ≡ 0
line_feeds-push front b other none =
    let sum = line_feeds-append front (b ∷ []) in
    grind (arith, nat_tests)

-- the first line ends in the first line feed
line_count-first : (line rest : List ℕ) → line_feeds line ≡ 0 → line_count (line ++ 10 ∷ rest) ≡ 1 + line_count rest
line_count-first [] rest none = grind (arith, nat_tests)
line_count-first (b ∷ line) rest none =
    let tail : line_feeds line ≡ 0 = omega (arith, none) in
    let also = line_count-first line rest tail in
    let longer = length-append line (10 ∷ rest) in
    grind (arith, nat_tests)

-- a line that no line feed ends
line_count-last : (line : List ℕ) → line_feeds line ≡ 0 → 0 < length line → line_count line ≡ 1
line_count-last [] none some = absurd (omega (arith, some))
line_count-last (b ∷ []) none some = grind (arith, nat_tests)
line_count-last (b ∷ c ∷ line) none some =
    let rest = line_count-last (c ∷ line) (omega (arith, none)) (omega arith) in
    grind (arith, nat_tests)

-- an answer, and what comes behind it
module _ (answer rest : List ℕ) where
  line_count-answer : IsOneLine answer → line_count (answer ++ rest) ≡ 1 + line_count rest
  line_count-answer (text, none, is) = rw (is, append_assoc) (line_count-first text rest none)

  line_feeds-answer : IsOneLine answer → line_feeds (answer ++ rest) ≡ 1 + line_feeds rest
  line_feeds-answer (text, none, is) =
      let sum = line_feeds-append text (10 ∷ rest) in
      rw (is, append_assoc) (omega (arith, sum, none))

-- the answers to the lines of an input are as many lines
pub are_lines_for : (input answers : List ℕ) → AreAnswers input answers → AreLinesFor input answers
are_lines_for _ _ no_line = record { lines = refl; ended = refl }
are_lines_for _ _ (last_line line answer some unbroken is) =
    let one = line_count-last line unbroken some in
    let count : line_count answer ≡ 1 = rw append-nil at (line_count-answer answer [] is.0) in
    let feeds : line_feeds answer ≡ 1 = rw append-nil at (line_feeds-answer answer [] is.0) in
    record { lines = omega (arith, one, count); ended = omega (arith, one, feeds) }
are_lines_for _ _ (first_line line answer others others_answers unbroken is are) =
    let behind = are_lines_for others others_answers are in
    let first = line_count-first line others unbroken in
    let count = line_count-answer answer others_answers is.0 in
    let feeds = line_feeds-answer answer others_answers is.0 in
    let lines = behind.lines in
    let ended = behind.ended in
    record { lines = omega (arith, first, count, lines); ended = omega (arith, first, feeds, ended) }
