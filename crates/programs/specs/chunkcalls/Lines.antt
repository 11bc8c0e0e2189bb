-- Lines of bytes, and what answers them.
use Rattle.std.specs.Prelude.{◌≡◌, ◌⊎◌, ℕ, ◌+◌, ◌<◌, ◌≤◌, ◌^◌, ◌==◌, ◌||◌, if◌then◌else◌, List, [], ◌∷◌, ◌++◌, codes, length, Option, Some}
use Rattle.streams.specs.OneLine.{IsOneLine, line_feeds}
use Rattle.zarrs_chunk_questions.specs.AnswerLine.{AsksForItems, HasLongAnswer, IsAnswerLine}

-- how many lines there are: each line feed ends one, and so does the last byte
abbrev pub line_count : List ℕ → ℕ
line_count [] = 0
line_count (b ∷ bytes) = (if b == 10 || length bytes == 0 then 1 else 0) + line_count bytes

-- as many lines as the input has, and each of them ends in a line feed
pub record AreLinesFor (input answers : List ℕ) : Type 0 where
  pub lines : line_count answers ≡ line_count input
  pub ended : line_feeds answers ≡ line_count input

-- the writer held some bytes, and now holds a line for each line of the input behind them
abbrev pub HasAnswered : (input held : List ℕ) → Option (List ℕ) → Type 0
HasAnswered input held holds =
    (answers : List ℕ) × AreLinesFor input answers × (holds ≡ Some (held ++ answers))

-- how many bytes a line may have
abbrev pub longest_line : ℕ
longest_line = 2 ^ 24

-- an answer with items is refused only if its line has more bytes than these
abbrev pub room : ℕ
room = 2 ^ 18

-- What is written for a line: that it is too long; that its answer is, which has the items that it asks for; or its answer.
pub data IsReply (line reply : List ℕ) : Type 0 where
  long_line : longest_line < length line → reply ≡ codes "unreadable: line is longer than 16777216 bytes\n" → IsReply line reply
  long_answer : length line ≤ longest_line → AsksForItems line → HasLongAnswer line room
      → reply ≡ codes "refused: answer is too long: ask for fewer `items`, and for the others by `first`\n" → IsReply line reply
  answered : length line ≤ longest_line → IsAnswerLine line reply → IsReply line reply

-- one line, which is written for this one
abbrev pub IsReplyTo : (line reply : List ℕ) → Type 0
IsReplyTo line reply = IsOneLine reply × IsReply line reply

-- The answers to the lines of an input, in order. Where there are no bytes, there is no line; where there are some, but no line feed, they are the
-- last line; else the first line stands before the first line feed, and the others behind it.
pub data AreAnswers : (input answers : List ℕ) → Type 0 where
  no_line : AreAnswers [] []
  last_line : (line answer : List ℕ) → 0 < length line → line_feeds line ≡ 0 → IsReplyTo line answer → AreAnswers line answer
  first_line : (line answer others others_answers : List ℕ) → line_feeds line ≡ 0 → IsReplyTo line answer → AreAnswers others others_answers
      → AreAnswers (line ++ 10 ∷ others) (answer ++ others_answers)

-- The same of lines of which each is ended by a line feed.
pub data AreEndedAnswers : (lines answers : List ℕ) → Type 0 where
  no_ended : AreEndedAnswers [] []
  one_ended : (line answer others others_answers : List ℕ) → line_feeds line ≡ 0 → IsReplyTo line answer → AreEndedAnswers others others_answers
      → AreEndedAnswers (line ++ 10 ∷ others) (answer ++ others_answers)

-- the answers to the first lines of an input: to some that are ended, or to all
pub record AreFirstAnswers (input answers : List ℕ) : Type 0 where
  pub lines : List ℕ
  pub rest : List ℕ
  pub is_input : input ≡ lines ++ rest
  pub are_answers : AreEndedAnswers lines answers ⊎ ((rest ≡ []) × AreAnswers lines answers)

-- the writer held some bytes, and now holds behind them a beginning of the answers to the input's first lines
pub record HasBegunAnswers (input held : List ℕ) (holds : Option (List ℕ)) : Type 0 where
  pub answers : List ℕ
  pub are_first : AreFirstAnswers input answers
  pub written : List ℕ
  pub others : List ℕ
  pub parts : answers ≡ written ++ others
  pub is : holds ≡ Some (held ++ written)

-- Of an input some is left. These are the answers to all lines that ended in what was read.
pub record AreAnswersRead (input : List ℕ) (left : Option (List ℕ)) (answers : List ℕ) : Type 0 where
  pub lines : List ℕ
  pub line : List ℕ
  pub rest : List ℕ
  pub is_input : input ≡ lines ++ (line ++ rest)
  pub unbroken : line_feeds line ≡ 0
  pub is_left : left ≡ Some rest
  pub are_answers : AreEndedAnswers lines answers

-- the writer held some bytes, and now holds these answers after them
abbrev pub HasAnsweredRead : (input held : List ℕ) → (left holds : Option (List ℕ)) → Type 0
HasAnsweredRead input held left holds = (answers : List ℕ) × AreAnswersRead input left answers × (holds ≡ Some (held ++ answers))

-- the writer held some bytes, and now holds the answers to the input's lines behind them
abbrev pub HoldsAnswers : (input held : List ℕ) → Option (List ℕ) → Type 0
HoldsAnswers input held holds = (answers : List ℕ) × AreAnswers input answers × (holds ≡ Some (held ++ answers))
