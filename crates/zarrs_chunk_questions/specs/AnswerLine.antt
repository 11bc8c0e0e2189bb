-- The line that answers a line.
-- Sources: RFC 8259, and JSON Lines; the words are this library's own.
use Rattle.std.specs.Prelude.{◌≡◌, ℕ, ◌<◌, List, ◌++◌, length, codes, IsSome, Ok, Err}
use Rattle.serde_json.specs.Data.{Data}
use Rattle.serde_json.specs.Written.{compact_text}
use Rattle.streams.specs.OneLine.{IsOneLine, line_of}
use Rattle.zarrs_chunk_base.specs.Json.{IsJsonOf}
use Rattle.zarrs_chunk_questions.specs.Answers.{IsAnswer}
use Rattle.zarrs_chunk_questions.specs.Question.{IsReading, Question, items_asked}
use Rattle.zarrs_chunk_questions.specs.Reading.{Fault, not_json, words_of}
use Rattle.zarrs_chunk_questions.specs.Refused.{IsRefusal}
use Rattle.zarrs_chunk_questions.specs.declared.line_fault.LineFault.{LineFault}
use Rattle.zarrs_chunk_questions.specs.declared.line_fault.LineFault.TheVariants.{Unreadable}
use Rattle.zarrs_chunk_questions.specs.seen.Read.{fault_of}

-- what tells that a line can't be read
abbrev pub unreadable : Fault → List ℕ
unreadable fault = codes "unreadable: " ++ words_of fault

-- The text tells the fault; nothing is said of the words of a refusal.
abbrev pub Tells : LineFault → List ℕ → Type 0
Tells (Unreadable fault) text = text ≡ unreadable (fault_of fault)
Tells _ text = (words : List ℕ) × (text ≡ codes "refused: " ++ words)

-- The answer to a line: that it is no JSON; the first fault of its tree; the answer of the question as compact JSON; or why the library refuses.
pub data IsAnswerLine (line answer : List ℕ) : Type 0 where
  no_text : ((d : Data) → ¬ IsJsonOf line d) → answer ≡ line_of (unreadable not_json) → IsAnswerLine line answer
  no_question : (d : Data) (fault : Fault) → IsJsonOf line d → IsReading d (Err fault) → answer ≡ line_of (unreadable fault)
      → IsAnswerLine line answer
  answered : (d : Data) (question : Question) (tree : Data) → IsJsonOf line d → IsReading d (Ok question) → IsAnswer question tree
      → answer ≡ line_of (compact_text tree) → IsAnswerLine line answer
  refused : (d : Data) (question : Question) (fault : LineFault) (text : List ℕ) → IsJsonOf line d → IsReading d (Ok question)
      → IsRefusal question fault → Tells fault text → answer ≡ line_of text → IsAnswerLine line answer

-- the line asks for some items: of a walk or of a plan, or for tasks
abbrev pub AsksForItems : List ℕ → Type 0
AsksForItems line = (d : Data) × (question : Question) × IsJsonOf line d × IsReading d (Ok question) × IsSome (items_asked question)

-- the question of the line has an answer, and the line that says it is longer than so many bytes
abbrev pub HasLongAnswer : (line : List ℕ) (room : ℕ) → Type 0
HasLongAnswer line room =
    (d : Data) × (question : Question) × (tree : Data) × IsJsonOf line d × IsReading d (Ok question) × IsAnswer question tree
    × (room < length (line_of (compact_text tree)))

-- one line, which answers this one
abbrev pub IsAnswerTo : (line answer : List ℕ) → Type 0
IsAnswerTo line answer = IsOneLine answer × IsAnswerLine line answer
