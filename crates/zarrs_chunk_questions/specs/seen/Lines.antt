-- What the steps leave that make a line.
use Rattle.std.specs.Prelude.{◌≡◌, ◌⊎◌, ℕ, ◌≤◌, IsSome, List, length, Option, Some, None, Result, Ok, Err, false}
use Rattle.serde_json.specs.Data.{Data}
use Rattle.serde_json.specs.View.{view}
use Rattle.serde_json.specs.Written.{compact_text, has_float}
use Rattle.serde_json.specs.declared.value.Value.{Value}
use Rattle.zarrs_chunk_base.specs.Json.{IsJsonOf}
use Rattle.zarrs_chunk_base.specs.declared.refusal.Refusal.{Refusal}
use Rattle.zarrs_chunk_base.specs.declared.refusal.Refusal.TheVariants.{Refused, Memory}
use Rattle.zarrs_chunk_questions.specs.AnswerLine.{Tells}
use Rattle.zarrs_chunk_questions.specs.Answers.{IsAnswer}
use Rattle.zarrs_chunk_questions.specs.Question.{IsReading, Question, items_asked}
use Rattle.zarrs_chunk_questions.specs.Reading.{Fault, not_json}
use Rattle.zarrs_chunk_questions.specs.Refused.{IsRefusal}
use Rattle.zarrs_chunk_questions.specs.declared.line_fault.LineFault.{LineFault}
use Rattle.zarrs_chunk_questions.specs.declared.line_fault.LineFault.TheVariants.{Unreadable as UnreadableFault}
use Rattle.zarrs_chunk_questions.specs.declared.unreadable.Unreadable.{Unreadable}
use Rattle.zarrs_chunk_questions.specs.seen.Read.{fault_of}

-- the fault is that the line can't be read, and why
abbrev pub IsUnreadableAs : LineFault → Fault → Type 0
IsUnreadableAs fault why = (told : Unreadable) × (fault ≡ UnreadableFault told) × (fault_of told ≡ why)

-- the tree of an answer; or none, where the text of one has so many bytes, or more
abbrev pub IsGiven : (bytes : ℕ) → (Data → Type 0) → Option Value → Type 0
IsGiven bytes Answers (Some tree) = Answers (view tree)
IsGiven bytes Answers None = (tree : Data) × Answers tree × (bytes ≤ length (compact_text tree))

-- the answer of a tree
abbrev pub IsTreeAnswer : Data → Data → Type 0
IsTreeAnswer d tree = (question : Question) × IsReading d (Ok question) × IsAnswer question tree

-- the tree asks for some items
abbrev pub TreeAsksForItems : Data → Type 0
TreeAsksForItems d = (question : Question) × IsReading d (Ok question) × IsSome (items_asked question)

-- why a tree has no answer
abbrev pub IsQuestionFault : Data → LineFault → Type 0
IsQuestionFault d fault =
    ((why : Fault) × IsReading d (Err why) × IsUnreadableAs fault why)
    ⊎ ((question : Question) × IsReading d (Ok question) × IsRefusal question fault)

-- the answer of a line, as a tree
abbrev pub IsLineAnswer : List ℕ → Data → Type 0
IsLineAnswer line tree = (d : Data) × IsJsonOf line d × IsTreeAnswer d tree

-- why a line has no answer
abbrev pub IsLineFault : List ℕ → LineFault → Type 0
IsLineFault line fault =
    (((d : Data) → ¬ IsJsonOf line d) × IsUnreadableAs fault not_json) ⊎ ((d : Data) × IsJsonOf line d × IsQuestionFault d fault)

-- the text of an answer, or of why there is none
abbrev pub IsAnswerText : Result Value (Refusal LineFault) → List ℕ → Type 0
IsAnswerText (Ok tree) text = has_float (view tree) ≡ false → text ≡ compact_text (view tree)
IsAnswerText (Err (Refused fault)) text = Tells fault text
IsAnswerText (Err (Memory _)) text = ⊥
