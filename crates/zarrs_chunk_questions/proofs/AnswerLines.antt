-- The line that answers a line.
use Rattle.std.proofs.Common.{◌≡◌, ◌∙◌, ℕ, ◌+◌, List, None, Result, Ok, Err, MatchResult, ap, arith, inl, inr, refl}
use Rattle.serde_json.specs.Data.{Data}
use Rattle.serde_json.specs.View.{view}
use Rattle.serde_json.specs.declared.value.Value.{Value}
use Rattle.streams.specs.OneLine.{line_of}
use Rattle.zarrs_chunk_base.specs.Refusal.{OrMemory}
use Rattle.zarrs_chunk_base.specs.declared.refusal.Refusal.{Refusal}
use Rattle.zarrs_chunk_base.specs.declared.refusal.Refusal.TheVariants.{Refused, Memory}
use Rattle.zarrs_chunk_questions.specs.AnswerLine.{HasLongAnswer, IsAnswerLine, Tells, answered, no_question, no_text, refused, unreadable}
use Rattle.zarrs_chunk_questions.specs.Reading.{Fault, Reading}
use Rattle.zarrs_chunk_questions.specs.declared.line_fault.LineFault.{LineFault}
use Rattle.zarrs_chunk_questions.specs.declared.line_fault.LineFault.TheVariants.{Unreadable as UnreadableFault}
use Rattle.zarrs_chunk_questions.specs.declared.unreadable.Unreadable.{Unreadable}
use Rattle.zarrs_chunk_questions.specs.Question.{IsReading, Question}
use Rattle.zarrs_chunk_questions.specs.seen.Read.{fault_of}
use Rattle.serde_json.specs.Written.{compact_text}
use Rattle.zarrs_chunk_questions.proofs.Lengths.{line_long}
use Rattle.zarrs_chunk_questions.proofs.NoFloats.{no_float}
use Rattle.zarrs_chunk_questions.specs.seen.Lines.{IsAnswerText, IsGiven, IsLineAnswer, IsLineFault, IsQuestionFault, IsUnreadableAs}

-- the text of a fault that says why a line can't be read
told_as : (fault : LineFault) (why : Fault) (text : List ℕ) → IsUnreadableAs fault why → Tells fault text → text ≡ unreadable why
told_as fault why text (told, same, is) says =
    let plain : text ≡ unreadable (fault_of told) = rw same at says in
    plain ∙ ap unreadable is

pub is_answer_line : (line answer text : List ℕ) (outcome : Result Value (Refusal LineFault))
    → MatchResult outcome (λ tree. IsLineAnswer line (view tree)) (OrMemory (IsLineFault line)) → IsAnswerText outcome text → answer ≡ line_of text
    → IsAnswerLine line answer
is_answer_line line answer text (Ok tree) (d, is_text, (question, reading, is)) says same =
    answered d question (view tree) is_text reading is (same ∙ ap line_of (says (no_float question (view tree) is)))
is_answer_line line answer text (Err (Refused fault)) (inl (none, why)) says same =
    no_text none (same ∙ ap line_of (told_as fault _ text why says))
is_answer_line line answer text (Err (Refused fault)) (inr (d, is_text, inl (why, reading, is))) says same =
    no_question d why is_text reading (same ∙ ap line_of (told_as fault why text is says))
is_answer_line line answer text (Err (Refused fault)) (inr (d, is_text, inr (question, reading, is))) says same =
    refused d question fault text is_text reading is says same
is_answer_line line answer text (Err (Memory _)) is says same = absurd says

-- an answer that is too long
pub is_long : (line : List ℕ) (room : ℕ) → IsGiven (room + 1) (IsLineAnswer line) None → HasLongAnswer line room
is_long line room (t, (d, is_text, (question, reading, is)), long) =
    let longer = line_long (compact_text t) in (d, question, t, is_text, reading, is, omega arith)

-- the fault that a tree's reading tells
pub is_tree_fault : (d : Data) (fault : Unreadable) (reading : Reading Question) → IsReading d reading → reading ≡ Err (fault_of fault)
    → IsQuestionFault d (UnreadableFault fault)
is_tree_fault d fault reading is_reading same = inl (fault_of fault, rw same at is_reading, (fault, refl, refl))
