-- What is answered of what a look-up finds, and why a question is refused.
use Rattle.std.proofs.Common.{◌≡◌, ℕ, Option, Result, Ok, IsErrAnd, IfErr, IfOk, MatchResult, arith}
use Rattle.std.proofs.lemmas.Result.{err_from_is_err_and}
use Rattle.serde_json.specs.View.{view}
use Rattle.serde_json.specs.declared.value.Value.{Value}
use Rattle.zarrs_chunk_base.specs.ArraySubset.{Box}
use Rattle.zarrs_chunk_base.specs.Refusal.{AnswersStoring, OrMemory}
use Rattle.zarrs_chunk_base.specs.declared.incompatible_dimensionality_error.IncompatibleDimensionalityError.{IncompatibleDimensionalityError}
use Rattle.zarrs_chunk_base.specs.declared.refusal.Refusal.{Refusal}
use Rattle.zarrs_chunks.specs.Subsets.{LookedBox}
use Rattle.zarrs_chunk_questions.specs.Trees.{Says, box_tree, or_null}
use Rattle.zarrs_chunk_questions.specs.Refused.{IsErrorOf, IsLengthFault}
use Rattle.zarrs_chunk_questions.specs.seen.Found.{TellsError}
use Rattle.zarrs_chunk_questions.specs.declared.line_fault.LineFault.{LineFault}

-- what holds of a refusal holds of what a `?` hands on
pub handed_on : {X : Type 0} (P : X → Type 0) (Q R : LineFault → Type 0) (result : Result X (Refusal LineFault)) (refusal : Refusal LineFault)
    → ((fault : LineFault) → Q fault → R fault) → OrMemory Q refusal → IsErrAnd result (λ other. other ≡ refusal) → MatchResult result P (OrMemory R)
handed_on P Q R result refusal told is handed =
    let p = err_from_is_err_and result handed in rw (p.1, p.2) (grind arith)

-- the tree of what a call answered that may answer so
pub says_box : (MayAnswer : LookedBox → Type 0) (answer : LookedBox) (result : Result Value (Refusal LineFault)) → MayAnswer answer
    → IfOk result (λ t. (found : Option Box) × (answer ≡ Ok found) × (view t ≡ or_null box_tree found))
    → IfErr result (OrMemory (TellsError answer))
    → MatchResult result (λ t. Says box_tree MayAnswer (view t)) (OrMemory (IsErrorOf MayAnswer))
says_box MayAnswer answer result may said refused = grind arith

-- a look-up refuses another length only
pub length_fault : {X : Type 0} (Stores : Type 0) (given expected : ℕ) (Found : X → Type 0) (Absent : Type 0)
    (answer : Result (Option X) (Refusal IncompatibleDimensionalityError)) (fault : LineFault)
    → AnswersStoring Stores given expected Found Absent answer
    → TellsError answer fault → IsLengthFault given expected fault
length_fault Stores given expected Found Absent answer fault may told = grind arith

-- what is said of an answer and of a refusal, each in other words
pub in_other_words : {X : Type 0} (P R : X → Type 0) (Q S : LineFault → Type 0) (result : Result X (Refusal LineFault)) → ((x : X) → P x → R x)
    → ((fault : LineFault) → Q fault → S fault) → MatchResult result P (OrMemory Q) → MatchResult result R (OrMemory S)
in_other_words P R Q S result of_answer of_fault is = grind arith
