-- Why calls are refused, and what look-ups answer.
use Rattle.std.specs.Prelude.{◌≡◌, ◌≢◌, ℕ, Option, Some, None, Result, Ok, Err}
use Rattle.std.specs.declared.alloc.AllocError.{AllocError}
use Rattle.zarrs_chunk_base.specs.declared.incompatible_dimensionality_error.IncompatibleDimensionalityError.{IncompatibleDimensionalityError}
use Rattle.zarrs_chunk_base.specs.declared.refusal.Refusal.{Refusal}
use Rattle.zarrs_chunk_base.specs.declared.refusal.Refusal.TheVariants.{Refused, Memory}

-- what holds of a call's own refusal; nothing is said of out of memory
abbrev pub OrMemory : {E : Type 0} → (E → Type 0) → Refusal E → Type 0
OrMemory P (Refused e) = P e
OrMemory P (Memory _) = Unit {0}

-- what holds of a call's own refusal, and what where it is out of memory
abbrev pub MatchRefusal : {E : Type 0} → Refusal E → (E → Type 0) → (AllocError → Type 0) → Type 0
MatchRefusal (Refused e) P Q = P e
MatchRefusal (Memory error) P Q = Q error

-- a call's own refusal, of which P holds
abbrev pub IsRefusedAnd : {E : Type 0} → Refusal E → (E → Type 0) → Type 0
IsRefusedAnd refusal P = MatchRefusal refusal P (λ _. ⊥)

-- the length that an error tells as given, and the one that it tells as expected
abbrev pub given_length : IncompatibleDimensionalityError → ℕ
given_length e = e.given

abbrev pub expected_length : IncompatibleDimensionalityError → ℕ
expected_length e = e.expected

-- the error tells that m was given and n expected
pub record TellsLengths (m n : ℕ) (e : IncompatibleDimensionalityError) : Type 0 where
  pub given : given_length e ≡ m
  pub expected : expected_length e ≡ n

-- a list of another length is refused, and nothing else
abbrev pub RefusesLength : ℕ → ℕ → Refusal IncompatibleDimensionalityError → Type 0
RefusesLength given expected (Refused e) = (given ≢ expected) × TellsLengths given expected e
RefusesLength given expected (Memory _) = ⊥

-- A look-up refuses a wrong length first; then it finds what was sought, or nothing, or is out of memory, if it stores anything.
abbrev pub AnswersStoring : {X : Type 0} → Type 0 → ℕ → ℕ → (X → Type 0) → Type 0
    → Result (Option X) (Refusal IncompatibleDimensionalityError) → Type 0
AnswersStoring Stores given expected Found Absent (Ok (Some x)) = (given ≡ expected) × Found x
AnswersStoring Stores given expected Found Absent (Ok None) = (given ≡ expected) × Absent
AnswersStoring Stores given expected Found Absent (Err (Refused e)) = (given ≢ expected) × TellsLengths given expected e
AnswersStoring Stores given expected Found Absent (Err (Memory _)) = (given ≡ expected) × Stores

-- a look-up that stores a number a dimension, and so nothing without dimensions
abbrev pub Answers : {X : Type 0} → ℕ → ℕ → (X → Type 0) → Type 0 → Result (Option X) (Refusal IncompatibleDimensionalityError) → Type 0
Answers given expected = AnswersStoring (expected ≢ 0) given expected

-- one that stores something without dimensions too
abbrev pub AnswersOrMemory : {X : Type 0} → ℕ → ℕ → (X → Type 0) → Type 0 → Result (Option X) (Refusal IncompatibleDimensionalityError) → Type 0
AnswersOrMemory = AnswersStoring (Unit {0})

-- the call's own refusal, and not out of memory
abbrev pub IsOwn : {E : Type 0} → Refusal E → Type 0
IsOwn (Refused _) = Unit {0}
IsOwn (Memory _) = ⊥

-- the answer isn't out of memory
abbrev pub HasMemory : {X E : Type 0} → Result X (Refusal E) → Type 0
HasMemory (Ok _) = Unit {0}
HasMemory (Err refusal) = IsOwn refusal
