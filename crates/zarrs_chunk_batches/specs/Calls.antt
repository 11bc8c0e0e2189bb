-- Calls: which fault is the first that applies, and how a call ends.
use Rattle.std.specs.Prelude.{◌≡◌, ◌⊎◌, ℕ, ◌<◌, List, IfErr, MatchResult}
use Rattle.zarrs_chunk_batches.specs.Codes.{End}
use Rattle.zarrs_chunk_batches.specs.declared.codes.Fault.{Fault}
use Rattle.zarrs_chunk_batches.specs.declared.codes.Fault.TheVariants.{Memory, Length, Short}

-- A call, whose metadata says an X: a grid, an encoding, or both.
pub record Call (X : Type 0) : Type 1 where
  -- the fault tells why the metadata says none
  pub Misses : Fault → Type 0
  -- the metadata says it
  pub Says : X → Type 0
  -- each buffer is as long as the others demand
  pub Fits : X → Type 0
  -- the fault tells what is wrong with what is asked or else, where that is right, with the room for the answer
  pub Refuses : X → Fault → Type 0
  -- what is asked is right, there is room for the answer, and it was written
  pub Answers : X → Type 0

-- What is asked of an X, whoever says it: whether each buffer is as long as the others demand, what refuses it then, and what answers it.
pub record Request (X : Type 0) : Type 1 where
  pub Fits : X → Type 0
  pub Refuses : X → Fault → Type 0
  pub Answers : X → Type 0

-- the call that asks it of what metadata say
abbrev pub asks : {X : Type 0} (Misses : Fault → Type 0) (Says : X → Type 0) → Request X → Call X
asks Misses Says request = record {
  Misses = Misses;
  Says = Says;
  Fits = request.Fits;
  Refuses = request.Refuses;
  Answers = request.Answers;
}

-- How a request of a given X ends: with its answer, or with its first fault, or out of memory.
abbrev pub IsEndFor : {X : Type 0} → Request X → X → End → Type 0
IsEndFor request x end =
    MatchResult end (λ _. request.Fits x × request.Answers x)
    (λ fault. (fault ≡ Memory) ⊎ (((fault ≡ Length) × ¬ request.Fits x) ⊎ (request.Fits x × request.Refuses x fault)))

-- the same of each X of which P holds
abbrev pub EndsForEach : {X : Type 0} → (X → Type 0) → Request X → End → Type 0
EndsForEach {X} P request end = (x : X) → P x → IsEndFor request x end

-- The first fault of metadata and lengths: the metadata doesn't say what it should; or it does, and some buffer is longer or shorter.
pub data IsEarlyFault {X : Type 0} (Misses : Fault → Type 0) (Says Fits : X → Type 0) (fault : Fault) : Type 0 where
  no_metadata : Misses fault → IsEarlyFault Misses Says Fits fault
  wrong_length : (x : X) → Says x → (¬ Fits x) → fault ≡ Length → IsEarlyFault Misses Says Fits fault

-- The first fault of a call: one of metadata and lengths; or, where these are right, one of what is asked or of the room for the answer.
pub data IsFirstFault {X : Type 0} (call : Call X) (fault : Fault) : Type 0 where
  early : IsEarlyFault call.Misses call.Says call.Fits fault → IsFirstFault call fault
  late : (x : X) → call.Says x → call.Fits x → call.Refuses x fault → IsFirstFault call fault

-- A call ends with its answer, or with its first fault, or out of memory.
abbrev pub IsEndOf : {X : Type 0} → Call X → End → Type 0
IsEndOf {X} call end =
    MatchResult end (λ _. (x : X) × call.Says x × call.Fits x × call.Answers x) (λ fault. (fault ≡ Memory) ⊎ IsFirstFault call fault)

-- of so many questions each is one; and the first that isn't one is the one with this number
abbrev pub AreQuestions : ℕ → (ℕ → Type 0) → Type 0
AreQuestions count IsQuestion = (number : ℕ) → number < count → IsQuestion number

abbrev pub IsFirstWrong : ℕ → (ℕ → Type 0) → ℕ → Type 0
IsFirstWrong count IsQuestion number = (number < count) × AreQuestions number IsQuestion × ¬ IsQuestion number

-- P holds where the call has written its answer, or all of it but a text that is longer than its buffer
abbrev pub IfWritten : Type 0 → End → Type 0
IfWritten P end = MatchResult end (λ _. P) (λ fault. fault ≡ Short → P)

-- a buffer that is shorter than its text is as it was
abbrev pub IsKeptIfShort : (before after : List ℕ) → End → Type 0
IsKeptIfShort before after end = IfErr end (λ fault. fault ≡ Short → after ≡ before)
