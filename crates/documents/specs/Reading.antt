-- What is read of a document: a value, or its first fault. A reading says of both what they are.
use Rattle.std.specs.Prelude.{◌≡◌, ◌⊎◌, MatchOption, MatchResult, Option, Result, Ok, Err}

module _ {F : Type 0} where
  -- what is read next; a fault before it comes first
  abbrev pub then : {X Y : Type 0} → (first : Result X F → Type 0) → (next : X → Result Y F → Type 0) → Result Y F → Type 0
  then first next (Ok y) = (x : _) × first (Ok x) × next x (Ok y)
  then first next (Err fault) = first (Err fault) ⊎ ((x : _) × first (Ok x) × next x (Err fault))

  -- this value
  abbrev pub gives : {X : Type 0} → X → Result X F → Type 0
  gives x (Ok y) = y ≡ x
  gives x (Err fault) = ⊥

  -- what is made of what is read, without a fault of its own
  abbrev pub made_of : {X Y : Type 0} → (first : Result X F → Type 0) → (Makes : X → Y → Type 0) → Result Y F → Type 0
  made_of first Makes (Ok y) = (x : _) × first (Ok x) × Makes x y
  made_of first Makes (Err fault) = first (Err fault)

  -- by whether a member is there
  abbrev pub optional : {X Y : Type 0} → (absent : Result Y F → Type 0) → (there : X → Result Y F → Type 0) → Option X → Result Y F → Type 0
  optional absent there member r = MatchOption member (absent r) (λ m. there m r)

  -- what a call gives is what is read, as a value of the program stands for it
  abbrev pub IsRead : {X Y : Type 0} → (seen : X → Y) → (Result Y F → Type 0) → Result X F → Type 0
  IsRead seen reading r = MatchResult r (λ x. reading (Ok (seen x))) (λ fault. reading (Err fault))

  -- or memory ran out
  abbrev pub IsReadOr : {X Y : Type 0} → (memory : F) → (seen : X → Y) → (Result Y F → Type 0) → Result X F → Type 0
  IsReadOr memory seen reading r = MatchResult r (λ x. reading (Ok (seen x))) (λ fault. (fault ≡ memory) ⊎ reading (Err fault))

-- the same, with each fault as another type has it
abbrev pub told : {X F G : Type 0} → (by : F → G) → (Result X F → Type 0) → Result X G → Type 0
told {F = F} by reading (Ok x) = reading (Ok x)
told {F = F} by reading (Err fault) = (first : F) × reading (Err first) × (fault ≡ by first)
