-- What the members of a line's tree say, or why the line can't be read.
-- Source: RFC 8259; the members and their faults are this library's own.
use Rattle.std.specs.Prelude.{ℕ, List, ◌++◌, codes, Option, Some, None, Result, Ok, Err}
use Rattle.std.specs.Option.{ok_or}
use Rattle.serde_json.specs.Data.{Data}
use Rattle.serde_json.specs.Find.{get}

-- why a line can't be read
pub data Fault : Type 0 where
  not_json : Fault
  not_object : Fault
  missing : (field : List ℕ) → Fault
  wrong_value : (field : List ℕ) → Fault
  no_call : (name : List ℕ) → Fault

-- the words that tell it
abbrev pub words_of : Fault → List ℕ
words_of not_json = codes "not JSON"
words_of not_object = codes "not an object"
words_of (missing field) = codes "missing field `" ++ field ++ codes "`"
words_of (wrong_value field) = codes "wrong value in field `" ++ field ++ codes "`"
words_of (no_call name) = codes "there is no call `" ++ name ++ codes "`"

-- what is read, or the first fault
abbrev pub Reading : Type 0 → Type 0
Reading X = Result X Fault

-- what is read next; a fault before it comes first
abbrev pub then : {X Y : Type 0} → Reading X → (X → Reading Y) → Reading Y
then (Ok x) next = next x
then (Err fault) next = Err fault

-- a member that has to be there
abbrev pub required : List ℕ → Data → Reading Data
required field d = ok_or (get field d) (missing field)

-- a value that has to be of a form, as the member of this name
abbrev pub in_form : {X : Type 0} → (Data → Option X) → List ℕ → Data → Reading X
in_form form field value = ok_or (form value) (wrong_value field)

-- a member that has to be there, and of a form
abbrev pub required_in : {X : Type 0} → (Data → Option X) → List ℕ → Data → Reading X
required_in form field d = then (required field d) (in_form form field)

-- a member that is of a form, where there is one
abbrev pub optional_value : {X : Type 0} → (Data → Option X) → List ℕ → Option Data → Reading (Option X)
optional_value form field None = Ok None
optional_value form field (Some value) = then (in_form form field value) (λ x. Ok (Some x))

abbrev pub optional_in : {X : Type 0} → (Data → Option X) → List ℕ → Data → Reading (Option X)
optional_in form field d = optional_value form field (get field d)
