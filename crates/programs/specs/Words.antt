-- What a program does for the words of its command line.
-- Source: this library's own.
use Rattle.std.specs.Prelude.{◌≡◌, ◌⊎◌, ℕ, Bool, true, List, ◌++◌, Option, Some, None, Result, Ok, Err, bytes_eq, codes, cond}
use Rattle.std.specs.declared.env.FillError.{FillError}
use Rattle.std.specs.declared.env.FillError.TheVariants.{NotPresent}
use Rattle.streams.specs.Told.{HasBegunText}
use Rattle.programs.specs.declared.words.Asked.{Asked}
use Rattle.programs.specs.declared.words.Asked.TheVariants.{Help, Run, Unknown, Version}

-- What words ask for, by the first, or by why there is none to read, and by whether it is alone.
abbrev pub asked_by : Result (List ℕ) FillError → (alone : Bool) → Asked
asked_by (Err NotPresent) alone = Run
asked_by (Ok word) true = cond (bytes_eq word (codes "--help")) Help (cond (bytes_eq word (codes "--version")) Version Unknown)
asked_by _ _ = Unknown

-- the version of this library and of its programs
abbrev pub version : List ℕ
version = codes "0.1.0"

-- The status is 0, and a text and a line feed were written behind what the writer held. Or the status is 1, a write has failed, and a beginning of them
-- was written.
abbrev pub IsTold : (text : List ℕ) → (status : ℕ) → (held : List ℕ) → (holds : Option (List ℕ)) → (failed : Bool) → Type 0
IsTold text status held holds failed =
    ((status ≡ 0) × (holds ≡ Some (held ++ (text ++ codes "\n")))) ⊎ ((status ≡ 1) × (failed ≡ true) × HasBegunText (text ++ codes "\n") held holds)

-- By what the words ask for: the program is to run, and so there is no status; the help or the version is told; or there is a fault, and the status
-- is 1. Nothing else is written.
abbrev pub AnswersWords : Asked → (help : List ℕ) → (status : Option ℕ) → (held : List ℕ) → (holds : Option (List ℕ)) → (failed : Bool) → Type 0
AnswersWords Run help status held holds failed = (status ≡ None) × (holds ≡ Some held)
AnswersWords Help help status held holds failed = (n : ℕ) × (status ≡ Some n) × IsTold help n held holds failed
AnswersWords Version help status held holds failed = (n : ℕ) × (status ≡ Some n) × IsTold version n held holds failed
AnswersWords Unknown help status held holds failed = (status ≡ Some 1) × (holds ≡ Some held)
