-- What a program writes about an error.
-- Source: this library's own.
use Rattle.std.specs.Prelude.{◌≡◌, ◌⊎◌, ℕ, Bool, true, List, ◌++◌, Option, Some, codes}
use Rattle.streams.specs.OneLine.{IsOneLine, line_of}

-- One line: the program's name, a colon and words. Or, where there is no memory for that, one that says so.
abbrev pub IsErrorLine : (program line : List ℕ) → Type 0
IsErrorLine program line =
    IsOneLine line
    × (((words : List ℕ) × (line ≡ line_of (program ++ (codes ": " ++ words)))) ⊎ (line ≡ codes "out of memory\n"))

-- a beginning of a text was written behind what the writer held
abbrev pub HasBegunText : (text held : List ℕ) → (holds : Option (List ℕ)) → Type 0
HasBegunText text held holds = (written : List ℕ) × (rest : List ℕ) × (text ≡ written ++ rest) × (holds ≡ Some (held ++ written))

-- A text was written behind what the writer held, and no write failed meanwhile. Or a write failed, and a beginning of the text was written.
abbrev pub IsWrittenUnlessFailed : (text held : List ℕ) → (holds : Option (List ℕ)) → (failed_before failed_after : Bool) → Type 0
IsWrittenUnlessFailed text held holds failed_before failed_after =
    ((holds ≡ Some (held ++ text)) × (failed_after ≡ failed_before)) ⊎ ((failed_after ≡ true) × HasBegunText text held holds)

-- so of one line about an error
abbrev pub TellsError : (program held : List ℕ) → (holds : Option (List ℕ)) → (failed_before failed_after : Bool) → Type 0
TellsError program held holds failed_before failed_after =
    (line : List ℕ) × IsErrorLine program line × IsWrittenUnlessFailed line held holds failed_before failed_after
