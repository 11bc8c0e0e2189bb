-- What a run of the program leaves.
use Rattle.std.specs.Prelude.{◌≡◌, ◌⊎◌, ◌++◌}
use Rattle.programs.specs.chunkplan.Common.{ℕ, true, false, List, [], Option, Some, Result, Ok, Err, MatchResult, RunFault, Memory, Read, Write}
use Rattle.streams.specs.OneLine.{line_feeds}
use Rattle.streams.specs.Streams.{IsReadToEnd, IsWritten, Streams}
use Rattle.programs.specs.chunkplan.Keys.{HasKeysBehind, first_line}
use Rattle.programs.specs.chunkplan.Planned.{IsPlanOf, text_of_line}

-- a beginning of the plan was written behind what the writer held
abbrev pub HasBegunPlan : (input held : List ℕ) → Streams → Type 0
HasBegunPlan input held s =
    (text : List ℕ) × (written : List ℕ) × (rest : List ℕ)
    × IsPlanOf input (Ok text) × (text ≡ written ++ rest) × (s.holds ≡ Some (held ++ written))

-- no read failed, and nothing is left to read, but for keys behind a document
abbrev pub HasRead : (input : List ℕ) → Streams → Type 0
HasRead input s = (s.read_failed ≡ false) × ((¬ HasKeysBehind (first_line input)) → s.left ≡ Some [])

-- some bytes of the first line were read, but not its end, and the others are left
abbrev pub IsCutInFirstLine : (input : List ℕ) → (left : Option (List ℕ)) → Type 0
IsCutInFirstLine input left = (begun : List ℕ) × (rest : List ℕ) × (input ≡ begun ++ rest) × (line_feeds begun ≡ 0) × (left ≡ Some rest)

-- Where keys come after the first line, a read failed in that line, or the line is a document that has a plan: each of its faults comes before a read
-- that fails after it.
abbrev pub FailsAfterDocument : (input : List ℕ) → (left : Option (List ℕ)) → Type 0
FailsAfterDocument input left =
    HasKeysBehind (first_line input) → IsCutInFirstLine input left ⊎ ((text : List ℕ) × text_of_line (first_line input) [] (Ok text))

-- A run over a reader that had the input left and a writer that held some bytes: what it leaves, by its outcome. Lines are written as they
-- are made, so where memory runs out, a beginning of the plan may have been written.
abbrev pub RunLeaves : (input held : List ℕ) → Result (Unit {0}) RunFault → Streams → Type 0
RunLeaves input held (Ok _) s = IsReadToEnd s × (text : List ℕ) × IsPlanOf input (Ok text) × IsWritten (held ++ text) s
RunLeaves input held (Err Read) s = (s.read_failed ≡ true) × IsWritten held s × FailsAfterDocument input s.left
RunLeaves input held (Err Memory) s =
    (s.read_failed ≡ false) × (s.write_failed ≡ false) × ((s.holds ≡ Some held) ⊎ HasBegunPlan input held s)
RunLeaves input held (Err Write) s = IsReadToEnd s × HasBegunPlan input held s × (s.write_failed ≡ true)
RunLeaves input held (Err fault) s = HasRead input s × IsPlanOf input (Err fault) × IsWritten held s

-- A run ends with the status 0 where it succeeded, and with 1 after a fault.
abbrev pub RunEndsWith : (input held : List ℕ) → (status : ℕ) → Streams → Type 0
RunEndsWith input held status s =
    (outcome : Result (Unit {0}) RunFault) × RunLeaves input held outcome s × MatchResult outcome (λ _. status ≡ 0) (λ _. status ≡ 1)
