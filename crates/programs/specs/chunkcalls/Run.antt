-- What a run of the program leaves, and why it stops.
use Rattle.std.specs.Prelude.{◌≡◌, ℕ, Bool, true, false, List, Result, Ok, Err, MatchResult}
use Rattle.streams.specs.Streams.{Streams}
use Rattle.streams.specs.declared.stream_fault.StreamFault.{StreamFault}
use Rattle.streams.specs.declared.stream_fault.StreamFault.TheVariants.{Memory, Read, Write}
use Rattle.programs.specs.chunkcalls.Lines.{HasAnsweredRead, HasBegunAnswers, HoldsAnswers}

-- By whether a read had failed before the run, and after it, and a write after it: a read failed; or a write did, or memory ran out, and no read had
-- failed meanwhile.
abbrev pub TellsFailure : StreamFault → (read_before read_after write_after : Bool) → Type 0
TellsFailure Read read_before read_after write_after = read_after ≡ true
TellsFailure Write read_before read_after write_after = (read_after ≡ read_before) × (write_after ≡ true)
TellsFailure Memory read_before read_after write_after = read_after ≡ read_before

-- A run over a reader that had the input left and a writer that held some bytes, by its outcome: behind these stand the answers to the input's lines,
-- and nothing failed; or why not all of them do, and a beginning of the answers to its first lines: where a read failed, the answers to all lines that
-- had ended by then.
abbrev pub RunLeaves : (input held : List ℕ) → Result (Unit {0}) StreamFault → Streams → Type 0
RunLeaves input held (Ok _) s = HoldsAnswers input held s.holds × (s.read_failed ≡ false) × (s.write_failed ≡ false)
RunLeaves input held (Err fault) s =
    TellsFailure fault false s.read_failed s.write_failed × HasBegunAnswers input held s.holds
    × (fault ≡ Read → HasAnsweredRead input held s.left s.holds)

-- it ends with the status 0 where it succeeded, and with 1 after a fault
abbrev pub RunEndsWith : (input held : List ℕ) → (status : ℕ) → Streams → Type 0
RunEndsWith input held status s =
    (outcome : Result (Unit {0}) StreamFault) × RunLeaves input held outcome s × MatchResult outcome (λ _. status ≡ 0) (λ _. status ≡ 1)
