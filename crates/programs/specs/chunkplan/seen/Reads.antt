-- When a step reads that sends the text of a plan.
use Rattle.programs.specs.chunkplan.Common.{ℕ, List, Result, Ok, Err, RunFault, Read}

-- A read failed only where there is such a text: the fault of a failed read comes after each fault that leaves no text.
abbrev pub ReadFailsAfter : (Result (List ℕ) RunFault → Type 0) → Result (Unit {0}) RunFault → Type 0
ReadFailsAfter text (Err Read) = (t : List ℕ) × text (Ok t)
ReadFailsAfter text _ = Unit {0}
