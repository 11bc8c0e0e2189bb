-- What a run of the program leaves.
use Rattle.std.specs.Prelude.{◌≡◌, ℕ, true, false, List, ◌++◌, Some, Result, Ok, Err, MatchResult}
use Rattle.documents.specs.declared.chunkwhere.run_fault.RunFault.{RunFault}
use Rattle.documents.specs.declared.chunkwhere.run_fault.RunFault.TheVariants.{Memory, Read, Write}
use Rattle.documents.specs.Reading.{then, told}
use Rattle.documents.specs.chunkwhere.Answer.{answer_of}
use Rattle.documents.specs.chunkwhere.Document.{document_in}
use Rattle.documents.specs.chunkwhere.RunFault.{of_document}
use Rattle.streams.specs.Streams.{IsReadToEnd, IsWritten, Streams}

-- the text that answers the input, or the first fault
abbrev pub text_of : (input : List ℕ) → Result (List ℕ) RunFault → Type 0
text_of input = then (told of_document (document_in input)) answer_of

-- A run over a reader that had the input left and a writer that held some bytes: what it leaves, by its outcome.
abbrev pub RunLeaves : (input held : List ℕ) → Result (Unit {0}) RunFault → Streams → Type 0
RunLeaves input held (Ok _) s = IsReadToEnd s × (text : List ℕ) × text_of input (Ok text) × IsWritten (held ++ text) s
RunLeaves input held (Err Read) s = (s.read_failed ≡ true) × IsWritten held s
RunLeaves input held (Err Memory) s = (s.read_failed ≡ false) × IsWritten held s
RunLeaves input held (Err Write) s =
    IsReadToEnd s × (text : List ℕ) × (written : List ℕ) × (rest : List ℕ) × text_of input (Ok text) × (text ≡ written ++ rest)
    × (s.holds ≡ Some (held ++ written)) × (s.write_failed ≡ true)
RunLeaves input held (Err fault) s = IsReadToEnd s × text_of input (Err fault) × IsWritten held s

-- A run ends with the status 0 where it succeeded, and with 1 after a fault.
abbrev pub RunEndsWith : (input held : List ℕ) → (status : ℕ) → Streams → Type 0
RunEndsWith input held status s =
    (outcome : Result (Unit {0}) RunFault) × RunLeaves input held outcome s × MatchResult outcome (λ _. status ≡ 0) (λ _. status ≡ 1)
