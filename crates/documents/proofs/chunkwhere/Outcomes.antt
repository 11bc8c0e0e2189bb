-- The outcomes of a run, put together from its steps.
use Rattle.std.proofs.Common.{◌≡◌, ◌∙◌, ◌⊎◌, ℕ, Bool, true, false, List, ◌++◌, Some, Ok, Err, ap, inl, inr, refl, true≢false}
use Rattle.streams.specs.Streams.{IsReadToEnd, IsWritten, Streams}
use Rattle.streams.specs.Watched.{IsReadFailure}
use Rattle.documents.specs.chunkwhere.Answer.{IsIndexFault}
use Rattle.documents.specs.chunkwhere.Run.{RunLeaves, text_of}
use Rattle.documents.specs.chunkwhere.RunFault.{of_create, of_document, of_stream}
use Rattle.documents.specs.declared.chunkwhere.run_fault.RunFault.{RunFault}
use Rattle.documents.specs.declared.chunkwhere.run_fault.RunFault.TheVariants.{Memory, Read, Write}
use Rattle.documents.specs.declared.document_fault.DocumentFault.{DocumentFault}
use Rattle.documents.specs.declared.document_fault.DocumentFault.TheVariants.{Memory as NoMemory, Metadata, Missing, NotJson, NotObject, WrongValue}
use Rattle.documents.specs.declared.storage_metadata.CreateFault.{CreateFault}
use Rattle.documents.specs.declared.storage_metadata.CreateFault.TheVariants.{Encoding, Grid, Memory as NoRoom}
use Rattle.streams.specs.declared.stream_fault.StreamFault.{StreamFault}
use Rattle.streams.specs.declared.stream_fault.StreamFault.TheVariants.{Memory as NoMoreMemory, Read as ReadFailed, Write as WriteFailed}

-- ---- a fault of an input is none of reading or writing

abbrev moves : RunFault → Bool
moves Read = true
moves Write = true
moves _ = false

-- what holds of neither holds of others alone
still : (P : RunFault → Type 0) → ¬ P Read → ¬ P Write → (fault : RunFault) → P fault → moves fault ≡ false
still P no_read no_write Read is = absurd (no_read is)
still P no_read no_write Write is = absurd (no_write is)
still P no_read no_write _ is = refl

of_document_still : (told : DocumentFault) → moves (of_document told) ≡ false
of_document_still NotJson = refl
of_document_still NotObject = refl
of_document_still (Missing _) = refl
of_document_still (WrongValue _) = refl
of_document_still (Metadata _ _) = refl
of_document_still NoMemory = refl

of_create_still : (told : CreateFault) → moves (of_create told) ≡ false
of_create_still (Grid _) = refl
of_create_still (Encoding _) = refl
of_create_still NoRoom = refl

first_still : (input : List ℕ) (fault : RunFault) → text_of input (Err fault) → moves fault ≡ false
first_still input fault (inl (told, _, same)) = ap moves same ∙ of_document_still told
first_still input fault (inr (_, _, inl (told, _, same))) = ap moves same ∙ of_create_still told
first_still input fault (inr (document, _, inr (array, _, is))) =
    still (IsIndexFault array.0.dimensions document.indices) (λ h. h) (λ h. h) fault is

-- ---- reading

pub read_stops : (input held : List ℕ) (fault : StreamFault) (s : Streams) (before : Bool) → IsReadFailure fault before s.read_failed → before ≡ false
    → IsWritten held s → RunLeaves input held (Err (of_stream fault)) s
read_stops input held ReadFailed s before now not_read written = (now, written)
read_stops input held NoMoreMemory s before is not_read written = (is ∙ not_read, written)
read_stops input held WriteFailed s before never not_read written = absurd never

-- why a run has no text, where a read did not fail
pub leaves_no_text : (input held : List ℕ) (fault : RunFault) (s : Streams) → (fault ≡ Memory) ⊎ text_of input (Err fault) → IsReadToEnd s
    → IsWritten held s → RunLeaves input held (Err fault) s
leaves_no_text input held fault s (inl is) end written = rw is (end.1, written)
leaves_no_text input held Read s (inr first) end written = absurd (true≢false (first_still input Read first))
leaves_no_text input held Write s (inr first) end written = absurd (true≢false (first_still input Write first))
leaves_no_text input held Memory s (inr first) end written = (end.1, written)
leaves_no_text input held _ s (inr first) end written = (end, first, written)

-- ---- after everything was read

-- a beginning of the text was written
pub leaves_some : (input held text : List ℕ) (fault : StreamFault) (s : Streams) → text_of input (Ok text) → IsReadToEnd s
    → ((written : List ℕ) × (rest : List ℕ) × (text ≡ written ++ rest) × (s.holds ≡ Some (held ++ written)))
    → (fault ≡ WriteFailed) × (s.write_failed ≡ true) → RunLeaves input held (Err (of_stream fault)) s
leaves_some input held text fault s is_text end (written, rest, all, is_held) failed =
    rw failed.0 (end, text, written, rest, is_text, all, is_held, failed.1)
