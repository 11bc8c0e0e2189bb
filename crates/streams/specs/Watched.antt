-- A reader or writer with a memory of whether one of its calls failed.
use Rattle.std.specs.Prelude.{◌≡◌, ℕ, ◌==◌, ◌&&◌, Bool, true, not, List, length, Result, Ok, Err}
use Rattle.streams.specs.declared.watched.Watched.{Watched}
use Rattle.streams.specs.declared.stream_fault.StreamFault.{StreamFault}
use Rattle.streams.specs.declared.stream_fault.StreamFault.TheVariants.{Read, Write, Memory}

-- the reader or writer
abbrev pub watched : {T : Type 0} → Watched T → T
watched w = w.inner

-- one of its calls failed
abbrev pub has_failed : {T : Type 0} → Watched T → Bool
has_failed w = w.failed

-- the last flush succeeded, and nothing was written after it
abbrev pub is_flushed : {T : Type 0} → Watched T → Bool
is_flushed w = w.flushed

-- a write failed, or took nothing of something
abbrev pub is_failed_write : {E : Type 0} → Result ℕ E → List ℕ → Bool
is_failed_write (Ok n) bytes = n == 0 && not (length bytes == 0)
is_failed_write (Err e) bytes = true

-- why reading stopped: a read failed; or memory ran out, and none had failed meanwhile
abbrev pub IsReadFailure : StreamFault → (old new : Bool) → Type 0
IsReadFailure Read old new = new ≡ true
IsReadFailure Memory old new = new ≡ old
IsReadFailure Write old new = ⊥

-- why writing stopped: a write failed; or memory ran out, and none had failed meanwhile
abbrev pub IsWriteFailure : StreamFault → (old new : Bool) → Type 0
IsWriteFailure Write old new = new ≡ true
IsWriteFailure Memory old new = new ≡ old
IsWriteFailure Read old new = ⊥
