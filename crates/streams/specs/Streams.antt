-- What a run of a program leaves of its reader and its writer.
use Rattle.std.specs.Prelude.{◌≡◌, ℕ, Bool, false, List, [], Option, Some}
use Rattle.streams.specs.Watched.{has_failed, watched}
use Rattle.streams.specs.declared.sink.Sink.{Sink}
use Rattle.streams.specs.declared.watched.Watched.{Watched}
use Rattle.streams.specs.seen.Sent.{written}

-- What the reader has left and whether a read failed, what the writer holds and whether a write failed. Bytes are `None` where a reader or
-- writer doesn't tell.
pub record Streams : Type 0 where
  pub left : Option (List ℕ)
  pub read_failed : Bool
  pub holds : Option (List ℕ)
  pub write_failed : Bool

-- what a watched reader and a sink leave
abbrev pub streams_of : {R W : Type 0} → (remaining : R → Option (List ℕ)) → (contents : W → Option (List ℕ)) → Watched R → Sink W → Streams
streams_of remaining contents reader sink = record {
  left = remaining (watched reader);
  read_failed = has_failed reader;
  holds = (written contents sink).holds;
  write_failed = (written contents sink).failed;
}

-- nothing is left to read, and no read failed
abbrev pub IsReadToEnd : Streams → Type 0
IsReadToEnd s = (s.left ≡ Some []) × (s.read_failed ≡ false)

-- the writer holds these bytes, and no write failed
abbrev pub IsWritten : List ℕ → Streams → Type 0
IsWritten bytes s = (s.holds ≡ Some bytes) × (s.write_failed ≡ false)
