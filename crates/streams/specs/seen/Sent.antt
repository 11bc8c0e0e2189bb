-- Text on its way to a writer, many bytes at a time.
use Rattle.std.specs.Prelude.{◌≡◌, ℕ, Bool, false, List, [], ◌++◌, Option, Some, IfSome}
use Rattle.streams.specs.Watched.{has_failed, watched}
use Rattle.streams.specs.declared.sink.Sink.{Sink}
use Rattle.streams.specs.declared.watched.Watched.{Watched}

-- what the writer holds, what is held back from it, and whether a write failed
pub record Output : Type 0 where
  pub holds : Option (List ℕ)
  pub held_back : List ℕ
  pub failed : Bool

-- the watched writer of a sink
abbrev pub watched_in : {W : Type 0} → Sink W → Watched W
watched_in sink = sink.writer

-- what was written to a sink
abbrev pub written : {W : Type 0} → (contents : W → Option (List ℕ)) → Sink W → Output
written contents sink =
    record { holds = contents (watched (watched_in sink)); held_back = sink.held_back.items; failed = has_failed (watched_in sink) }

-- nothing was written yet to a writer that holds some bytes
abbrev pub begun : Option (List ℕ) → Output
begun holds = record { holds = holds; held_back = []; failed = false }

-- the writer holds these bytes, and nothing is held back from it
abbrev pub HoldsAll : List ℕ → Output → Type 0
HoldsAll held s = (s.holds ≡ Some held) × (s.held_back ≡ [])

-- of what was held back and of these bytes behind it, the writer now holds all but the rest
abbrev pub Sends : Output → (bytes : List ℕ) → (holds : Option (List ℕ)) → (rest : List ℕ) → Type 0
Sends before bytes holds rest =
    IfSome before.holds (λ held. (sent : List ℕ) × (holds ≡ Some (held ++ sent)) × (before.held_back ++ bytes ≡ sent ++ rest))

-- these bytes were sent, or are held back
abbrev pub IsSent : Output → Output → (bytes : List ℕ) → Type 0
IsSent before after bytes = Sends before bytes after.holds after.held_back
