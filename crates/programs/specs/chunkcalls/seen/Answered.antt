-- What a step leaves that answers lines.
use Rattle.std.specs.Prelude.{◌≡◌, ◌⊎◌, ℕ, suc, List, [], ◌++◌, Option, take}
use Rattle.streams.specs.OneLine.{line_feeds}
use Rattle.streams.specs.declared.stream_fault.StreamFault.{StreamFault}
use Rattle.streams.specs.declared.stream_fault.StreamFault.TheVariants.{Memory, Read, Write}
use Rattle.streams.specs.seen.Sent.{IsSent, Output, Sends}
use Rattle.programs.specs.chunkcalls.Lines.{AreAnswersRead, AreEndedAnswers, AreFirstAnswers, IsReplyTo, longest_line}

-- what is kept of a line: as much as shows that it is too long
abbrev pub kept : List ℕ → List ℕ
kept = take (suc longest_line)

-- these bytes are kept of the beginning of a line, which no line feed ends yet
pub record IsBegun (line held : List ℕ) : Type 0 where
  pub unbroken : line_feeds line ≡ 0
  pub is_kept : held ≡ kept line

-- Behind the bytes of a line a piece of the input was read. These are lines that ended in it, and the bytes of another line, of which some are held. The
-- answers to the lines were sent.
pub record HasAnsweredPiece (line piece held : List ℕ) (before after : Output) : Type 0 where
  pub lines : List ℕ
  pub left : List ℕ
  pub split : line ++ piece ≡ lines ++ left
  pub begun : IsBegun left held
  pub answers : List ℕ
  pub are_answers : AreEndedAnswers lines answers
  pub sent : IsSent before after answers

-- ---- where it stops

-- of a line: memory ran out, and all is as it was; or a write failed, and a beginning of its answer may have been sent
abbrev pub HasStoppedAt : (line : List ℕ) → StreamFault → Output → Output → Type 0
HasStoppedAt line Memory before after = after ≡ before
HasStoppedAt line Write before after = (answer : List ℕ) × IsReplyTo line answer × (rest : List ℕ) × Sends before answer after.holds rest
HasStoppedAt line Read before after = ⊥

-- of some answers all but the rest were sent, and that is held back, unless a write failed
pub record AreSentBut (answers rest : List ℕ) (fault : StreamFault) (before after : Output) : Type 0 where
  pub sends : Sends before answers after.holds rest
  pub is_held_back : (fault ≡ Write) ⊎ (rest ≡ after.held_back)

-- in a piece: the answers to lines that ended in it were sent so
pub record HasStoppedIn (line piece : List ℕ) (fault : StreamFault) (before after : Output) : Type 0 where
  pub lines : List ℕ
  pub left : List ℕ
  pub split : line ++ piece ≡ lines ++ left
  pub answers : List ℕ
  pub are_answers : AreEndedAnswers lines answers
  pub rest : List ℕ
  pub sent : AreSentBut answers rest fault before after

-- in an input: the answers to its first lines were
pub record HasStopped (input : List ℕ) (fault : StreamFault) (before after : Output) : Type 0 where
  pub answers : List ℕ
  pub are_first : AreFirstAnswers input answers
  pub rest : List ℕ
  pub sent : AreSentBut answers rest fault before after

-- after a failed read: the answers to all lines that had ended were sent, and none of them is held back
abbrev pub HasAnsweredBefore : (input : List ℕ) → (left : Option (List ℕ)) → Output → Output → Type 0
HasAnsweredBefore input left before after =
    (answers : List ℕ) × AreAnswersRead input left answers × IsSent before after answers
    × (before.held_back ≡ [] → after.held_back ≡ [])
