-- What holds after some bytes were read, and the lines that ended in them were answered.
use Rattle.programs.proofs.chunkcalls.Common.{◌≡◌, ◌∙◌, ℕ, ◌+◌, ◌<◌, List, [], ◌∷◌, ◌++◌, Option, None, Some, Result, Ok, Err, IfErr, IfSome}
use Rattle.programs.proofs.chunkcalls.Common.{MatchResult, OnErr, OnOk, ◌≢◌, ap, inl, inr, ⊎_elim, append-nil, append_assoc, arith, get_or, length}
use Rattle.programs.proofs.chunkcalls.Common.{length-append, refl, suc, sym, take, nil_from_length, StreamFault, Memory, Read, Write, AreAnswers}
use Rattle.programs.proofs.chunkcalls.Common.{AreAnswersRead, AreEndedAnswers, AreFirstAnswers, HasAnsweredRead, HasBegunAnswers, HoldsAnswers}
use Rattle.programs.proofs.chunkcalls.Common.{IsReplyTo, last_line, no_ended, HasAnsweredBefore, HasAnsweredPiece, HasStopped, HasStoppedAt}
use Rattle.programs.proofs.chunkcalls.Common.{HasStoppedIn, IsBegun, IsWriteFailure, HoldsAll, IsSent, Output, Sends, for_known, sends_more}
use Rattle.programs.proofs.chunkcalls.Common.{sends_nothing}
use Rattle.std.proofs.Math.Seq.{take-suc}
use Rattle.std.specs.Io.KnownBytes.{Consumes, IsAtEnd, Keeps}
use Rattle.programs.proofs.chunkcalls.Ended.{ended_more, ended_one, ended_then}
use Rattle.programs.proofs.chunkcalls.KeptLines.{kept_bytes, nothing_begun, of_whole}

-- ---- a piece of the input, byte by byte

pub take_next : (piece : List ℕ) (i : ℕ) → i < length piece → take (i + 1) piece ≡ take i piece ++ get_or piece i 0 ∷ []
take_next piece i within =
    let next : i + 1 ≡ suc i = omega arith in
    rw next (take-suc piece i 0 within)

module _ (line : List ℕ) (before : Output) where
  pub no_byte : (held : List ℕ) → IsBegun line held → HasAnsweredPiece line [] held before before
  no_byte held begun = record {
    lines = [];
    left = line;
    split = append-nil line;
    begun = begun;
    answers = [];
    are_answers = no_ended;
    sent = sends_nothing before;
  }

  module _ (piece held : List ℕ) (now : Output) (so_far : HasAnsweredPiece line piece held before now) where
    -- the piece and what comes behind it
    longer : (behind : List ℕ) → line ++ (piece ++ behind) ≡ so_far.lines ++ (so_far.left ++ behind)
    longer behind =
        sym (append_assoc line piece behind) ∙ ap (λ front. front ++ behind) so_far.split ∙ append_assoc so_far.lines so_far.left behind

    -- a byte of the line
    pub one_byte : (b : ℕ) (more : List ℕ) → IsBegun (so_far.left ++ b ∷ []) more → HasAnsweredPiece line (piece ++ b ∷ []) more before now
    one_byte b more begun = record {
      lines = so_far.lines;
      left = so_far.left ++ b ∷ [];
      split = longer (b ∷ []);
      begun = begun;
      answers = so_far.answers;
      are_answers = so_far.are_answers;
      sent = so_far.sent;
    }

    -- the line feed that ends it
    module _ (answer : List ℕ) (is : IsReplyTo held answer) where
      ended : AreEndedAnswers (so_far.lines ++ (so_far.left ++ 10 ∷ [])) (so_far.answers ++ answer)
      ended =
          ended_more (so_far.left ++ 10 ∷ []) answer so_far.lines so_far.answers so_far.are_answers
          (ended_one so_far.left answer so_far.begun.unbroken (of_whole so_far.left held answer so_far.begun.is_kept is))

      pub one_line : (after : Output) → IsSent now after answer → HasAnsweredPiece line (piece ++ 10 ∷ []) [] before after
      one_line after sent = record {
        lines = so_far.lines ++ (so_far.left ++ 10 ∷ []);
        left = [];
        split = longer (10 ∷ []) ∙ sym (append-nil (so_far.lines ++ (so_far.left ++ 10 ∷ [])));
        begun = nothing_begun;
        answers = so_far.answers ++ answer;
        are_answers = ended;
        sent = sends_more before now after.holds so_far.answers answer after.held_back so_far.sent sent;
      }

      -- or a write failed, and a beginning of its answer was sent
      pub stopped_writing : (behind rest : List ℕ) (after : Output) → Sends now answer after.holds rest
          → HasStoppedIn line (piece ++ 10 ∷ behind) Write before after
      stopped_writing behind rest after sends = record {
        lines = so_far.lines ++ (so_far.left ++ 10 ∷ []);
        left = behind;
        split =
            longer (10 ∷ behind) ∙ ap (λ back. so_far.lines ++ back) (sym (append_assoc so_far.left (10 ∷ []) behind))
            ∙ sym (append_assoc so_far.lines (so_far.left ++ 10 ∷ []) behind);
        answers = so_far.answers ++ answer;
        are_answers = ended;
        rest = rest;
        sent = record {
          sends = sends_more before now after.holds so_far.answers answer rest so_far.sent sends;
          is_held_back = inl refl;
        };
      }

    -- it stops behind the piece
    pub stopped_behind : (fault : StreamFault) (behind : List ℕ) → HasStoppedIn line (piece ++ behind) fault before now
    stopped_behind fault behind = record {
      lines = so_far.lines;
      left = so_far.left ++ behind;
      split = longer behind;
      answers = so_far.answers;
      are_answers = so_far.are_answers;
      rest = now.held_back;
      sent = record { sends = so_far.sent; is_held_back = inr refl };
    }

    -- or with the answer to the line
    pub stopped_at : (fault : StreamFault) (behind : List ℕ) (after : Output) → HasStoppedAt held fault now after
        → HasStoppedIn line (piece ++ 10 ∷ behind) fault before after
    stopped_at Memory behind after same = rw same (stopped_behind Memory (10 ∷ behind))
    stopped_at Write behind after (answer, is, rest, sends) = stopped_writing answer is behind rest after sends
    stopped_at Read behind after none = absurd none

-- ---- piece after piece

-- The reader has some of the input left, and behind the lines that are answered lies the beginning of one that isn't, of which some bytes are held.
pub record IsPartWay (input : List ℕ) (before : Output) (left : Option (List ℕ)) (held : List ℕ) (now : Output) : Type 0 where
  pub lines : List ℕ
  pub line : List ℕ
  pub rest : List ℕ
  pub is_input : input ≡ lines ++ (line ++ rest)
  pub is_left : left ≡ Some rest
  pub begun : IsBegun line held
  pub answers : List ℕ
  pub are_answers : AreEndedAnswers lines answers
  pub sent : IsSent before now answers

pub part_way_at_start : (input : List ℕ) (before : Output) (left : Option (List ℕ)) → left ≡ Some input → IsPartWay input before left [] before
part_way_at_start input before left is = record {
  lines = [];
  line = [];
  rest = input;
  is_input = refl;
  is_left = is;
  begun = nothing_begun;
  answers = [];
  are_answers = no_ended;
  sent = sends_nothing before;
}

module _ (input : List ℕ) (before : Output) (left : Option (List ℕ)) (held : List ℕ) (now : Output) (way : IsPartWay input before left held now) where
  -- a piece is read, and what comes behind it isn't
  next : (piece : List ℕ) (left_after : Option (List ℕ)) → Consumes left left_after piece
      → (rest : List ℕ) × (left_after ≡ Some rest) × (way.rest ≡ piece ++ rest)
  next piece None consumes = absurd (rw way.is_left at consumes)
  next piece (Some rest) consumes = (rest, refl, rw way.is_left at consumes)

  -- the lines that ended in it, behind the others
  parts : (piece rest : List ℕ) → way.rest ≡ piece ++ rest → (lines behind : List ℕ) → way.line ++ piece ≡ lines ++ behind
      → input ≡ (way.lines ++ lines) ++ (behind ++ rest)
  parts piece rest is_rest lines behind split =
      way.is_input ∙ ap (λ back. way.lines ++ back) (
      ap (λ back. way.line ++ back) is_rest ∙ sym (append_assoc way.line piece rest) ∙ ap (λ front. front ++ rest) split
      ∙ append_assoc lines behind rest
      ) ∙ sym (append_assoc way.lines lines (behind ++ rest))

  module _ (piece : List ℕ) (left_after : Option (List ℕ)) (consumes : Consumes left left_after piece) where
    -- one piece more, which is answered
    pub part_way_with : (held_after : List ℕ) (after : Output) → HasAnsweredPiece way.line piece held_after now after
        → IsPartWay input before left_after held_after after
    part_way_with held_after after answered =
        let (rest, is_left, is_rest) = next piece left_after consumes in
        record {
          lines = way.lines ++ answered.lines;
          line = answered.left;
          rest = rest;
          is_input = parts piece rest is_rest answered.lines answered.left answered.split;
          is_left = is_left;
          begun = answered.begun;
          answers = way.answers ++ answered.answers;
          are_answers = ended_more answered.lines answered.answers way.lines way.answers way.are_answers answered.are_answers;
          sent = sends_more before now after.holds way.answers answered.answers after.held_back way.sent answered.sent;
        }

    -- it stopped in a piece
    pub part_way_stopped_in : (fault : StreamFault) (after : Output) → HasStoppedIn way.line piece fault now after
        → HasStopped input fault before after
    part_way_stopped_in fault after stopped =
        let (rest, is_left, is_rest) = next piece left_after consumes in
        record {
          answers = way.answers ++ stopped.answers;
          are_first = record {
            lines = way.lines ++ stopped.lines;
            rest = stopped.left ++ rest;
            is_input = parts piece rest is_rest stopped.lines stopped.left stopped.split;
            are_answers = inl (ended_more stopped.lines stopped.answers way.lines way.answers way.are_answers stopped.are_answers);
          };
          rest = stopped.rest;
          sent = record {
            sends = sends_more before now after.holds way.answers stopped.answers stopped.rest way.sent stopped.sent.sends;
            is_held_back = stopped.sent.is_held_back;
          };
        }

  first : AreFirstAnswers input way.answers
  first = record { lines = way.lines; rest = way.line ++ way.rest; is_input = way.is_input; are_answers = inl way.are_answers }

  -- what was held back is sent
  pub part_way_sent : (after : Output) → IsSent now after [] → IsPartWay input before left held after
  part_way_sent after sent = record {
    lines = way.lines;
    line = way.line;
    rest = way.rest;
    is_input = way.is_input;
    is_left = way.is_left;
    begun = way.begun;
    answers = way.answers;
    are_answers = way.are_answers;
    sent = rw append-nil at (sends_more before now after.holds way.answers [] after.held_back way.sent sent);
  }

  -- it stopped before what comes next
  pub part_way_stopped : (fault : StreamFault) → HasStopped input fault before now
  part_way_stopped fault = record {
    answers = way.answers;
    are_first = first;
    rest = now.held_back;
    sent = record { sends = way.sent; is_held_back = inr refl };
  }

  -- a read failed, which consumes nothing
  pub part_way_answered : (left_after : Option (List ℕ)) → Keeps left left_after → (before.held_back ≡ [] → now.held_back ≡ [])
      → HasAnsweredBefore input left_after before now
  part_way_answered None keeps empty = absurd (rw way.is_left at keeps)
  part_way_answered (Some rest) keeps empty =
      let same : rest ≡ way.rest = rw way.is_left at keeps in
      let read : AreAnswersRead input (Some rest) way.answers =
      record {
        lines = way.lines;
        line = way.line;
        rest = way.rest;
        is_input = way.is_input;
        unbroken = way.begun.unbroken;
        is_left = ap Some same;
        are_answers = way.are_answers;
      }
      in
      (way.answers, read, way.sent, empty)

  -- what was held back is sent in part
  pub part_way_stopped_writing : (after : Output) (rest : List ℕ) → Sends now [] after.holds rest → HasStopped input Write before after
  part_way_stopped_writing after rest sends = record {
    answers = way.answers;
    are_first = first;
    rest = rest;
    sent = record {
      sends = rw append-nil at (sends_more before now after.holds way.answers [] rest way.sent sends);
      is_held_back = inl refl;
    };
  }

  -- ---- at the end of the input
  module _ (buffer : List ℕ) (count : ℕ) (left_after : Option (List ℕ)) (consumes : Consumes left left_after (take count buffer)) (zero : count ≡ 0)
      (end : IsAtEnd left_after) where
    at_end : way.line ++ way.rest ≡ way.line
    at_end =
        let (rest, is_left, is_rest) = next (take count buffer) left_after consumes in
        let done : rest ≡ [] = rw is_left at end in
        ap (λ back. way.line ++ back) (is_rest ∙ ap (λ n. take n buffer ++ rest) zero ∙ done) ∙ append-nil way.line

    all_lines : (answers : List ℕ) → AreAnswers way.line answers → AreAnswers input (way.answers ++ answers)
    all_lines answers are = rw (way.is_input, at_end) (ended_then way.line answers way.lines way.answers way.are_answers are)

    -- what is left of the line was answered too
    pub part_way_at_end : (answers : List ℕ) (after : Output) → AreAnswers way.line answers → IsSent now after answers
        → (all : List ℕ) × AreAnswers input all × IsSent before after all
    part_way_at_end answers after are sent = (
      way.answers ++ answers,
      all_lines answers are,
      sends_more before now after.holds way.answers answers after.held_back way.sent sent,
    )

    -- or it stopped there
    pub stopped_at_end : 0 < length held → (fault : StreamFault) (after : Output) → HasStoppedAt held fault now after
        → HasStopped input fault before after
    stopped_at_end some Memory after same = rw same (part_way_stopped Memory)
    stopped_at_end some Write after (answer, is, rest, sends) =
        let counted = kept_bytes way.line held way.begun in
        let more : 0 < length way.line = omega arith in
        record {
          answers = way.answers ++ answer;
          are_first = record {
            lines = input;
            rest = [];
            is_input = sym (append-nil input);
            are_answers = inr (
              refl,
              all_lines answer
                  (last_line way.line answer more way.begun.unbroken (of_whole way.line held answer way.begun.is_kept is)),
            );
          };
          rest = rest;
          sent = record {
            sends = sends_more before now after.holds way.answers answer rest way.sent sends;
            is_held_back = inl refl;
          };
        }
    stopped_at_end some Read after none = absurd none

-- ---- how calls end

module _ {T E : Type 0} where
  -- an answer was sent
  pub answer_sent : (end : Result T E) (line answer bytes : List ℕ) (before after : Output) → bytes ≡ answer → IsReplyTo line answer
      → (rest : List ℕ) × Sends before bytes after.holds rest × OnOk end (rest ≡ after.held_back)
      → OnOk end ((answer : List ℕ) × IsReplyTo line answer × IsSent before after answer)
  answer_sent (Ok _) line answer bytes before after same is (rest, sends, all) = (answer, is, rw (same, all) at sends)
  answer_sent (Err _) line answer bytes before after same is sent = tt

  -- all is answered, and what was held back at the end is written
  pub all_written : (end : Result T E) (left : Option (List ℕ)) (before now : Output) (after : Option (List ℕ))
      (P : (input held : List ℕ) → Type 0) → ((input held : List ℕ) → HoldsAnswers input held after → P input held)
      → IfSome left (λ input. (answers : List ℕ) × AreAnswers input answers × IsSent before now answers)
      → OnOk end (IfSome now.holds (λ held. after ≡ Some (held ++ now.held_back)))
      → OnOk end (IfSome left (λ input. (held : List ℕ) → HoldsAll held before → P input held))
  all_written (Ok _) left before now after P says answered wrote = for_known left _ (λ input is_input held all.
      let (answers, are, (first, holds, whole)) = rw (is_input, all.0, all.1) at answered in
      let then : after ≡ Some ((held ++ first) ++ now.held_back) = rw holds at wrote in
      says input held (answers, are, then ∙ ap Some (append_assoc held first now.held_back ∙ ap (λ behind. held ++ behind) (sym whole))))
  all_written (Err _) left before now after P says answered wrote = tt

-- memory ran out, or a write failed in the answer to a line
module _ {T : Type 0} where
  pub answer_stopped : (end : Result T StreamFault) (line answer bytes : List ℕ) (before after : Output)
      → bytes ≡ answer → IsReplyTo line answer → (rest : List ℕ) × Sends before bytes after.holds rest × OnOk end (rest ≡ after.held_back)
      → MatchResult end (λ _. after.failed ≡ before.failed) (λ fault. IsWriteFailure fault before.failed after.failed)
      → IfErr end (λ fault. fault ≡ Memory → after ≡ before) → IfErr end (λ fault. HasStoppedAt line fault before after)
  answer_stopped (Ok _) line answer bytes before after equal is sent failed same = tt
  answer_stopped (Err Memory) line answer bytes before after equal is sent failed same = same refl
  answer_stopped (Err Write) line answer bytes before after equal is (rest, sends, _) failed same =
      (answer, is, rest, rw equal at sends)
  answer_stopped (Err Read) line answer bytes before after equal is sent failed same = absurd failed

-- ---- how a run ends that stopped

-- of what wasn't sent then, some more is written
pub begun_with : (input held answers first written others rest : List ℕ) (holds after : Option (List ℕ)) → AreFirstAnswers input answers
    → holds ≡ Some (held ++ first) → answers ≡ first ++ rest → rest ≡ written ++ others
    → IfSome holds (λ held. after ≡ Some (held ++ written)) → HasBegunAnswers input held after
begun_with input held answers first written others rest holds after are is whole parts then = record {
  answers = answers;
  are_first = are;
  written = first ++ written;
  others = others;
  parts = whole ∙ ap (λ back. first ++ back) parts ∙ sym (append_assoc first written others);
  is = rw is at then ∙ ap Some (append_assoc held first written);
}

-- of what was held back a beginning was written
abbrev SomeWritten : Output → (after : Option (List ℕ)) → Type 0
SomeWritten now after = IfSome now.holds (λ held.
    (written : List ℕ) × (others : List ℕ) × (now.held_back ≡ written ++ others) × (after ≡ Some (held ++ written)))

-- as much of it as a last write wrote
module _ {T : Type 0} where
  pub begun_at_last : (end : Result T StreamFault) (input held answers first : List ℕ) (now : Output) (after : Option (List ℕ))
      → AreFirstAnswers input answers → now.holds ≡ Some (held ++ first) → answers ≡ first ++ now.held_back
      → OnOk end (IfSome now.holds (λ held. after ≡ Some (held ++ now.held_back))) → OnErr end (SomeWritten now after)
      → HasBegunAnswers input held after
  begun_at_last (Ok _) input held answers first now after are is whole all some =
      begun_with input held answers first now.held_back [] now.held_back now.holds after are is whole (sym (append-nil now.held_back)) all
  begun_at_last (Err _) input held answers first now after are is whole all some =
      let (written, others, parts, then) = rw is at some in
      begun_with input held answers first written others now.held_back (Some (held ++ first)) after are refl whole parts then

front_of_nothing : (front back : List ℕ) → front ++ back ≡ [] → front ≡ []
front_of_nothing front back none =
    let together = length-append front back in
    let zero = ap length none in
    nil_from_length front (omega arith)

-- a run that stopped, and then wrote what was held back, unless a write had failed
sent_so_far : (before : Output) (held answers rest : List ℕ) (holds : Option (List ℕ)) → HoldsAll held before
    → Sends before answers holds rest → (first : List ℕ) × (holds ≡ Some (held ++ first)) × (answers ≡ first ++ rest)
sent_so_far before held answers rest holds all sends = rw (all.0, all.1) at sends

module _ (left : Option (List ℕ)) (before now : Output) (fault : StreamFault) (stopped : IfSome left (λ input. HasStopped input fault before now)) where
  begun_by : (after : Option (List ℕ)) → ((input held : List ℕ) → HoldsAll held before → HasStopped input fault before now
      → HasBegunAnswers input held after) → IfSome left (λ input. (held : List ℕ) → HoldsAll held before → HasBegunAnswers input held after)
  begun_by after says = for_known left _ (λ input is_input held all. says input held all (rw is_input at stopped))

  pub begun_unwritten : IfSome left (λ input. (held : List ℕ) → HoldsAll held before → HasBegunAnswers input held now.holds)
  begun_unwritten = begun_by now.holds (λ input held is_held at_input.
      let (first, holds, whole) = sent_so_far before held at_input.answers at_input.rest now.holds is_held at_input.sent.sends in
      record { answers = at_input.answers; are_first = at_input.are_first; written = first; others = at_input.rest; parts = whole; is = holds })

  pub begun_held_back : {T : Type 0} (end : Result T StreamFault) (after : Option (List ℕ)) → fault ≢ Write
      → OnOk end (IfSome now.holds (λ held. after ≡ Some (held ++ now.held_back)))
      → OnErr end (SomeWritten now after) → IfSome left (λ input. (held : List ℕ) → HoldsAll held before → HasBegunAnswers input held after)
  begun_held_back end after other all some = begun_by after (λ input held is_held at_input.
      let (first, holds, whole) = sent_so_far before held at_input.answers at_input.rest now.holds is_held at_input.sent.sends in
      let rest : at_input.rest ≡ now.held_back = ⊎_elim (λ is. absurd (other is)) (λ is. is) at_input.sent.is_held_back in
      begun_at_last end input held at_input.answers first now after at_input.are_first holds (whole ∙ ap (λ back. first ++ back) rest) all some)

-- a read failed, and nothing was held back
module _ {T : Type 0} (left left_after : Option (List ℕ)) (before now : Output)
    (answered : IfSome left (λ input. HasAnsweredBefore input left_after before now)) where
  written_nothing : (end : Result T StreamFault) (held : List ℕ) (after : Option (List ℕ)) → now.held_back ≡ [] → now.holds ≡ Some held
      → OnOk end (IfSome now.holds (λ held. after ≡ Some (held ++ now.held_back))) → OnErr end (SomeWritten now after) → after ≡ Some held
  written_nothing (Ok _) held after empty is all some =
      let then : after ≡ Some (held ++ now.held_back) = rw is at all in
      then ∙ ap (λ back. Some (held ++ back)) empty ∙ ap Some (append-nil held)
  written_nothing (Err _) held after empty is all some =
      let (written, others, parts, then) = rw is at some in
      let nothing : written ≡ [] = front_of_nothing written others (sym parts ∙ empty) in
      then ∙ ap (λ back. Some (held ++ back)) nothing ∙ ap Some (append-nil held)

  pub answered_read : (end : Result T StreamFault) (after : Option (List ℕ))
      → OnOk end (IfSome now.holds (λ held. after ≡ Some (held ++ now.held_back))) → OnErr end (SomeWritten now after)
      → IfSome left (λ input. (held : List ℕ) → HoldsAll held before → HasAnsweredRead input held left_after after)
  answered_read end after all some = for_known left _ (λ input is_input held is_held.
      let (answers, read, is_sent, is_empty) = rw is_input at answered in
      let (first, holds, whole) = sent_so_far before held answers now.held_back now.holds is_held is_sent in
      let empty : now.held_back ≡ [] = is_empty is_held.1 in
      let sent : first ≡ answers = sym (whole ∙ ap (λ back. first ++ back) empty ∙ append-nil first) in
      (answers, read, written_nothing end (held ++ first) after empty holds all some ∙ ap (λ back. Some (held ++ back)) sent))

-- all was answered, and the last write failed
module _ {T : Type 0} where
  pub begun_at_end : (end : Result T StreamFault) (left : Option (List ℕ)) (before now : Output) (after : Option (List ℕ))
      → IfSome left (λ input. (answers : List ℕ) × AreAnswers input answers × IsSent before now answers) → OnErr end (SomeWritten now after)
      → OnErr end (IfSome left (λ input. (held : List ℕ) → HoldsAll held before → HasBegunAnswers input held after))
  begun_at_end (Ok _) left before now after answered some = tt
  begun_at_end (Err fault) left before now after answered some = for_known left _ (λ input is_input held is_held.
      let (answers, are, sent) = rw is_input at answered in
      let (first, holds, whole) = sent_so_far before held answers now.held_back now.holds is_held sent in
      let all : AreFirstAnswers input answers =
      record { lines = input; rest = []; is_input = sym (append-nil input); are_answers = inr (refl, are) } in
      begun_at_last {T = T} (Err fault) input held answers first now after all holds whole tt some)

-- how a call ends by how another did
module _ {T E : Type 0} (P Q : E → Type 0) (R : Type 0) where
  pub if_err_both : (end : Result T E) → IfErr end P → OnErr end R → ((fault : E) → P fault → R → Q fault) → IfErr end Q
  if_err_both (Ok _) p r says = tt
  if_err_both (Err fault) p r says = says fault p r
