use Rattle.programs.specs.chunkplan.Planned.{text_of_line}
use Rattle.programs.specs.chunkplan.seen.Steps.{ReadLeaves}
use Rattle.programs.proofs.chunkplan.Common.{◌≡◌, ◌∙◌, ◌++◌, [], Some, ap, append-nil, false, subst, sym, true≢false, has_failed, watched}
use Rattle.std.proofs.Common.{IfErr}
use Rattle.programs.proofs.chunkplan.Common.{List, Result, Ok, Err, RunFault, Read, StreamFault, ℕ, inl, inr, of_stream, arith}
use Rattle.streams.specs.declared.stream_fault.StreamFault.TheVariants.{Read as ReadFailed}
use Rattle.programs.specs.chunkplan.seen.Reads.{ReadFailsAfter}
use Rattle.programs.proofs.chunkplan.Exits.{handed}
use Rattle.programs.proofs.chunkplan.Common.{HasKeysBehind, behind_first, first_line, left, written, for_known, both_parts, nothing_left}
use Rattle.programs.proofs.chunkplan.Inputs.{sent_after_reading, sent_beside_keys}
use Rattle.programs.proofs.chunkplan.answer_input.Goals.{then-ended+in_ok-read_rest, else-ended}
use Rattle.programs.proofs.chunkplan.answer_input.Goals as goal

pub returns-then-branch-clause-leaves : goal.returns-then-branch-clause-leaves
returns-then-branch-clause-leaves g c =
    for_known (g.R.Read.remaining (watched c.args.reader.now)) _ (λ input is not_read.
    let all : left c.new-lines.result (g.R.Read.remaining (watched c.args.reader.now)) ≡ Some input =
    rw is (ap (λ xs. Some (xs ++ input)) c.new-lines.ensures)
    in
    let line : c.read_line.new.line.items ≡ first_line input =
    (rw all at c.in_ok-ended.ensures.line) ∙ ap (λ xs. xs ++ first_line input) c.new-input.ensures.items
    in
    let behind = rw all at c.in_ok-ended.ensures.behind in
    let has : HasKeysBehind (first_line input) = rw (c.deref.ensures.value ∙ line) at (c.in_ok-has_keys_behind.ensures.0 c.if-branch.true) in
    let before = written g.W.Write.contents c.args.sink.now in
    let after = written g.W.Write.contents c.answer_beside_keys.new.sink in
    let read = has_failed c.answer_beside_keys.new.reader in
    let rest = g.R.Read.remaining (watched c.answer_beside_keys.new.reader) in
    sent_beside_keys input read rest before after c.answer_beside_keys.result has _ (c.in_ok-ended.ensures.failed ∙ not_read)
    (subst (λ l. ReadLeaves (text_of_line l (behind_first input)) c.answer_beside_keys.result (has_failed c.read_line.new.reader) read rest before after)
    line (c.answer_beside_keys.ensures.leaves (behind_first input) behind)))

pub returns-clause-leaves : goal.returns-clause-leaves
returns-clause-leaves g c =
    for_known (g.R.Read.remaining (watched c.args.reader.now)) _ (λ input is not_read.
    let all : left c.new-lines.result (g.R.Read.remaining (watched c.args.reader.now)) ≡ Some input =
    rw is (ap (λ xs. Some (xs ++ input)) c.new-lines.ensures)
    in
    let line : c.read_line.new.line.items ≡ first_line input =
    (rw all at c.in_ok-ended.ensures.line) ∙ ap (λ xs. xs ++ first_line input) c.new-input.ensures.items
    in
    let behind = rw all at c.in_ok-ended.ensures.behind in
    let none : ¬ HasKeysBehind (first_line input) = λ has.
    true≢false (sym (c.in_ok-has_keys_behind.ensures.1 (subst HasKeysBehind (sym (c.deref.ensures.value ∙ line)) has)) ∙ c.if-branch.false)
    in
    let read : (has_failed c.if-ended.reader ≡ false) × (g.R.Read.remaining (watched c.if-ended.reader) ≡ Some []) × (c.if-ended.input.items ≡ input) =
    elim c.if-ended.branch [
      | then-ended+in_ok-read_rest w ↦
          rw (w.reader-is, w.input-is) (
            w.in_ok-read_rest.ensures.failed ∙ c.in_ok-ended.ensures.failed ∙ not_read,
            rw behind at w.in_ok-read_rest.ensures.end,
            (rw behind at w.in_ok-read_rest.ensures.rest) ∙ ap (λ xs. xs ++ behind_first input) line ∙ sym (both_parts input),
          )
      | else-ended w ↦
          let nothing : behind_first input ≡ [] = rw all at (c.in_ok-ended.ensures.end w.if-ended.false) in
          rw (w.reader-is, w.input-is) (
            c.in_ok-ended.ensures.failed ∙ not_read,
            nothing_left c.read_line.new.self _ (rw nothing at behind),
            line ∙ sym (both_parts input ∙ ap (λ xs. first_line input ++ xs) nothing ∙ append-nil (first_line input)),
          )
    ]
    in
    sent_after_reading input _ _ (written g.W.Write.contents c.args.sink.now)
    (written g.W.Write.contents c.answer.new.sink) c.answer.result read.0 read.1 ((rw read.2 at c.answer.ensures) none))

-- ---- a failed read

-- what holds however a step ends
if_err : {T E : Type 0} (r : Result T E) (Q : E → Type 0) (P : Type 0) → P → IfErr r (λ e. Q e → P)
if_err (Ok _) Q P is = tt
if_err (Err _) Q P is = λ _. is

read_told : (told : StreamFault) → of_stream told ≡ Read → told ≡ ReadFailed
read_told told is = grind arith

module _ (T : Result (List ℕ) RunFault → Type 0) (P : Type 0) (step : ((text : List ℕ) × T (Ok text)) → P) where
  -- a read fails only where there is a text
  read_after : (r : Result (Unit {0}) RunFault) → ReadFailsAfter T r → IfErr r (λ fault. fault ≡ Read → P)
  read_after (Ok _) fails = tt
  read_after (Err fault) fails = λ is. step (subst (λ fault. ReadFailsAfter T (Err fault)) is fails)

pub returns-in_err-ended-clause-read : goal.returns-in_err-ended-clause-read
returns-in_err-ended-clause-read g c =
    rw (handed c.from_residual.result _ c.from_residual.ensures.1) (λ is_read.
    for_known (g.R.Read.remaining (watched c.args.reader.now)) _ (λ input is _.
    let all : left c.new-lines.result (g.R.Read.remaining (watched c.args.reader.now)) ≡ Some input =
    rw is (ap (λ xs. Some (xs ++ input)) c.new-lines.ensures)
    in
    let (begun, rest, whole, unended, _, now) = rw all at (c.in_err-ended.ensures.cut (read_told c.in_err-ended.field-0.0 is_read)) in
    inl (begun, rest, whole, unended, now)))

pub returns-then-branch-clause-read : goal.returns-then-branch-clause-read
returns-then-branch-clause-read g c =
    read_after (text_of_line c.read_line.new.line.items []) _ (λ has.
    for_known (g.R.Read.remaining (watched c.args.reader.now)) _ (λ input is _.
    let all : left c.new-lines.result (g.R.Read.remaining (watched c.args.reader.now)) ≡ Some input =
    rw is (ap (λ xs. Some (xs ++ input)) c.new-lines.ensures)
    in
    let line : c.read_line.new.line.items ≡ first_line input =
    (rw all at c.in_ok-ended.ensures.line) ∙ ap (λ xs. xs ++ first_line input) c.new-input.ensures.items
    in
    inr (subst (λ l. (text : List ℕ) × text_of_line l [] (Ok text)) line has)))
    c.answer_beside_keys.result c.answer_beside_keys.ensures.keys_last

pub returns-clause-read : goal.returns-clause-read
returns-clause-read g c =
    if_err c.answer.result (λ fault. fault ≡ Read) _ (for_known (g.R.Read.remaining (watched c.args.reader.now)) _ (λ input is has.
    let all : left c.new-lines.result (g.R.Read.remaining (watched c.args.reader.now)) ≡ Some input =
    rw is (ap (λ xs. Some (xs ++ input)) c.new-lines.ensures)
    in
    let line : c.read_line.new.line.items ≡ first_line input =
    (rw all at c.in_ok-ended.ensures.line) ∙ ap (λ xs. xs ++ first_line input) c.new-input.ensures.items
    in
    absurd (true≢false (sym (c.in_ok-has_keys_behind.ensures.1 (subst HasKeysBehind (sym (c.deref.ensures.value ∙ line)) has)) ∙ c.if-branch.false))))
