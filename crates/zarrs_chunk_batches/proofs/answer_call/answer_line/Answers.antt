use Rattle.std.proofs.Common.{inl, inr, ⊎_elim, refl, subst, sym}
use Rattle.std.proofs.lemmas.Result.{MatchResult-weaker}
use Rattle.zarrs_chunk_batches.specs.Calls.{late}
use Rattle.zarrs_chunk_questions.specs.AnswerLine.{IsAnswerTo}
use Rattle.zarrs_chunk_batches.specs.PlanCall.{answer_call}
use Rattle.zarrs_chunk_batches.proofs.Ends.{ends_with, in_front}
use Rattle.zarrs_chunk_batches.proofs.answer_call.answer_line.Goals as goal

pub returns-in_default-clause-ends : goal.returns-in_default-clause-ends
returns-in_default-clause-ends c =
    let found = c.in_ok-answer.ensures in
    inr (late tt tt tt (refl, inr (refl, found.long c.in_default.is, found.longer c.in_default.is)))

pub returns-clause-ends : goal.returns-clause-ends
returns-clause-ends c =
    let question = c.args.question.now in
    let line = c.deref.result.now in
    let wrote = c.write_front.new in
    let told = c.write_front.ensures in
    let found = c.in_ok-answer.ensures in
    let is_answer = subst (IsAnswerTo question) (sym c.deref.ensures.value) (rw c.in-Some.is at found.one, rw c.in-Some.is at found.says) in
    ends_with (answer_call question wrote.buffer wrote.needed) tt c.write_front.result tt tt
    (MatchResult-weaker c.write_front.result
    (in_front (IsAnswerTo question) line wrote.buffer wrote.needed c.write_front.result told.told is_answer told.fits told.written told.short)
    (λ _ whole. whole) (λ fault is. ⊎_elim (λ memory. inl memory) (λ short. inr (short.0, inl short.1)) is))
