use Rattle.std.proofs.Common.{◌<◌, length, below_more, subst, arith}
use Rattle.zarrs_chunk_batches.proofs.Batches.{answered_one_more, kept_one_more, marked}
use Rattle.zarrs_chunk_batches.specs.Batch.{AreAnswered, AreKept}
use Rattle.zarrs_chunk_batches.proofs.batch.answer_all.Goals as goal

pub loop-number-preserved : goal.loop-number-preserved
loop-number-preserved g c =
    let questions = c.args.questions.now in
    let answers = c.in-Ok.ensures in
    let before = c.loop-number.invariant in
    let found = c.in-Ok.is_found in
    let same_length = c.loop-number.auto.found in
    let within : c.loop-number.number < length c.loop-number.found = rw same_length c.loop-number-test.true in
    let widths = c.widths-widths.result in
    record {
      answered = answered_one_more (g.Q.Questions.answered questions) (g.Q.Questions.unanswered questions) widths _ _ _ _
          c.loop-number.found c.loop-number.number c.mark_of.result before.answered within answers.other_first answers.other_second
          (rw c.mark_of.ensures (marked found _ _ answers.answered));
      first_kept = rw c.mark_of.ensures
          (kept_one_more widths.0 c.loop-number.number found _ _ _ c.loop-number.found before.first_kept within
          answers.first_kept answers.other_first);
      second_kept = rw c.mark_of.ensures
          (kept_one_more widths.1 c.loop-number.number found _ _ _ c.loop-number.found before.second_kept within
          answers.second_kept answers.other_second);
      asked = below_more _ _ before.asked answers.asked;
    }

pub returns-clause-answered : goal.returns-clause-answered
returns-clause-answered g c =
    let questions = c.args.questions.now in
    let same_length = c.loop-number.auto.found in
    let ended = c.loop-number-test.false in
    subst
    (λ widths. AreAnswered (g.Q.Questions.answered questions) (g.Q.Questions.unanswered questions) widths c.loop-number.first c.loop-number.second
    c.loop-number.found)
    c.widths-widths.ensures (λ number less. c.loop-number.invariant.answered number (omega arith))

pub returns-clause-first_kept : goal.returns-clause-first_kept
returns-clause-first_kept g c =
    subst (λ widths. AreKept widths.0 c.args.first.now c.loop-number.first c.loop-number.found) c.widths-widths.ensures
    (λ k unmarked. c.loop-number.invariant.first_kept k (λ _. unmarked))

pub returns-clause-second_kept : goal.returns-clause-second_kept
returns-clause-second_kept g c =
    subst (λ widths. AreKept widths.1 c.args.second.now c.loop-number.second c.loop-number.found) c.widths-widths.ensures
    (λ k unmarked. c.loop-number.invariant.second_kept k (λ _. unmarked))

pub returns-clause-asked : goal.returns-clause-asked
returns-clause-asked g c =
    let same_length = c.loop-number.auto.found in
    let ended = c.loop-number-test.false in
    λ number less. c.loop-number.invariant.asked number (omega arith)
