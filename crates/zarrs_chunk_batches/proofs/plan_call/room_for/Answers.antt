use Rattle.std.proofs.lemmas.Result.{MatchResult-weaker, err_from_is_err_and}
use Rattle.zarrs_chunk_batches.proofs.plan_call.room_for.Goals as goal

pub returns-in_err-check_lengths : goal.returns-in_err-check_lengths
returns-in_err-check_lengths c =
    let p = err_from_is_err_and c.from_residual.result c.from_residual.ensures.1 in
    let (is_length, differ) = c.in_err-check_lengths.ensures in
    rw (p.1, p.2) (is_length, λ room has. differ has.0)

pub returns : goal.returns
returns c =
    MatchResult-weaker c.count_of_texts.result c.count_of_texts.ensures (λ room is. (c.in_ok-check_lengths.ensures, is))
    (λ fault is. (is.0, λ room has. is.1 (room, has.1)))
