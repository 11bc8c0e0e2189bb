use Rattle.std.proofs.Common.{◌≡◌, ◌*◌, arith}
use Rattle.std.proofs.lemmas.List.Elements.{All-from_get_or, recursion_from_All}
use Rattle.zarrs_chunk_batches.proofs.lists.check_lengths.Goals as goal

pub returns : goal.returns
returns c =
    let ended = c.loop-total-test.false in
    recursion_from_All _ c.args.totals.now
    (All-from_get_or (λ total. total ≡ c.args.width * c.args.count) c.args.totals.now 0 (λ k less. c.loop-total.invariant k (omega arith)))
