use Rattle.std.proofs.Common.{◌≡◌, ℕ, ◌*◌, ◌<◌, get_or}
use Rattle.zarrs_chunk_batches.proofs.lists.check_lengths.Given as goal

-- the numbers so far are as they should be
abbrev pub invariant-loop-total : goal.invariant-loop-total
invariant-loop-total l = (k : ℕ) → k < l.total-index → get_or l.totals k 0 ≡ l.width * l.count
