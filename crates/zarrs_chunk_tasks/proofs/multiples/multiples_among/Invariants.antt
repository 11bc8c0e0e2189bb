use Rattle.std.specs.Prelude.{◌≡◌, ◌<◌}
use Rattle.std.specs.Int.NonZero.{non_zero_u64_get}
use Rattle.zarrs_chunk_tasks.specs.seen.Multiples.{multiples}
use Rattle.zarrs_chunk_tasks.proofs.multiples.multiples_among.Given as goal

-- the number that is looked for stays the same
abbrev pub invariant-loop-rest : goal.invariant-loop-rest
invariant-loop-rest l =
    (multiples (non_zero_u64_get l.of) l.step l.first l.many
    ≡ multiples (non_zero_u64_get l.fn.of) l.fn.step l.fn.first l.fn.many)
    × (l.step < non_zero_u64_get l.of) × (l.first < non_zero_u64_get l.of)

abbrev pub decreases-loop-rest : goal.decreases-loop-rest
decreases-loop-rest l = non_zero_u64_get l.of
