use Rattle.std.proofs.Common.{◌≡◌, ◌∙◌, ◌*◌, ◌<◌, ◌⊎◌, arith, inl, inr, min}
use Rattle.std.specs.Int.{div_ceil}
use Rattle.zarrs_chunk_tasks.specs.Counts.{greatest_of_128}
use Rattle.zarrs_chunk_tasks.proofs.LeastStage.{cost_is_least}
use Rattle.zarrs_chunk_tasks.proofs.least.cost_within.Goals.{then-divisor, else-divisor}
use Rattle.zarrs_chunk_tasks.proofs.least.cost_within.Goals as goal

pub returns : goal.returns
returns c = λ all reads are enough.
    let limits = c.args.limits.now in
    let divisor_is = rw c.from.ensures at c.saturating_mul-divisor.ensures in
    let by_room : (c.if-divisor.by_room ≡ 0) ⊎ ((c.saturating_mul-divisor.result < greatest_of_128)
    × (c.if-divisor.by_room ≡ div_ceil (min (limits.elements * limits.larger) greatest_of_128) c.saturating_mul-divisor.result)) =
    elim c.if-divisor.branch [
      | then-divisor w ↦ inl w.by_room-is
      | else-divisor w ↦
          inr (omega (arith, w.if-divisor.false, c.saturating_mul-divisor.type_inv), w.by_room-is ∙ rw w.saturating_mul.ensures at w.div_ceil-by_room.ensures)
    ] in
    cost_is_least all limits c.args.room reads c.saturating_mul-divisor.result c.if-divisor.by_room c.requires.room are enough divisor_is by_room c.args.read_elements
    c.max-reads.result c.max-decoded.result c.saturating_add.result c.max-reads.ensures (rw c.saturating_mul-2.ensures at c.max-decoded.ensures)
    (rw (c.saturating_mul-3.ensures, c.from-2.ensures) at c.saturating_add.ensures)
