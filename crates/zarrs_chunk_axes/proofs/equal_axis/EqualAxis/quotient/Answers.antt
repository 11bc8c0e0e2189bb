use Rattle.std.proofs.Common.{◌+◌, ◌*◌, ◌/◌, ◌^◌, ◌<◌, ◌≤◌, arith}
use Rattle.std.proofs.Math.Nat.{div-mul-le_self, lt-div-mul-add}
use Rattle.std.specs.Int.NonZero.{non_zero_u64_get}
use Rattle.zarrs_chunk_base.specs.Greatest.{greatest}
use Rattle.zarrs_chunk_axes.specs.lemmas.Multiples.{below_next}
use Rattle.zarrs_chunk_axes.proofs.Inverses.{not_less, not_more}
use Rattle.zarrs_chunk_axes.proofs.equal_axis.EqualAxis.quotient.Goals as goal

pub returns-then-number : goal.returns-then-number
returns-then-number c =
    let axis = c.args.self.now in
    let number = c.args.number in
    let edge = non_zero_u64_get axis.edge in
    let inverse = axis.inverse in
    let some : 0 < edge = axis.edge.ok in
    let small : number < 2 ^ 32 = omega arith in
    let most : inverse * edge ≤ greatest = rw axis.is_inverse (div-mul-le_self greatest edge) in
    let close : greatest < inverse * edge + edge = rw axis.is_inverse (lt-div-mul-add some) in
    let least : number / edge * 2 ^ 64 ≤ (number + 1) * inverse =
    not_less number edge inverse small some most close (number / edge) (div-mul-le_self number edge) in
    let below : (number + 1) * inverse < (number / edge + 1) * 2 ^ 64 =
    not_more number edge inverse small some most close (number / edge) (below_next number edge some) in
    rw (c.from.ensures, c.from-then-number.ensures) (omega arith)
