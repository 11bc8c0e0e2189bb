use Rattle.std.proofs.Common.{◌≡◌, arith, rules, sym}
use Rattle.zarrs_chunk_axes.proofs.ListedAxes.{bounds_after, length_between}
use Rattle.zarrs_chunk_axes.proofs.listed_axis.ListedAxis.bounds.Goals as goal

pub returns-in_err-end : goal.returns-in_err-end
returns-in_err-end c =
    let lengths = length_between 0 c.args.self.now.ends.items in
    rw lengths (search rules)

pub returns-in-Some : goal.returns-in-Some
returns-in-Some c =
    let found = rw c.deref.ensures.value at c.in_ok-end.ensures.lookup in
    let before = c.in-Some.ensures in
    let same : c.in_ok-chunk.chunk ≡ c.args.chunk = search rules in
    rw (sym same) (bounds_after c.args.self.now.ends.items c.args.self.now.rising c.in_ok-chunk.chunk c.in-Some.before _
    (omega (arith, before)) found.3.0 (sym c.index.ensures) (sym found.1))
