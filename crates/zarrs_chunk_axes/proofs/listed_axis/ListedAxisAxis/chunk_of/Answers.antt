use Rattle.std.proofs.Common.{arith}
use Rattle.zarrs_chunk_axes.proofs.ListedAxes.{first_holds, length_between, none_holds}
use Rattle.zarrs_chunk_axes.proofs.listed_axis.ListedAxisAxis.chunk_of.Goals as goal

pub returns-then-chunk-len : goal.returns-then-chunk-len
returns-then-chunk-len c =
    let lengths = length_between 0 c.args.self.now.ends.items in
    first_holds _ _ _ _ c.first_past-chunk.ensures (omega (arith, c.if-chunk-len.true))

pub returns-else-chunk-len : goal.returns-else-chunk-len
returns-else-chunk-len c =
    let lengths = length_between 0 c.args.self.now.ends.items in
    none_holds _ _ _ _ c.first_past-chunk.ensures (omega (arith, c.if-chunk-len.false))
