use Rattle.std.proofs.Common.{◌≡◌, ◌+◌, ◌-◌, arith}
use Rattle.std.specs.Int.NonZero.{non_zero_u64_get}
use Rattle.zarrs_chunk_tasks.proofs.RegularSums.{joined_are}
use Rattle.zarrs_chunk_tasks.proofs.SumsAlong.{along_within, one_of}
use Rattle.zarrs_chunk_tasks.proofs.groups_along.sums_along.Goals as goal

pub regular_groups-requires-clause-other : goal.regular_groups-requires-clause-other
regular_groups-requires-clause-other g c = along_within _ _ _ c.requires.other

pub sums_one_by_one-requires-clause-other : goal.sums_one_by_one-requires-clause-other
sums_one_by_one-requires-clause-other g c = along_within _ _ _ c.requires.other

pub sums_one_by_one-requires-2-clause-other : goal.sums_one_by_one-requires-2-clause-other
sums_one_by_one-requires-2-clause-other g c = along_within _ _ _ c.requires.other

pub sums_one_by_one-requires-3-clause-other : goal.sums_one_by_one-requires-3-clause-other
sums_one_by_one-requires-3-clause-other g c = along_within _ _ _ c.requires.other

pub returns-in_default : goal.returns-in_default
returns-in_default g c = let same : c.args.groups.now.group + 0 ≡ c.args.groups.now.group = omega arith in rw same at c.sums_one_by_one.ensures

pub returns : goal.returns
returns g c =
    let groups = c.args.groups.now in
    let k = non_zero_u64_get groups.each in
    let it = one_of _ _ groups.dimension (g.met.K.ChunkGridTraits.chained groups.grid.now) c.requires.groups in
    let other = one_of _ _ groups.dimension (g.met.G.ChunkGridTraits.chained c.args.other.now) c.requires.other in
    let taking = it.at _ c.requires.groups in
    let found = c.in-Some.ensures {u = tt} in
    let head = other.at _ (it.at _ (c.in_ok-head.ensures {u = tt})) in
    let inner = other.at _ (it.at _ (c.in_ok-inner.ensures {u = tt})) in
    let tail = other.at _ (it.at _ (c.in_ok-tail.ensures {u = tt})) in
    let here : groups.group + 0 ≡ groups.group = omega arith in
    let many = groups.groups - 2 in
    let before : groups.groups - 1 ≡ 1 + many = omega (arith, found.some) in
    let all : 1 + many + 1 ≡ groups.groups = omega (arith, found.some) in
    let both =
    joined_are it.d other.d k groups.at groups.size groups.group groups.first groups.last groups.groups 1 many c.args.first it.chain groups.each.ok taking
    (omega (arith, found.some)) c.in_ok-head.head c.in_ok-inner.inner c.joined.result (rw here at head) inner c.joined.ensures
    in
    let sums =
    joined_are it.d other.d k groups.at groups.size groups.group groups.first groups.last groups.groups (1 + many) 1 c.args.first it.chain groups.each.ok taking
    (omega (arith, found.some)) c.joined.result c.in_ok-tail.tail c.joined-2.result both (rw before at tail) c.joined-2.ensures
    in
    it.back _ (other.back _ (rw all at sums))
