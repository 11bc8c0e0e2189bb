use Rattle.std.proofs.Common.{rules, zip, ◌≡◌, ◌/◌, map, tests}
use Rattle.std.proofs.lemmas.Iterator.{YieldsList-from_map, YieldsList-from_slice, YieldsList-from_zip}
use Rattle.std.proofs.lemmas.Iterator.Adapters.{items_from_extend}
use Rattle.std.proofs.lemmas.Iterator.Consumers.{YieldsList-at}
use Rattle.std.specs.Int.NonZero.{non_zero_u64_get}
use Rattle.zarrs_chunk_tasks.proofs.group_numbers.groups_of.Goals as goal

pub returns : goal.returns
returns c =
    let each = c.args.each.now in
    let chunk = c.args.chunk.now in
    let pairs = YieldsList-from_zip {s = c.zip-pairs.result} (YieldsList-from_slice each (cc)) (YieldsList-from_slice chunk (cc)) in
    let h = items_from_extend c.extend.result c.extend.ensures.ran
    (YieldsList-from_map _ (λ p. p.1 / non_zero_u64_get p.0) (YieldsList-at c.map.ensures.source pairs) c.map.ensures.closure
    (λ x r q k. search (rules, tests))) in
    let e : c.extend.new.self.items ≡ map (λ p. p.1 / non_zero_u64_get p.0) (zip each chunk) = search rules in
    e
