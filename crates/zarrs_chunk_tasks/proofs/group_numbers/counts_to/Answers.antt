use Rattle.std.proofs.Common.{rules, zip, ◌≡◌, ◌+◌, ◌-◌, map, min, tests}
use Rattle.std.proofs.lemmas.Iterator.{YieldsList-from_map, YieldsList-from_slice, YieldsList-from_zip}
use Rattle.std.proofs.lemmas.Iterator.Adapters.{items_from_extend}
use Rattle.std.proofs.lemmas.Iterator.Consumers.{YieldsList-at}
use Rattle.zarrs_chunk_base.specs.Greatest.{greatest}
use Rattle.zarrs_chunk_tasks.proofs.group_numbers.counts_to.Goals as goal

pub returns : goal.returns
returns c =
    let first = c.args.first.now in
    let last = c.args.last.now in
    let pairs = YieldsList-from_zip {s = c.zip-pairs.result} (YieldsList-from_slice first (cc)) (YieldsList-from_slice last (cc)) in
    let h = items_from_extend c.extend.result c.extend.ensures.ran
    (YieldsList-from_map _ (λ p. min (p.1 - p.0 + 1) greatest) (YieldsList-at c.map.ensures.source pairs) c.map.ensures.closure
    (λ x r q k. search (rules, tests))) in
    let e : c.extend.new.self.items ≡ map (λ p. min (p.1 - p.0 + 1) greatest) (zip first last) = search rules in
    e
