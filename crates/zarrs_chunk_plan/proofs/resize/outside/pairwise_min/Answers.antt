use Rattle.zarrs_chunk_plan.proofs.Common.{rules, zip, ◌≡◌, map, min, tests, YieldsList-from_slice, YieldsList-from_zip, YieldsList-at}
use Rattle.std.proofs.lemmas.Iterator.{YieldsList-from_map}
use Rattle.std.proofs.lemmas.Iterator.Adapters.{items_from_extend}
use Rattle.zarrs_chunk_plan.proofs.resize.outside.pairwise_min.Goals as goal

pub returns : goal.returns
returns c =
    let one = c.args.one.now in
    let other = c.args.other.now in
    let pairs = YieldsList-from_zip {s = c.zip-pairs.result} (YieldsList-from_slice one (cc)) (YieldsList-from_slice other (cc)) in
    let h = items_from_extend c.extend.result c.extend.ensures.ran
    (YieldsList-from_map _ (λ p. min p.0 p.1) (YieldsList-at c.map.ensures.source pairs) c.map.ensures.closure (λ x r q k. search (rules, tests))) in
    let e : c.extend.new.self.items ≡ map (λ p. min p.0 p.1) (zip one other) = search rules in
    e
