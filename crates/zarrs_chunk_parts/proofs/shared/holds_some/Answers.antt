use Rattle.std.proofs.Common.{rules, ◌-◌, ◌<◌, min, tests}
use Rattle.std.proofs.lemmas.Iterator.{YieldsList-from_slice, YieldsList-from_zip, cases_from_all}
use Rattle.std.proofs.lemmas.Iterator.Consumers.{YieldsList-at}
use Rattle.zarrs_chunk_parts.proofs.Wholes.{tells_all}
use Rattle.zarrs_chunk_parts.proofs.shared.holds_some.Goals as goal

pub returns : goal.returns
returns c =
    let pairs = YieldsList-from_zip {s = c.zip.result} (YieldsList-from_slice c.args.origin.now (cc)) (YieldsList-from_slice c.args.edges.now (cc)) in
    let triples = YieldsList-from_zip {s = c.zip-ranges.result} (YieldsList-at c.zip-ranges.ensures.first pairs)
    (YieldsList-from_slice c.args.array_shape.now (cc)) in
    tells_all (λ p. 0 < min p.0.1 (p.1 - p.0.0)) c.all.result _
    (cases_from_all c.all.new.self _ c.all.result (λ p. 0 < min p.0.1 (p.1 - p.0.0)) (λ p. ¬ (0 < min p.0.1 (p.1 - p.0.0))) c.all.ensures.ran triples
    (λ x q k. search (rules, tests)) (λ x q k. search (rules, tests)))
