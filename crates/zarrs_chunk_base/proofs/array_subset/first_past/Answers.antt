use Rattle.std.proofs.Common.{rules, ◌+◌, ◌<◌, ◌≤◌, tests}
use Rattle.std.proofs.lemmas.Iterator.{YieldsList-from_slice, YieldsList-from_zip, IsFirst-from_position}
use Rattle.zarrs_chunk_base.proofs.Boxes as boxes
use Rattle.zarrs_chunk_base.specs.Greatest.{greatest}
use Rattle.zarrs_chunk_base.proofs.array_subset.first_past.Goals as goal

pub returns : goal.returns
returns c =
    let pairs = YieldsList-from_zip {s = c.zip.result} (YieldsList-from_slice c.args.start.now (cc)) (YieldsList-from_slice c.args.shape.now (cc)) in
    let told = IsFirst-from_position c.position.new.self _ c.position.result (λ p. greatest < p.0 + p.1)
    (λ p. p.0 + p.1 ≤ greatest) c.position.ensures.ran pairs (λ x q k. search (rules, tests)) (λ x q k. search (rules, tests)) in
    boxes.tells_first_past c.position.result c.args.start.now c.args.shape.now told
