use Rattle.zarrs_chunk_plan.proofs.Common.{rules, ◌+◌, ◌≤◌, arith, tests, YieldsList-from_slice, YieldsList-from_zip, YieldsList-at, fits}
use Rattle.std.proofs.lemmas.Iterator.{cases_from_all}
use Rattle.zarrs_chunk_plan.proofs.MovedBoxes.{all_end_within, box_within}
use Rattle.zarrs_chunk_parts.proofs.Wholes.{tells_all}
use Rattle.zarrs_chunk_plan.proofs.copy.moved.lies_in.Goals as goal

pub returns-clause-lies : goal.returns-clause-lies
returns-clause-lies c =
    let start = c.args.start.now in
    let shape = c.args.shape.now in
    let sizes = c.args.array_shape.now in
    let pairs = YieldsList-from_zip {s = c.zip.result} (YieldsList-from_slice start (cc)) (YieldsList-from_slice shape (cc)) in
    let triples = YieldsList-from_zip {s = c.zip-ranges.result} (YieldsList-at c.zip-ranges.ensures.first pairs) (YieldsList-from_slice sizes (cc)) in
    let told = tells_all (λ p. p.0.0 + p.0.1 ≤ p.1) c.all.result _
    (cases_from_all c.all.new.self _ c.all.result (λ p. p.0.0 + p.0.1 ≤ p.1) (λ p. ¬ (p.0.0 + p.0.1 ≤ p.1)) c.all.ensures.ran triples
    (λ x q k. search (rules, tests)) (λ x q k. search (rules, tests))) in
    let each = all_end_within start shape sizes c.requires.starts c.requires.sizes in
    (λ t. each.0 (told.0 t), λ within. told.1 (each.1 within))

pub returns-clause-is_box : goal.returns-clause-is_box
returns-clause-is_box c = λ t.
    let sizes = c.args.array_shape.now in
    box_within c.args.start.now c.args.shape.now sizes (fits sizes (λ k. omega (arith, c.type_inv.array_shape k))) ((returns-clause-lies c).0 t)
