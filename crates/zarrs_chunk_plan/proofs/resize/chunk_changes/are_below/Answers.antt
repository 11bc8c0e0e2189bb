use Rattle.zarrs_chunk_plan.proofs.Common.{rules, ◌<◌, length, tests, sym, ◌∙◌, YieldsList-from_slice, YieldsList-from_zip, length_below}
use Rattle.std.proofs.lemmas.Bool.{ne_eqb, true≢false}
use Rattle.std.proofs.lemmas.Iterator.{cases_from_all}
use Rattle.zarrs_chunk_parts.proofs.Wholes.{tells_all}
use Rattle.zarrs_chunk_plan.proofs.resize.ChunksChanged.{all_below}
use Rattle.zarrs_chunk_plan.proofs.resize.chunk_changes.are_below.Goals as goal

pub returns-then-numbers-sizes : goal.returns-then-numbers-sizes
returns-then-numbers-sizes c =
    let numbers = c.args.numbers.now in
    let sizes = c.args.sizes.now in
    let pairs = YieldsList-from_zip {s = c.zip.result} (YieldsList-from_slice numbers (cc)) (YieldsList-from_slice sizes (cc)) in
    let told = tells_all (λ p. p.0 < p.1) c.all.result _
    (cases_from_all c.all.new.self _ c.all.result (λ p. p.0 < p.1) (λ p. ¬ (p.0 < p.1)) c.all.ensures.ran pairs
    (λ x q k. search (rules, tests)) (λ x q k. search (rules, tests))) in
    let each = all_below sizes numbers c.if-numbers-sizes.true in
    (λ t. each.0 (told.0 t), λ below. told.1 (each.1 below))

pub returns-else-numbers-sizes : goal.returns-else-numbers-sizes
returns-else-numbers-sizes c =
    let differ = ne_eqb (length c.args.numbers.now) (length c.args.sizes.now) c.if-numbers-sizes.false in (
      λ t. absurd (true≢false (sym t ∙ differ)),
      λ below. absurd (c.if-numbers-sizes.false (length_below c.args.sizes.now c.args.numbers.now below)),
    )
