use Rattle.std.proofs.Common.{rules, ◌≡◌, length, sym, ap, ◌∙◌, tests, true≢false}
use Rattle.std.proofs.lemmas.Iterator.{YieldsList-from_slice, YieldsList-from_zip, cases_from_all}
use Rattle.std.proofs.lemmas.Iterator.Consumers.{YieldsList-at}
use Rattle.zarrs_chunk_base.proofs.Boxes as boxes
use Rattle.zarrs_chunk_base.proofs.array_subset.ArraySubset.contains.Goals as goal

pub returns-then-indices-dimensionality : goal.returns-then-indices-dimensionality
returns-then-indices-dimensionality c = (
  λ t. absurd (true≢false (sym t)),
  λ w. absurd (c.if-indices-dimensionality.true
      (boxes.within_lengths c.args.self.now.start c.args.self.now.shape c.args.indices.now w ∙ sym c.dimensionality.ensures)),
)

pub returns : goal.returns
returns c =
    let pairs = YieldsList-from_zip {s = c.zip-ranges.result} (YieldsList-from_slice c.self.inside.start.items (cc))
    (YieldsList-from_slice c.self.inside.shape.items (cc)) in
    let triples = YieldsList-from_zip {s = c.zip.result} (YieldsList-at c.zip.ensures.first pairs) (YieldsList-from_slice c.args.indices.now (cc)) in
    let told = cases_from_all c.all.new.self _ c.all.result boxes.In (λ p. ¬ boxes.In p) c.all.ensures.ran triples (λ x q k. search (rules, tests))
    (λ x q k. search (rules, tests)) in
    let same : length c.args.indices.now ≡ length c.self.inside.start.items =
    c.if-indices-dimensionality.false ∙ c.dimensionality.ensures ∙ sym (ap (λ b. length b.start) c.self.view_is) in
    rw (← c.self.view_is)
    (boxes.tells_within c.all.result c.self.inside.start.items c.self.inside.shape.items c.args.indices.now c.self.invariant.lengths same told)
