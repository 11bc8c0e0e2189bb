use Rattle.std.proofs.Common.{rules, ◌∙◌, refl, sym, tests, true≢false}
use Rattle.std.proofs.lemmas.Iterator.{YieldsList-from_slice, YieldsList-from_zip, cases_from_all}
use Rattle.std.proofs.lemmas.Iterator.Consumers.{YieldsList-at}
use Rattle.zarrs_chunk_parts.proofs.Wholes.{RangeReaches, none_held, rest_held, tells_all}
use Rattle.zarrs_chunk_parts.proofs.shared.has_all.Goals as goal

pub returns-then-not-holds_some : goal.returns-then-not-holds_some
returns-then-not-holds_some c = λ a b d. (
  λ _ index in_chunk in_array.
      absurd (true≢false (sym (c.holds_some.ensures.1 (none_held _ _ _ index in_chunk in_array)) ∙ c.if-not-holds_some.true)),
  λ _. refl,
)

pub returns : goal.returns
returns c = λ starts edges sizes.
    let box = c.args.array_subset.now in
    let pairs = YieldsList-from_zip {s = c.zip.result} (YieldsList-from_slice c.args.origin.now (cc)) (YieldsList-from_slice c.args.edges.now (cc)) in
    let chunk = YieldsList-from_zip {s = c.zip-chunk.result} (YieldsList-at c.zip-chunk.ensures.first pairs)
    (YieldsList-from_slice c.args.array_shape.now (cc)) in
    let others = YieldsList-from_zip {s = c.zip-2.result} (YieldsList-from_slice box.start (cc)) (YieldsList-from_slice box.shape (cc)) in
    let both = YieldsList-from_zip {s = c.zip-ranges.result} (YieldsList-at c.zip-ranges.ensures.first chunk)
    (YieldsList-at c.zip-ranges.ensures.second others) in
    let told = tells_all RangeReaches c.all.result _
    (cases_from_all c.all.new.self _ c.all.result RangeReaches (λ p. ¬ RangeReaches p) c.all.ensures.ran both
    (λ x q k. search (rules, tests)) (λ x q k. search (rules, tests))) in
    let rest = rest_held c.args.origin.now c.args.edges.now c.args.array_shape.now box.start box.shape edges sizes starts
    (sym c.start.ensures.is_box.lengths ∙ starts) (c.holds_some.ensures.0 c.if-not-holds_some.false)
    in
    (λ t. rest.0 (told.0 t), λ holds. told.1 (rest.1 holds))
