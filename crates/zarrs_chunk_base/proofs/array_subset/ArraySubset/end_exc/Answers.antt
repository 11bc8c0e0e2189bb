use Rattle.std.proofs.Common.{rules, zip, ◌≡◌, ◌-◌, map, ◌+◌, ◌∙◌, tests, min, ◌^◌}
use Rattle.std.proofs.lemmas.Iterator.{YieldsList-from_map, YieldsList-from_slice, YieldsList-from_zip}
use Rattle.std.proofs.lemmas.Iterator.Adapters.{items_from_extend}
use Rattle.std.proofs.lemmas.Iterator.Consumers.{YieldsList-at}
use Rattle.zarrs_chunk_base.proofs.Boxes as boxes
use Rattle.zarrs_chunk_base.proofs.array_subset.ArraySubset.end_exc.Goals as goal

pub returns : goal.returns
returns c =
    let pairs = YieldsList-from_zip {s = c.zip-ranges.result} (YieldsList-from_slice c.self.inside.start.items (cc))
    (YieldsList-from_slice c.self.inside.shape.items (cc)) in
    let h = items_from_extend c.extend.result c.extend.ensures.ran
    (YieldsList-from_map _ (λ p. min (p.0 + p.1) (2 ^ 64 - 1)) (YieldsList-at c.map.ensures.source pairs) c.map.ensures.closure
    (λ x r q k. search (rules, tests))) in
    let same = boxes.ends_saturated c.self.inside.start.items c.self.inside.shape.items c.self.invariant.fits in
    let e : c.extend.new.self.items ≡ map (λ p. min (p.0 + p.1) (2 ^ 64 - 1)) (zip c.self.inside.start.items c.self.inside.shape.items) =
    search rules in
    rw (← c.self.view_is) (e ∙ same)
