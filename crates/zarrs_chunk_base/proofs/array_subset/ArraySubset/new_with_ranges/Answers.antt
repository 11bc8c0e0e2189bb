use Rattle.std.proofs.Common.{◌≡◌, ◌-◌, length, map, take, get_or, [], ◌∷◌, sym, ap, ◌∙◌}
use Rattle.std.proofs.lemmas.List.{take_more, map-append, length-map}
use Rattle.zarrs_chunk_base.proofs.Boxes.{fits_push}
use Rattle.zarrs_chunk_base.proofs.array_subset.ArraySubset.new_with_ranges.Goals as goal

pub loop-range-preserved : goal.loop-range-preserved
loop-range-preserved c =
    let h = c.loop-range.invariant in
    let ranges = c.args.ranges.now in
    let i = c.loop-range.range-index in
    let range = get_or ranges i (record { start = 0; end = 0 }) in
    let more = take_more ranges i (record { start = 0; end = 0 }) c.loop-range-test.true in
    let starts = ap (map (λ r. r.start)) more ∙ map-append (λ r. r.start) (take i ranges) (range ∷ []) in
    let sizes = ap (map (λ r. r.end - r.start)) more ∙ map-append (λ r. r.end - r.start) (take i ranges) (range ∷ []) in
    let same : length c.loop-range.start.items ≡ length c.loop-range.shape.items =
    ap length h.0 ∙ length-map (take i ranges) (λ r. r.start) ∙ sym (length-map (take i ranges) (λ r. r.end - r.start)) ∙ sym (ap length h.1) in
    let pushed = c.in_ok-push.ensures.items in
    let pushed-size = c.in_ok-push-2.ensures.items in
    let fits = fits_push c.loop-range.start.items c.loop-range.shape.items range.start c.size_of.result same c.size_of.ensures.fits h.2 in
    ((cc), (cc), rw (pushed, pushed-size) fits)
