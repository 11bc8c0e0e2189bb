use Rattle.std.proofs.Common.{◌≡◌, ◌∙◌, ap, ap₂, length, replicate, rules, sym}
use Rattle.zarrs_chunk_base.specs.ArraySubset.{Box}
use Rattle.zarrs_chunk_prepared.proofs.CountedCovers.{is_counted_cover}
use Rattle.zarrs_chunk_prepared.proofs.EachDimension.{as_many, chains}
use Rattle.zarrs_chunk_prepared.specs.seen.PreparedGrid.{width_of}
use Rattle.zarrs_chunk_axes.proofs.OverBox.{length_lasts}
use Rattle.zarrs_chunk_prepared.proofs.grid.PreparedGrid.find_cover.Goals as goal

pub returns-in_default-clause-cover : goal.returns-in_default-clause-cover
returns-in_default-clause-cover c grid are =
    let empty = rw c.in_default.is at c.in_ok-last.ensures in
    let many = as_many grid.dimensions c.args.self.now.axes.items are in
    let first_long : length c.args.first.now ≡ width_of c.args.self.now = search rules in
    let counts_long : length c.args.counts.now ≡ width_of c.args.self.now = search rules in
    let first : c.fill.new.self ≡ replicate (length c.args.first.now) 0 = c.fill.ensures.after (λ n is. is) in
    let counts : c.fill-in_default.new.self ≡ replicate (length c.args.counts.now) 0 = c.fill-in_default.ensures.after (λ n is. is) in (
      λ some. absurd (some empty),
      λ _. ap₂ {C = Box} (λ start shape. record { start = start; shape = shape })
          (first ∙ ap (λ n. replicate n 0) (first_long ∙ sym many)) (counts ∙ ap (λ n. replicate n 0) (counts_long ∙ sym many)),
    )

pub find_chunks-requires-clause-end : goal.find_chunks-requires-clause-end
find_chunks-requires-clause-end c =
    let (_, end) = rw c.in-Some.is at c.in_ok-last.ensures in
    let is_box = c.start.ensures.is_box in
    let long : length c.args.elements.now.start ≡ width_of c.args.self.now = search rules in
    ap length (c.deref-2.ensures.value ∙ end) ∙ length_lasts c.args.elements.now.start c.args.elements.now.shape is_box.lengths ∙ long
    ∙ sym (ap length c.deref.ensures.value)

pub returns-clause-cover : goal.returns-clause-cover
returns-clause-cover c grid are =
    let (some, end) = rw c.in-Some.is at c.in_ok-last.ensures in
    let found = c.find_chunks.ensures.chunks grid.dimensions (rw c.deref.ensures.value are) in
    let (in_first, in_last) = rw (c.if-not-find_chunks.false, c.start.ensures.value, c.deref-2.ensures.value, end) at found in (
      λ _. is_counted_cover grid.dimensions c.args.elements.now c.find_chunks.new.first c.find_chunks.new.last c.count_from.new.last
          (chains grid.dimensions c.args.self.now.axes.items are) c.start.ensures.is_box some in_first in_last c.count_from.auto.last
          c.count_from.ensures,
      λ empty. absurd (some empty),
    )
