use Rattle.zarrs_chunk_plan.proofs.Common.{◌≡◌, ◌∙◌, Meets, ap, array_box, length, rules, sym}
use Rattle.zarrs_chunk_parts.proofs.Overlaps.{later_starts_long}
use Rattle.zarrs_chunk_plan.proofs.Rechunkings.{in_array}
use Rattle.zarrs_chunk_plan.proofs.copy.chunk_elements.elements_of_chunks.Goals as goal

pub elements_in-requires-clause-long : goal.elements_in-requires-clause-long
elements_in-requires-clause-long g c =
    let chunks = c.args.chunks.now in
    let many = c.in_ok-written.ensures.lengths in
    let same : length chunks.start ≡ length (g.G.ChunkGridTraits.dimensions c.args.grid.now) = search rules in
    ap length c.in_ok-chosen.ensures.start ∙ later_starts_long c.in_ok-written.written.start chunks.start (many ∙ sym same) ∙ many

-- the chunks that are chosen and hold elements of the array have the elements that the chosen ones have
pub returns-clause-elements : goal.returns-clause-elements
returns-clause-elements g c =
    let ds = g.G.ChunkGridTraits.dimensions c.args.grid.now in
    let both = c.in_ok-chosen.ensures.common in
    let written = c.in_ok-written.ensures.named in
    let elements = c.in_ok-elements.ensures in
    record {
      is_box = c.is_a_box.ensures;
      lies = elements.lies;
      held = λ index. (
        λ inside.
            let (below, (chunk, chosen, holds)) = (elements.elements index).0 inside in
            (below, (chunk, ((both chunk).0 chosen).1, holds)),
        λ (below, (chunk, asked, holds)).
            let meets : Meets ds (array_box ds) chunk = (index, holds, (in_array ds index).0 below) in
            (elements.elements index).1 (below, (chunk, (both chunk).1 ((written chunk).1 meets, asked), holds)),
      );
    }
