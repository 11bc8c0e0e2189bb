use Rattle.zarrs_chunk_plan.proofs.HeldBoxes.{held_elements}
use Rattle.zarrs_chunk_plan.proofs.Rechunkings.{found_are}
use Rattle.zarrs_chunk_plan.proofs.resize.used.held_by.Goals as goal

pub returns : goal.returns
returns g c = λ array used.
    let ds = g.G.ChunkGridTraits.dimensions c.args.grid.now in
    let chunk = c.args.chunk.now in
    let shared = c.in_ok-shared.shared in
    let boxes = (rw array at c.in_ok-shared.ensures.boxes) used in
    record {
      is_box = boxes.from_subset.is_box;
      elements = λ index.
          let found = found_are ds chunk shared.in_chunk shared.in_selection boxes used index in
          let held = held_elements ds chunk index in
          (λ inside. held.0 (found.0 inside), λ has. found.1 (held.1 has));
      shape = c.in_ok-shared.ensures.shape;
    }
