use Rattle.zarrs_chunk_plan.proofs.copy.MarkedChunks.{knows_next, tells_of_array}
use Rattle.zarrs_chunk_plan.proofs.copy.stored_chunks.StoredChunks.note.Goals as goal
use Rattle.zarrs_chunk_plan.proofs.copy.stored_chunks.StoredChunks.note.Goals.{in-Some, in_default}

pub returns-clause-noted : goal.returns-clause-noted
returns-clause-noted g c = λ targets keys known.
    let ds = g.H.ChunkGridTraits.dimensions c.args.target.now.grid in
    let K = g.F.ChunkKeyEncodingTraits.is_key c.args.target.now.encoding in
    knows_next ds K targets keys c.args.key.now c.args.self.now known c.in_ok-written.written c.in_ok-written.ensures.found
    c.match-written.self
    (elim c.match-written.branch [
      | in-Some w ↦ rw (w.in-Some.is, w.self-is, ← w.deref.ensures.value) w.mark.ensures
      | in_default w ↦ rw w.in_default.is w.self-is
    ])

pub returns-clause-of_array : goal.returns-clause-of_array
returns-clause-of_array g c = λ targets keys known.
    let ds = g.H.ChunkGridTraits.dimensions c.args.target.now.grid in
    let K = g.F.ChunkKeyEncodingTraits.is_key c.args.target.now.encoding in
    rw c.is_some.ensures (tells_of_array ds K c.args.self.now.held c.args.key.now known.held c.in_ok-held.held c.in_ok-held.ensures.found)
