use Rattle.zarrs_chunk_plan.proofs.Common.{◌∙◌, sym, true≢false}
use Rattle.zarrs_chunk_keys.specs.Decoded.{IsDecoded}
use Rattle.zarrs_chunk_plan.proofs.copy.MarkedChunks.{read_inside, read_none, read_outside}
use Rattle.zarrs_chunk_plan.proofs.copy.stored_chunks.chunk_in.Goals as goal

pub returns-in_default-clause-found : goal.returns-in_default-clause-found
returns-in_default-clause-found g c = λ chunk. (
  λ (inside, has).
      let K = g.F.ChunkKeyEncodingTraits.is_key c.args.encoding.now in
      let b = c.args.chunks.now in
      let decoded : IsDecoded (λ it. K it c.args.key.now) c.dimensionality.result c.in_ok-found.found = c.in_ok-found.ensures in
      read_none K b c.is_a_box.ensures c.args.key.now c.dimensionality.result c.dimensionality.ensures (rw c.in_default.is at decoded) chunk inside has,
  λ none. absurd none,
)

pub returns-then-not-contains-clause-found : goal.returns-then-not-contains-clause-found
returns-then-not-contains-clause-found g c = λ chunk. (
  λ (inside, has).
      let K = g.F.ChunkKeyEncodingTraits.is_key c.args.encoding.now in
      let it = c.in-Some.chunk.items in
      let decoded : IsDecoded (λ it. K it c.args.key.now) c.dimensionality.result c.in_ok-found.found = c.in_ok-found.ensures in
      let (long, fits, is) = rw c.in-Some.is at decoded in
      let told = rw c.deref.ensures.value at c.contains.ensures in
      read_outside K c.args.chunks.now c.is_a_box.ensures c.args.key.now (g.met.F.ChunkKeyEncodingTraits.exact c.args.encoding.now) it fits
      (long ∙ c.dimensionality.ensures) is (λ within. true≢false (sym (told.1 within) ∙ c.if-not-contains.true)) chunk inside has,
  λ none. absurd none,
)

pub returns-clause-found : goal.returns-clause-found
returns-clause-found g c =
    let K = g.F.ChunkKeyEncodingTraits.is_key c.args.encoding.now in
    let it = c.in-Some.chunk.items in
    let decoded : IsDecoded (λ it. K it c.args.key.now) c.dimensionality.result c.in_ok-found.found = c.in_ok-found.ensures in
    let (long, fits, is) = rw c.in-Some.is at decoded in
    let told = rw c.deref.ensures.value at c.contains.ensures in
    read_inside K c.args.chunks.now c.is_a_box.ensures c.args.key.now (g.met.F.ChunkKeyEncodingTraits.exact c.args.encoding.now) it is (told.0 c.if-not-contains.false)
