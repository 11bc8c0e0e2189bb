use Rattle.zarrs_chunk_keys.proofs.CutBack.{split_point}
use Rattle.zarrs_chunk_keys.proofs.chunk_key_encoding.of_kind.AnyChunkKeyEncodingTraits.append_key.Goals as goal

pub or_cut_back-requires : goal.or_cut_back-requires
or_cut_back-requires g c =
    let (rest, longer) = c.append-appended.ensures.kept in
    λ _. rw c.len-length.ensures (split_point c.args.text.now c.append-appended.new.text rest longer)
