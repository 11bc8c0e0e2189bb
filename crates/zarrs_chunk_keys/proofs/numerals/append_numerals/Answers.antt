use Rattle.zarrs_chunk_keys.proofs.CutBack.{split_point}
use Rattle.zarrs_chunk_keys.proofs.numerals.append_numerals.Goals as goal

pub or_cut_back-requires : goal.or_cut_back-requires
or_cut_back-requires c =
    let (rest, longer) = c.write_numerals-written.ensures.kept in
    λ _. rw c.len-length.ensures (split_point c.args.text.now c.write_numerals-written.new.text rest longer)
