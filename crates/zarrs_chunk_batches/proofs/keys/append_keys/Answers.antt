use Rattle.std.proofs.Common.{◌≡◌, ◌+◌, ◌-◌, ◌<◌, ◌++◌, length, string_bytes, arith}
use Rattle.std.proofs.lemmas.List.{length-set}
use Rattle.zarrs_chunk_batches.proofs.JoinedKeys.{no_texts, one_text_more}
use Rattle.zarrs_chunk_batches.specs.Batch.{list_at}
use Rattle.zarrs_chunk_batches.proofs.keys.append_keys.Goals as goal

pub loop-number-init : goal.loop-number-init
loop-number-init g c =
    let counted = c.requires.offsets in
    let some : 0 < length c.args.offsets.now = omega arith in
    rw c.new-keys.ensures.bytes
    (no_texts (λ number. g.E.ChunkKeyEncodingTraits.is_key c.args.encoding.now (list_at c.args.dimensionality c.args.chunks.now number))
    c.args.offsets.now some)

pub loop-number-preserved : goal.loop-number-preserved
loop-number-preserved g c =
    let (key, is_key, is) = c.in_ok-append_key.ensures.appended in
    let text = string_bytes c.loop-number.keys in
    let counted = c.requires.offsets in
    let as_long = c.loop-number.auto.offsets in
    let kept = length-set c.args.offsets.now 0 0 in
    let below = c.loop-number-test.true in
    let room : c.loop-number.number + 1 < length c.loop-number.offsets = omega arith in
    let at : c.byte_length.result ≡ length (text ++ key) = rw (c.as_str.ensures.value, is) at c.byte_length.ensures in
    rw (is, at) (one_text_more
    (λ number. g.E.ChunkKeyEncodingTraits.is_key c.args.encoding.now (list_at c.args.dimensionality c.args.chunks.now number)) text
    c.loop-number.offsets key c.loop-number.number c.loop-number.invariant room (rw c.list_of.ensures at is_key))

pub returns : goal.returns
returns g c =
    let counted = c.requires.offsets in
    let as_long = c.loop-number.auto.offsets in
    let kept = length-set c.args.offsets.now 0 0 in
    let ended = c.loop-number-test.false in
    let all : length c.loop-number.offsets - 1 ≡ c.loop-number.number = omega arith in
    rw all c.loop-number.invariant
