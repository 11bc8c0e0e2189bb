use Rattle.std.proofs.Common.{◌≡◌, ◌∙◌, ◌+◌, ◌<◌, ◌++◌, ap, drop, length, refl, string_bytes, subst, arith}
use Rattle.std.proofs.lemmas.List.{drop-set-lt, length-set}
use Rattle.std.proofs.lemmas.Option.{get_or_from_slice_get}
use Rattle.zarrs_chunk_batches.specs.Batch.{AreTexts}
use Rattle.zarrs_chunk_batches.specs.seen.Parts.{IsKeyOf}
use Rattle.zarrs_chunk_batches.proofs.JoinedKeys.{no_texts, one_text_more}
use Rattle.zarrs_chunk_batches.proofs.Planned.{kept_further}
use Rattle.zarrs_chunk_batches.proofs.parts.join_keys.Goals as goal

pub loop-number-init : goal.loop-number-init
loop-number-init c =
    let some : 0 < length c.args.offsets.now = omega arith in
    record {
      keys = rw c.new-keys.ensures.bytes (no_texts (IsKeyOf c.args.parts.now) c.args.offsets.now some);
      behind = refl;
    }

pub loop-number-preserved : goal.loop-number-preserved
loop-number-preserved c =
    let parts = c.args.parts.now in
    let part = c.index-parts-number.result in
    let text = string_bytes c.loop-number.keys in
    let is = c.in_ok-push_str.ensures.bytes in
    let key = c.as_str.ensures.value in
    let as_long = c.loop-number.auto.offsets in
    let kept = length-set c.args.offsets.now 0 0 in
    let below = c.loop-number-test.true in
    let room : c.loop-number.number + 1 < length c.loop-number.offsets = omega arith in
    let at : c.byte_length.result ≡ length (text ++ part.key) = rw (c.as_str-in-loop-number.ensures.value, is, key) at c.byte_length.ensures in
    let is_key : IsKeyOf parts c.loop-number.number part.key = λ p found.
    ap (λ q. q.key) (c.index-parts-number.is ∙ get_or_from_slice_get parts c.loop-number.number p part found)
    in
    record {
      keys = rw (is, key, at) (one_text_more (IsKeyOf parts) text c.loop-number.offsets part.key c.loop-number.number
          c.loop-number.invariant.keys room is_key);
      behind = kept_further (c.loop-number.number + 1) (c.loop-number.number + 1 + 1) _ c.loop-number.offsets _ (omega arith)
          c.loop-number.invariant.behind (drop-set-lt _ c.loop-number.offsets _ _ (omega arith));
    }

pub returns-clause-keys : goal.returns-clause-keys
returns-clause-keys c =
    let ended = c.loop-number-test.false in
    let all : c.loop-number.number ≡ length c.args.parts.now = omega arith in
    subst (λ count. AreTexts (IsKeyOf c.args.parts.now) count (string_bytes c.loop-number.keys) c.loop-number.offsets) all
    c.loop-number.invariant.keys

pub returns-clause-behind : goal.returns-clause-behind
returns-clause-behind c =
    let ended = c.loop-number-test.false in
    let all : c.loop-number.number ≡ length c.args.parts.now = omega arith in
    subst (λ count. drop (count + 1) c.loop-number.offsets ≡ drop (count + 1) c.args.offsets.now) all
    (c.loop-number.invariant.behind ∙ drop-set-lt (c.loop-number.number + 1) c.args.offsets.now 0 0 (omega arith))
