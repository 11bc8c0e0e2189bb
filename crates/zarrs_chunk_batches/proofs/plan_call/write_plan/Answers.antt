use Rattle.std.proofs.Common.{◌≡◌, ◌-◌, ap, inl, inr, length, refl, string_bytes, subst, sym, ⊎_elim, arith}
use Rattle.std.proofs.lemmas.Result.{MatchResult-weaker}
use Rattle.std.proofs.Math.Nat.{mul_comm}
use borrow.Rule.Slice.Mut.{set_vals}
use Rattle.zarrs_chunk_batches.specs.Batch.{AreTexts}
use Rattle.zarrs_chunk_batches.specs.Parts.{IsPlanWith}
use Rattle.zarrs_chunk_batches.specs.declared.structs.PartBuffers.{PartBuffers}
use Rattle.zarrs_chunk_batches.specs.seen.Parts.{AreWrittenBelow, IsKeyOf}
use Rattle.zarrs_chunk_batches.proofs.Batches.{ends_before}
use Rattle.zarrs_chunk_batches.proofs.Ends.{in_front}
use Rattle.zarrs_chunk_batches.proofs.LongParts.{few_parts, long_parts}
use Rattle.zarrs_chunk_batches.proofs.Planned.{all_written}
use Rattle.zarrs_chunk_batches.proofs.plan_call.write_plan.Goals as goal

pub write_parts-requires-clause-room : goal.write_parts-requires-clause-room
write_parts-requires-clause-room g c k less =
    let width = c.dimensionality.result in
    let few = few_parts _ _ _ _ _ c.in-Some.some (rw c.in-Some.is at c.in_ok-some.ensures.parts) in
    let long = ap length c.deref.ensures.value in
    let ends = ends_before width k c.args.room (omega arith) in
    let turned = mul_comm c.args.room width in
    let (chunks, (in_chunk, (in_selection, (shapes, _)))) = rw (← c.dimensionality.ensures) at c.requires.room.1 in
    record { has_chunk = omega arith; has_in_chunk = omega arith; has_in_selection = omega arith; has_shape = omega arith }

pub write_parts-requires-clause-long : goal.write_parts-requires-clause-long
write_parts-requires-clause-long g c =
    rw (c.deref.ensures.value, c.dimensionality.ensures) (long_parts _ _ _ _ _ c.in-Some.some (rw c.in-Some.is at c.in_ok-some.ensures.parts))

pub join_keys-requires : goal.join_keys-requires
join_keys-requires g c =
    let few = few_parts _ _ _ _ _ c.in-Some.some (rw c.in-Some.is at c.in_ok-some.ensures.parts) in
    let had = c.requires.room.0 in
    let same = c.write_parts.ensures.same_buffers.offsets.1 in
    omega (arith, ap length c.deref-2.ensures.value)

pub returns-clause-ends : goal.returns-clause-ends
returns-clause-ends g c =
    let ds = g.G.ChunkGridTraits.dimensions c.args.grid.now in
    let IsKey = g.E.ChunkKeyEncodingTraits.is_key c.args.encoding.now in
    let some = c.in-Some.some in
    let parts = some.parts.items in
    let lists = c.write_parts.new.buffers in
    let offsets = c.join_keys.new.offsets in
    let keys = c.as_bytes.result.now in
    let wrote = c.write_front.new in
    let told = c.write_front.ensures in
    let buffers : PartBuffers = record lists {
      text = set_vals wrote.buffer lists.text;
      offsets = set_vals offsets lists.offsets;
      needed = wrote.needed;
      count = c.len.result;
      in_all = some.in_all;
      found = 1;
    } in
    let as_long = c.join_keys.auto.offsets in
    let same = c.write_parts.ensures.same_buffers.offsets.1 in
    let had = c.requires.room.0 in
    let room : length offsets - 1 ≡ c.args.room = omega arith in
    let found = rw c.in-Some.is at c.in_ok-some.ensures.parts in
    let of_parts = subst (λ ps. AreWrittenBelow (length ps) c.dimensionality.result ps lists) c.deref.ensures.value c.write_parts.ensures.written in
    let of_width = subst (λ width. AreWrittenBelow (length parts) width parts lists) c.dimensionality.ensures of_parts in
    let are_written : AreWrittenBelow (length parts) (length ds) parts buffers = λ number less part is_part.
    let is = of_width number less part is_part in
    record { is_chunk = is.is_chunk; is_in_chunk = is.is_in_chunk; is_in_selection = is.is_in_selection; is_shape = is.is_shape }
    in
    let counted : c.len.result ≡ length parts = omega (arith, some.parts.ok.0, c.len.ensures) in
    let of_keys =
    subst (λ ps. AreTexts (IsKeyOf ps) (length ps) (string_bytes c.in_ok-keys.keys) offsets) c.deref-2.ensures.value c.in_ok-keys.ensures.keys in
    let texts = subst (λ text. AreTexts (IsKeyOf parts) (length parts) text offsets) (sym c.as_bytes.ensures.value) of_keys in
    let is_plan = all_written ds IsKey c.args.elements.now c.args.first c.args.room some found buffers keys refl counted room are_written texts in
    let IsPlan = IsPlanWith ds IsKey c.args.elements.now c.args.first buffers in
    MatchResult-weaker c.write_front.result
    (in_front IsPlan keys wrote.buffer wrote.needed c.write_front.result told.told is_plan told.fits told.written told.short)
    (λ _ whole. inl (refl, whole)) (λ fault is. ⊎_elim (λ memory. inl memory) (λ short. inr (short.0, (refl, short.1))) is)
