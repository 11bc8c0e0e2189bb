use Rattle.zarrs_chunk_plan.proofs.Common.{◌∙◌, ◌<◌, ◌/◌, ap, length, refl, arith, slice_get_within, bit_at, chunks_in, is_stored}
use Rattle.std.proofs.lemmas.Grind.{get_or_default_zero}
use Rattle.zarrs_chunk_plan.proofs.copy.MarkedChunks.{bit_kept, bit_set, same_number}
use Rattle.zarrs_chunk_plan.proofs.copy.stored_chunks.StoredChunks.mark.Goals as goal

pub returns : goal.returns
unfolding is_stored
returns c =
    let stored = c.args.self.now in
    let number = c.number_in-number.result in
    let found = c.number_in-number.ensures.number in
    let less = slice_get_within (chunks_in stored.targets) number c.args.chunk.now found in
    let within : number / 64 < length stored.bits.items = omega arith in
    let read = c.index_mut-word.ensures.value in
    record {
      number = number;
      is = found;
      alone = λ other is. same_number stored.targets c.number_in-number.ensures.is_box c.args.chunk.now other number is found;
      marked = bit_set stored.bits.items number c.with_bit.result within c.with_bit.ensures.set;
      others = bit_kept stored.bits.items number c.with_bit.result within
          (λ other not. c.with_bit.ensures.others other not
          ∙ ap (λ word. bit_at word other) (read ∙ get_or_default_zero stored.bits.items (number / 64) c.index_mut-word.result.now within));
      held = refl;
      targets = refl;
    }
