use Rattle.std.proofs.Common.{◌∙◌, ap, w32, subst}
use Rattle.std.proofs.lemmas.Int.{to_z-of_z}
use Rattle.zarrs_chunk_batches.specs.Calls.{IsEndOf}
use Rattle.zarrs_chunk_batches.specs.Codes.{code_words}
use Rattle.zarrs_chunk_batches.specs.FaultCalls.{text_call}
use Rattle.zarrs_chunk_batches.proofs.fault_calls.code_words.Goals as goal

pub returns-clause-ends : goal.returns-clause-ends
returns-clause-ends c =
    let says = c.words_of.ensures ∙ ap code_words (to_z-of_z w32 c.args.code c.ranges.code) in
    let wrote = c.write_text.new in
    subst (λ words. IsEndOf (text_call words wrote.buffer wrote.needed) c.write_text.result) says c.write_text.ensures.ends
