use Rattle.std.proofs.Common.{inr}
use Rattle.zarrs_chunk_keys.specs.seen.Encodings.{encoding_in}
use Rattle.zarrs_chunk_questions.proofs.Refusals.{handed_on, length_fault}
use Rattle.zarrs_chunk_questions.proofs.array_question.answer_located.Goals as goal

pub returns-in_err-located : goal.returns-in_err-located
returns-in_err-located c =
    handed_on _ _ _ c.from_residual-in_err-located.result c.in_err-located.field-0.0
    (λ fault told. inr (
      encoding_in c.in_ok-encoding.encoding,
      c.in_ok-encoding.ensures,
      length_fault _ _ _ _ _ c.locate.result fault c.locate.ensures told,
    ))
    c.in_err-located.ensures.refused c.from_residual-in_err-located.ensures.1
