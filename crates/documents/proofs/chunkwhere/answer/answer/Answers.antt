use Rattle.std.proofs.Common.{inl, inr, refl, string_bytes, subst}
use Rattle.zarrs_chunk_keys.specs.ChunkKey.{IsKey}
use Rattle.zarrs_chunk_keys.specs.seen.Encodings.{encoding_in}
use Rattle.zarrs_chunks.specs.seen.Grids.{grid_in}
use Rattle.documents.specs.chunkwhere.Answer.{answer_of}
use Rattle.documents.specs.chunkwhere.Document.{document_of}
use Rattle.documents.specs.chunkwhere.Output.{AreLines, IsKeyLine}
use Rattle.documents.specs.chunkwhere.RunFault.{of_create}
use Rattle.documents.proofs.Readings.{stops_or, stops_told}
use Rattle.documents.proofs.chunkwhere.answer.answer.Goals as goal

pub returns-in_err-array : goal.returns-in_err-array
returns-in_err-array c =
    stops_told _ (answer_of (document_of c.args.document)) _ of_create _ c.from_residual.ensures.1 _
    (rw c.deref.ensures.value at c.in_err-array.ensures.refused) (λ is. inl (_, is, refl))

pub returns-in_err-text : goal.returns-in_err-text
returns-in_err-text c =
    stops_or _ (answer_of (document_of c.args.document)) _ _ c.from_residual-in_err-text.ensures.1 _ c.in_err-text.ensures
    (λ is. inr (
      (grid_in c.in_ok-array.array.grid, encoding_in c.in_ok-array.array.encoding),
      rw c.deref.ensures.value at c.in_ok-array.ensures.made,
      is,
    ))

pub returns : goal.returns
returns c =
    let document = document_of c.args.document in
    let encoding = encoding_in c.in_ok-array.array.encoding in
    let (lengths, index_lines) = c.in_ok-text.ensures in
    let (lines, key_lines, both) = c.in_ok-append_key_lines.ensures in (
      (grid_in c.in_ok-array.array.grid, encoding),
      rw c.deref.ensures.value at c.in_ok-array.ensures.made,
      (
        lengths,
        record {
          index_lines = string_bytes c.in_ok-text.text;
          key_lines = lines;
          indices_are = index_lines;
          keys_are = subst (λ dimensionality. AreLines
              (IsKeyLine dimensionality (IsKey encoding)) document.keys lines) c.dimensionality-dimensionality.ensures key_lines;
          both = both;
        },
      ),
    )
