use Rattle.std.proofs.Common.{◌∙◌, arith}
use Rattle.std.proofs.lemmas.Bool.{le-leb, leb-true}
use Rattle.zarrs_chunk_tasks.proofs.TriedEdges.{ceil_is}
use Rattle.zarrs_chunk_tasks.proofs.edges.is_few.Goals as goal

pub returns : goal.returns
returns c =
    let along = c.args.along.now in
    let read = c.div_ceil-read.ensures ∙ ceil_is along.size along.read c.requires.read in
    let written = c.div_ceil-written.ensures ∙ ceil_is along.size along.written c.requires.written in (
      λ is. let le = leb-true c.max.result 65536 is in (omega (arith, le, c.max.ensures, read), omega (arith, le, c.max.ensures, written)),
      λ (few_read, few_written). le-leb c.max.result 65536 (omega (arith, c.max.ensures, read, written, few_read, few_written)),
    )
