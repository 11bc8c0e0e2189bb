use Rattle.std.proofs.Common.{rules, ◌∙◌}
use Rattle.zarrs_chunk_batches.proofs.Planned.{kept_more, written_more}
use Rattle.zarrs_chunk_batches.proofs.parts.write_parts.Goals as goal

pub loop-number-preserved : goal.loop-number-preserved
loop-number-preserved c =
    let before = c.loop-number.invariant in
    let wrote = c.write_part.ensures in
    record {
      written = written_more c.args.width c.loop-number.number c.args.parts.now c.index-parts-number.result c.loop-number.buffers
          c.write_part.new.buffers before.written c.index-parts-number.is wrote.written wrote.earlier;
      same_buffers = search rules;
      behind = kept_more c.args.width c.loop-number.number _ c.loop-number.buffers c.write_part.new.buffers before.behind wrote.behind;
      text_kept = wrote.text_kept ∙ before.text_kept;
      offsets_kept = wrote.offsets_kept ∙ before.offsets_kept;
    }
