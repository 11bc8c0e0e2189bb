use Rattle.programs.specs.chunkplan.CountsLine.{IsCountsLine}
use Rattle.programs.proofs.chunkplan.Steps.{step_made}
use Rattle.programs.proofs.chunkplan.plan.write_counts.Goals as goal

pub returns : goal.returns
returns g c =
    step_made (IsCountsLine c.args.counts.now) c.counts_line.result c.counts_line.ensures
    _ _ _ c.send_text.ensures
