use Rattle.programs.proofs.chunkplan.Common.{false, IsCountsLine}
use Rattle.programs.specs.chunkplan.Planned.{IsReadFault}
use Rattle.programs.specs.chunkplan.seen.Opened.{dimensions_of}
use Rattle.programs.proofs.chunkplan.CountedPlans.{counted_parts}
use Rattle.programs.proofs.chunkplan.Steps.{text_follows}
use Rattle.programs.proofs.chunkplan.plan.write_counts_of.Goals as goal

pub returns-in-Ok-Some : goal.returns-in-Ok-Some
returns-in-Ok-Some g c =
    let is = c.in-Ok-Some.field-0-is in
    let said = c.in-Ok-Some.ensures in
    let counts = c.in-Ok-Some.counts in
    let (parts, plan, are) = counted_parts c.args.array.now c.args.subset.now counts c.is_a_box.ensures c.requires.lengths
    (rw is at said.counts)
    in
    text_follows (IsCountsLine counts) _ (IsReadFault false (dimensions_of c.args.array.now) c.args.subset.now)
    (λ text line. (parts, plan, (counts, are, line)))
    _ _ _ c.write_counts.ensures
