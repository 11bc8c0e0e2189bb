use Rattle.std.proofs.Common.{◌∙◌, sym}
use Rattle.zarrs_chunk_plan.specs.Region.{moved}
use Rattle.zarrs_chunk_plan.proofs.MovedBoxes.{within_long}
use Rattle.zarrs_chunk_tasks.proofs.WholeChunks.{all_exchanged}
use Rattle.zarrs_chunk_tasks.proofs.laws.the_other_way_round_has_the_same_tasks.Goals as goal

pub returns-clause-has : goal.returns-clause-has
returns-clause-has g c = λ source target region at each has.
    record {
      lengths = has.lengths ∙ sym (within_long region.start region.shape source has.can.in_source) ∙ within_long at region.shape target has.can.in_target;
      can = record { in_source = has.can.in_target; in_target = has.can.in_source };
    }

pub returns-clause-by_target : goal.returns-clause-by_target
returns-clause-by_target g c = λ region at each tasks are.
    all_exchanged (g.G.ChunkGridTraits.dimensions c.args.grid.now) each (moved at region) region.start at tasks are

pub returns-clause-by_source : goal.returns-clause-by_source
returns-clause-by_source g c = λ region at each tasks are.
    all_exchanged (g.G.ChunkGridTraits.dimensions c.args.grid.now) each region region.start at tasks are
