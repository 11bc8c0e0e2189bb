use Rattle.programs.proofs.chunkplan.plan.write_asked.Goals as goal

pub returns-in-Lines : goal.returns-in-Lines
returns-in-Lines g c = rw c.in-Lines.is c.write_parts_of.ensures

pub returns-in-Counts : goal.returns-in-Counts
returns-in-Counts g c = rw c.in-Counts.is c.write_counts_of.ensures
