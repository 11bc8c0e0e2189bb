use Rattle.zarrs_chunk_plan.proofs.ShareLists.{shares_are_all}
use Rattle.zarrs_chunk_tasks.proofs.laws.shares_are_together_the_tasks.Goals as goal

pub returns : goal.returns
returns c = λ of some tasks. shares_are_all of tasks some
