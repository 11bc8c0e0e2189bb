use Rattle.zarrs_chunk_plan.proofs.ShareLists.{shares_are_all}
use Rattle.zarrs_chunk_plan.proofs.laws.shares_are_together_the_plan.Goals as goal

pub returns : goal.returns
returns c = record { of_a_read = λ of some parts. shares_are_all of parts some }
