use Rattle.zarrs_chunk_tasks.proofs.TaskLaws.{both_stages}
use Rattle.zarrs_chunk_tasks.proofs.laws.two_stages_are_the_copy.Goals as goal

pub returns : goal.returns
returns c = λ between at first second is_box one_shape to_between from_between index to.
    both_stages c.args.region.now between at first second is_box one_shape to_between from_between index to
