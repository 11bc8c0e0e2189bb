use Rattle.zarrs_chunk_tasks.proofs.sizes.is_beaten.Given as goal

abbrev pub invariant-loop-place : goal.invariant-loop-place
invariant-loop-place l = Unit {0}
