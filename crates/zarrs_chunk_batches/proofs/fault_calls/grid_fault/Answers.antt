use Rattle.zarrs_chunks.specs.seen.Grids.{grid_in}
use Rattle.zarrs_chunk_batches.specs.FaultCalls.{grid_fault_call}
use Rattle.zarrs_chunk_batches.proofs.Ends.{ends_as}
use Rattle.zarrs_chunk_batches.proofs.fault_calls.grid_fault.Goals as goal

pub returns-clause-ends : goal.returns-clause-ends
returns-clause-ends c =
    ends_as (grid_fault_call c.args.shape.now c.args.chunk_grid.now c.tell.new.needed) grid_in c.grid_of.result c.tell.result _ c.grid_of.ensures.made
    (λ _. tt) c.tell.ensures.ends
    c.tell.ensures.none (λ _ none. none)
