use Rattle.zarrs_chunk_keys.specs.seen.Encodings.{encoding_in}
use Rattle.zarrs_chunk_batches.specs.FaultCalls.{encoding_fault_call}
use Rattle.zarrs_chunk_batches.proofs.Ends.{ends_as}
use Rattle.zarrs_chunk_batches.proofs.fault_calls.encoding_fault.Goals as goal

pub returns-clause-ends : goal.returns-clause-ends
returns-clause-ends c =
    ends_as (encoding_fault_call c.args.chunk_key_encoding.now c.tell.new.needed) encoding_in c.encoding_of.result c.tell.result _
    c.encoding_of.ensures (λ _. tt) c.tell.ensures.ends c.tell.ensures.none (λ _ none. none)
