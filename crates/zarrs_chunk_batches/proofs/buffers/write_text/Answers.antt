use Rattle.std.proofs.Common.{◌≡◌}
use Rattle.zarrs_chunk_batches.specs.FaultCalls.{text_call}
use Rattle.zarrs_chunk_batches.proofs.Ends.{ends_with, in_front}
use Rattle.zarrs_chunk_batches.proofs.buffers.write_text.Goals as goal

pub returns-clause-ends : goal.returns-clause-ends
returns-clause-ends c =
    let bytes = c.as_bytes.result.now in
    let says : bytes ≡ c.args.text.now = c.as_bytes.ensures.value in
    let wrote = c.write_front.new in
    let told = c.write_front.ensures in
    ends_with (text_call c.args.text.now wrote.buffer wrote.needed) tt c.write_front.result tt tt
    (in_front (λ t. t ≡ c.args.text.now) bytes wrote.buffer wrote.needed c.write_front.result told.told says told.fits told.written told.short)
