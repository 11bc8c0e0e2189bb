use Rattle.std.proofs.Common.{List, ℕ, inl, inr, ⊎_elim}
use Rattle.std.proofs.lemmas.Result.{err_from_is_err_and}
use Rattle.zarrs_chunk_keys.specs.seen.Encodings.{encoding_in}
use Rattle.zarrs_chunk_prepared.specs.PreparedEncoding.{IsPreparedEncoding}
use Rattle.zarrs_chunk_batches.specs.Calls.{early, no_metadata}
use Rattle.zarrs_chunk_batches.specs.PreparedCalls.{prepare_encoding_call}
use Rattle.zarrs_chunk_batches.proofs.Ends.{ends_with, in_front}
use Rattle.zarrs_chunk_batches.proofs.key_calls.prepare_encoding.Goals as goal

pub returns-in_err-encoding-clause-ends : goal.returns-in_err-encoding-clause-ends
returns-in_err-encoding-clause-ends c =
    let p = err_from_is_err_and c.from_residual.result c.from_residual.ensures.1 in
    rw (p.1, p.2) (⊎_elim (λ memory. inl memory) (λ is. inr (early (no_metadata is))) c.in_err-encoding.ensures)

pub returns-clause-ends : goal.returns-clause-ends
returns-clause-ends c =
    let encoding = encoding_in c.in_ok-encoding.encoding in
    let IsOfEncoding = λ (numbers : List ℕ). IsPreparedEncoding numbers encoding in
    let numbers = c.deref.result.now in
    let are : IsPreparedEncoding numbers encoding = rw c.deref.ensures.value c.in_ok-prepared.ensures in
    let wrote = c.write_front.new in
    let told = c.write_front.ensures in
    ends_with (prepare_encoding_call c.args.chunk_key_encoding.now wrote.buffer wrote.needed) encoding c.write_front.result c.in_ok-encoding.ensures tt
    (in_front IsOfEncoding numbers wrote.buffer wrote.needed c.write_front.result told.told are told.fits told.written told.short)
