use Rattle.zarrs_chunk_keys.proofs.read_numerals.with_digit.Goals as goal

pub returns-in_err-digit_of : goal.returns-in_err-digit_of
returns-in_err-digit_of c = rw c.from_residual-in_err-digit_of.ensures (λ d small is. absurd (c.in_err-digit_of.ensures d small is))
