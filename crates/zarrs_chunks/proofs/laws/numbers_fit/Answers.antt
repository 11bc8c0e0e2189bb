use Rattle.std.proofs.Common.{arith}
use Rattle.zarrs_chunk_base.proofs.Boxes.{fits}
use Rattle.zarrs_chunks.proofs.laws.numbers_fit.Goals as goal

pub returns : goal.returns
returns c = fits _ (λ k. omega (arith, c.type_inv.numbers k))
