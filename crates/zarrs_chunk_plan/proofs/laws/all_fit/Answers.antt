use Rattle.zarrs_chunk_plan.proofs.Common.{arith, fits}
use Rattle.zarrs_chunk_plan.proofs.laws.all_fit.Goals as goal

pub returns : goal.returns
returns c = fits c.args.sizes.now (λ k. omega (arith, c.type_inv.sizes k))
