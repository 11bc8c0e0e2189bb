-- Where a chunk starts, and how long it is, in two steps.
use Rattle.std.proofs.Common.{ℕ, ◌<◌, arith}
use Rattle.zarrs_chunk_base.specs.Dimension.{Dimension, StartsAt}
use Rattle.zarrs_chunk_base.specs.Greatest.{greatest}
use Rattle.zarrs_chunk_axes.specs.LookUp.{HasRange}

module _ (d : Dimension) (c : ℕ) where
  -- what starts past the greatest number has none
  pub no_start : ((o : ℕ) → StartsAt d c o → greatest < o) → (range : ℕ × ℕ) → ¬ HasRange d c range
  no_start past range has = let large : greatest < range.0 = past range.0 has.start in let fits = has.fits in absurd (omega arith)
