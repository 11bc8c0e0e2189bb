-- One dimension: chunks of the edges 1, 2 and 3, over an array of six elements.
use Rattle.std.specs.Prelude.{ℕ, zero, suc, ◌+◌, ◌<◌, nat_lt, refl}
use Rattle.std.proofs.Common.{arith, ltb-true, lt-ltb}
use Rattle.zarrs_chunk_base.specs.Dimension.{Dimension, Holds, IsChain}

-- where the chunks start: 0, 1, 3 and, past the last, 6
abbrev pub step : ℕ → ℕ
step zero = 0
step (suc zero) = 1
step (suc (suc zero)) = 3
step (suc (suc (suc _))) = 6

abbrev pub stairs : Dimension
stairs = record { array_size = 6; grid_size = 3; has_chunk = λ c. nat_lt c 3; start = step; end = λ c. step (c + 1) }

-- each chunk starts before it ends
rises : (c : ℕ) → c < 3 → step c < step (c + 1)
rises zero h = omega arith
rises (suc zero) h = omega arith
rises (suc (suc zero)) h = omega arith
rises (suc (suc (suc c))) h = absurd (omega arith)

reaches : (i : ℕ) → i < 6 → (c : ℕ) × (c < 3) × Holds stairs c i
reaches zero h = (0, omega arith, record { chunk = refl; from = omega arith; below = omega arith })
reaches (suc zero) h = (1, omega arith, record { chunk = refl; from = omega arith; below = omega arith })
reaches (suc (suc zero)) h = (1, omega arith, record { chunk = refl; from = omega arith; below = omega arith })
reaches (suc (suc (suc i))) h = (2, omega arith, record { chunk = refl; from = omega arith; below = omega arith })

pub stairs_is_chain : IsChain stairs
stairs_is_chain = record {
  from_zero = λ _. refl;
  not_empty = λ c h. rises c (ltb-true c 3 h);
  no_gap = λ c h. (let later : c + 1 < 3 = ltb-true (c + 1) 3 h in lt-ltb c 3 (omega arith), refl);
  counted = λ c h. lt-ltb c 3 h;
  reaches = reaches;
}
