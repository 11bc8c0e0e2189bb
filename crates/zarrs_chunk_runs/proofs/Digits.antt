-- Each number has binary digits, so and so many.
use Rattle.std.proofs.Common.{◌≡◌, ℕ, zero, suc, ◌<◌, ◌≤◌, ◌^◌, ⊎_elim, arith}
use Rattle.std.proofs.lemmas.Bool.{cases_lt}
use Rattle.zarrs_chunk_runs.specs.Search.{HasDigits}

powers_rise : (d e : ℕ) → d ≤ e → 2 ^ d ≤ 2 ^ e
powers_rise zero zero order = omega arith
powers_rise zero (suc e) order = omega (arith, powers_rise zero e (omega arith))
powers_rise (suc d) zero order = absurd (omega arith)
powers_rise (suc d) (suc e) order = omega (arith, powers_rise d e (omega arith))

pub there_are : (n : ℕ) → (d : ℕ) × HasDigits n d
there_are zero = (0, record { below = omega arith; least = λ e below. omega arith })
there_are (suc n) =
    let (d, digits) = there_are n in
    let below = digits.below in
    ⊎_elim (λ (fits : suc n < 2 ^ d). (d, record { below = fits; least = λ e small. digits.least e (omega arith) }))
    (λ (full : 2 ^ d ≤ suc n). (
      suc d,
      record {
        below = omega arith;
        least = λ e small. ⊎_elim (λ (fewer : e < suc d). absurd (omega (arith, powers_rise e d (omega arith))))
            (λ (more : suc d ≤ e). more) (cases_lt e (suc d));
      },
    ))
    (cases_lt (suc n) (2 ^ d))

pub only_so_many : (n d e : ℕ) → HasDigits n d → HasDigits n e → d ≡ e
only_so_many n d e one other = omega (arith, one.least e other.below, other.least d one.below)
