use Rattle.programs.proofs.chunkplan.Common.{◌≡◌, ◌∙◌, ℕ, suc, ◌+◌, ◌<◌, Option, Some, None, sym, arith, counted, counted_cases}
use Rattle.std.specs.Option.{SomeIff}
use Rattle.programs.proofs.chunkplan.copying.next_number.Goals as goal

next : (k n : ℕ) (more : Option ℕ) → Some k ≡ counted n → SomeIff more (k + 1 < 18446744073709551616) (k + 1) → more ≡ counted (suc n)
next k n more is made = let now = counted_cases n in let then = counted_cases (suc n) in grind arith

none_next : (n : ℕ) → None ≡ counted n → None ≡ counted (suc n)
none_next n is = let now = counted_cases n in let then = counted_cases (suc n) in grind arith

pub returns-in-Some : goal.returns-in-Some
returns-in-Some c = λ n is. next c.in-Some.number n c.checked_add.result (sym c.in-Some.is ∙ is) c.checked_add.ensures

pub returns-in-None : goal.returns-in-None
returns-in-None c = λ n is. none_next n (sym c.in-None.is ∙ is)
