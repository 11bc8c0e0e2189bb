-- Some of what a list has.
use Rattle.std.proofs.Common.{ℕ, zero, suc, List, [], ◌∷◌, drop, take}
use Rattle.std.specs.List.{AllByRecursion}

-- what holds of each holds of those taken, and of those behind them
pub all_taken : {X : Type 0} (P : X → Type 0) (count : ℕ) (xs : List X) → AllByRecursion P xs → AllByRecursion P (take count xs)
all_taken P zero xs all = tt
all_taken P (suc count) [] all = tt
all_taken P (suc count) (x ∷ xs) all = (all.0, all_taken P count xs all.1)

pub all_behind : {X : Type 0} (P : X → Type 0) (count : ℕ) (xs : List X) → AllByRecursion P xs → AllByRecursion P (drop count xs)
all_behind P zero xs all = all
all_behind P (suc count) [] all = tt
all_behind P (suc count) (x ∷ xs) all = all_behind P count xs all.1
