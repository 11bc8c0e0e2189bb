-- The greatest number that an array size, an index or a chunk number can be.
use Rattle.std.specs.Prelude.{ℕ, ◌≤◌, List}
use Rattle.std.specs.List.{AllByRecursion}

-- the greatest u64
abbrev pub greatest : ℕ
greatest = 18446744073709551615

-- each number is at most the greatest
abbrev pub AllFit : List ℕ → Type 0
AllFit = AllByRecursion (λ n. n ≤ greatest)
