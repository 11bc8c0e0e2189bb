-- How many numbers in equal steps are multiples of another one, and how many chunks ranges of one length meet.
use Rattle.std.specs.Prelude.{ℕ, zero, suc, ◌+◌, ◌-◌, ◌*◌, ◌/◌, ◌%◌, map}
use Rattle.std.specs.List.{range_with_len, sum}

-- one if a remainder is zero
unfoldable pub one_if_zero : ℕ → ℕ
one_if_zero zero = 1
one_if_zero (suc _) = 0

-- how many of `many` numbers are multiples of a: of x, x + step, x + 2 * step and so on
unfoldable pub multiples : (a step x many : ℕ) → ℕ
multiples a step x zero = 0
multiples a step x (suc many) = multiples a step x many + one_if_zero ((x + many * step) % a)

-- how many chunks of an edge hold some of the range of a number, of ranges of one length, one after another
abbrev pub in_range : (edge long start : ℕ) → ℕ → ℕ
in_range edge long start j = suc ((start + j * long + (long - 1)) / edge) - (start + j * long) / edge

-- of many ranges, all together
abbrev pub in_ranges : (edge long start many : ℕ) → ℕ
in_ranges edge long start many = sum (map (in_range edge long start) (range_with_len 0 many))
