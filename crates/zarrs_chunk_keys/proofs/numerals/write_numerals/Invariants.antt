use Rattle.std.proofs.Common.{◌≡◌, ℕ, List, ◌++◌, take, string_bytes}
use Rattle.zarrs_chunk_keys.specs.Numeral.{IsNumerals}
use Rattle.zarrs_chunk_keys.proofs.numerals.write_numerals.Given as goal

-- what was appended so far is the numerals of the numbers so far
abbrev pub invariant-loop-number : goal.invariant-loop-number
invariant-loop-number l =
    (numerals : List ℕ) × IsNumerals l.before (take l.number-index l.numbers) numerals
    × (string_bytes l.text ≡ string_bytes l.initial.text ++ numerals)
