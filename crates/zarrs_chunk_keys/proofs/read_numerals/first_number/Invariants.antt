use Rattle.std.proofs.Common.{◌+◌, ◌≤◌, take}
use Rattle.zarrs_chunk_base.specs.Greatest.{greatest}
use Rattle.zarrs_chunk_keys.specs.Numeral.{IsNumeral}
use Rattle.zarrs_chunk_keys.proofs.read_numerals.first_number.Given as goal

-- the digits so far are the numeral of the number, which fits
abbrev pub invariant-loop-i : goal.invariant-loop-i
invariant-loop-i l = record {
  fits : l.number ≤ greatest;
  is_numeral : IsNumeral l.number (take (l.i + 1) l.text);
}
