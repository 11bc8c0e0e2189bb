use Rattle.std.proofs.Common.{◌-◌, ◌≤◌, length}
use Rattle.std.specs.Vec.{vec_capacity}
use Rattle.zarrs_chunk_base.specs.ChunkKeySeparator.{separator_byte}
use Rattle.zarrs_chunk_base.specs.Greatest.{AllFit}
use Rattle.zarrs_chunk_keys.proofs.FirstNumeral.{AreRead}
use Rattle.zarrs_chunk_keys.proofs.read_numerals.read_numbers.Given as goal

-- the numbers so far were read of the text; they fit, and there is room for all
abbrev pub invariant-loop-rest : goal.invariant-loop-rest
invariant-loop-rest l = record {
  fit : AllFit l.numbers.items;
  read : AreRead (separator_byte l.fn.separator) l.text l.rest l.numbers.items;
  within : length l.numbers.items ≤ l.count;
  room : l.count ≤ vec_capacity l.numbers;
}

abbrev pub decreases-loop-rest : goal.decreases-loop-rest
decreases-loop-rest l = l.count - length l.numbers.items
