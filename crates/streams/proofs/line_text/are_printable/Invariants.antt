use Rattle.std.specs.Prelude.{IsTrue, take}
use Rattle.std.specs.List.{AllByRecursion}
use Rattle.streams.proofs.OneLines.{IsPrintable}
use Rattle.streams.proofs.line_text.are_printable.Given as goal

-- the bytes so far are printable, unless it is false
abbrev pub invariant-loop-byte : goal.invariant-loop-byte
invariant-loop-byte l = IsTrue l.printable → AllByRecursion IsPrintable (take l.byte-index l.text)
