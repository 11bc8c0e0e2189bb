use Rattle.std.proofs.Common.{◌≡◌, ◌++◌, length}
use Rattle.streams.specs.OneLine.{unbroken as unbroken_text}
use Rattle.streams.proofs.line_text.unbroken.Given as goal

-- the line, and the rest as it is to be written, are the text as it is to be written
abbrev pub invariant-loop-first : goal.invariant-loop-first
invariant-loop-first l = l.line.items ++ unbroken_text l.rest ≡ unbroken_text l.fn.text.items

abbrev pub decreases-loop-first : goal.decreases-loop-first
decreases-loop-first l = length l.rest
