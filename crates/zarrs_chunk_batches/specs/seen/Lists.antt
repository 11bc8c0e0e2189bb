-- Lists of one length, one after another, of which there are enough.
use Rattle.std.specs.Prelude.{ℕ, ◌+◌, ◌*◌, ◌≤◌, List, length}

-- there is a list with this number
abbrev pub HasList : ℕ → List ℕ → ℕ → Type 0
HasList width numbers number = number * width + width ≤ length numbers
