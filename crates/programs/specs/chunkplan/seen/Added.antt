-- What a writer of JSON has after some tokens were written.
use Rattle.std.specs.Prelude.{◌≡◌, ◌++◌}
use Rattle.programs.specs.chunkplan.Common.{List, Token}
use Rattle.json.specs.Written.{Written}

-- these tokens were appended, and what stood before them stands
pub record Adds (old new : Written) (ts : List Token) : Type 0 where
  pub before : new.before ≡ old.before
  pub tokens : new.tokens ≡ old.tokens ++ ts
