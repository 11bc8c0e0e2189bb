use Rattle.programs.proofs.chunkplan.Tokens.{then, wrote}
use Rattle.programs.proofs.chunkplan.line.write_key.Goals as goal

pub returns : goal.returns
returns c = then _ _ _ _ _ (wrote _ _ _ c.in_ok-key.ensures) (rw c.as_str.ensures.value at (wrote _ _ _ c.in_ok-string.ensures))
