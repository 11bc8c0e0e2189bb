use Rattle.programs.proofs.chunkplan.Tokens.{then, wrote}
use Rattle.programs.proofs.chunkplan.line.write_numbers.Goals as goal

pub returns : goal.returns
returns c = then _ _ _ _ _ (wrote _ _ _ c.in_ok-key.ensures) c.in_ok-write_list.ensures
