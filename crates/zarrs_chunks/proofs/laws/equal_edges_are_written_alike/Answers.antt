use Rattle.zarrs_chunks.proofs.WrittenLengths.{written_alike}
use Rattle.zarrs_chunks.proofs.laws.equal_edges_are_written_alike.Goals as goal

pub returns : goal.returns
returns c = written_alike
