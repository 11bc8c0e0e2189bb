use Rattle.std.proofs.Common.{refl, arith}
use Rattle.zarrs_chunk_batches.proofs.Batches.{behind_list, list_at-other}
use Rattle.zarrs_chunk_batches.proofs.lists.write_list.Goals as goal

pub returns-clause-others : goal.returns-clause-others
returns-clause-others c = list_at-other c.args.width c.args.number _ _ _ _ refl (omega arith) (omega arith) (omega arith)

pub returns-clause-behind : goal.returns-clause-behind
returns-clause-behind c = behind_list c.args.width c.args.number _ _ _ _ refl (omega arith) (omega arith) (omega arith)
