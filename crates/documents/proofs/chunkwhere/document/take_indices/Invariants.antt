use Rattle.std.proofs.Common.{take}
use Rattle.std.specs.List.{AllByRecursion}
use Rattle.documents.proofs.chunkwhere.IndexLists.{IsIndexList}
use Rattle.documents.proofs.chunkwhere.document.take_indices.Given as goal

-- the trees so far are lists of sizes
abbrev pub invariant-loop-list : goal.invariant-loop-list
invariant-loop-list l = AllByRecursion IsIndexList (take l.list-index l.list-items)
