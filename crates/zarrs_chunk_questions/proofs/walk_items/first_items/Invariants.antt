use Rattle.std.proofs.Common.{◌≡◌, ◌++◌, ◌≤◌, length, map}
use Rattle.serde_json.specs.View.{view}
use Rattle.zarrs_chunk_questions.proofs.walk_items.first_items.Given as goal

-- the items so far came of the walk, and are no more than are given
abbrev pub invariant-loop-items : goal.invariant-loop-items
invariant-loop-items g l = record {
  is_walk : g.W.TreeWalk.is_walk l.walk;
  came : g.W.TreeWalk.left l.fn.walk ≡ map view l.items.items ++ g.W.TreeWalk.left l.walk;
  few : length l.items.items ≤ l.limits.most;
}

-- fewer are left
abbrev pub decreases-loop-items : goal.decreases-loop-items
decreases-loop-items g l = length (g.W.TreeWalk.left l.walk)
