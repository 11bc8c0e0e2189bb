use Rattle.std.proofs.Common.{inr, refl}
use Rattle.zarrs_chunk_questions.proofs.counting.counts_of.Goals as goal

pub returns-then-not-can : goal.returns-then-not-can
returns-then-not-can c =
    let many = rw c.deref.ensures.value at c.in_ok-can.ensures in
    inr (c.in_ok-tasks.ensures.0, refl, many c.if-not-can.true)

pub returns-in_ok-counts_tree-in-Ok : goal.returns-in_ok-counts_tree-in-Ok
returns-in_ok-counts_tree-in-Ok c =
    let said = rw (c.deref-2.ensures.value, c.deref-3.ensures.value) at c.in-Ok.ensures in
    record {
      has = said.has;
      counts = c.in-Ok.counts.items;
      are_counts = said.counts;
      long = said.long;
      none = said.empty;
      tree = rw c.deref-in-Ok.ensures.value at c.in_ok-counts_tree-in-Ok.ensures;
    }
