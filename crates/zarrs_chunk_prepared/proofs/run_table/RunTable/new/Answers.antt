use Rattle.std.proofs.Common.{◌≡◌, ◌∙◌, ◌+◌, ◌*◌, [], ◌∷◌, ap, arith, length, rules, subst, sym, take}
use Rattle.std.proofs.lemmas.List.{length-append}
use Rattle.std.specs.Int.NonZero.{non_zero_u64_get}
use Rattle.std.specs.List.{sum}
use Rattle.zarrs_chunk_runs.specs.Runs.{edges_of_runs}
use Rattle.zarrs_chunk_runs.specs.seen.RunEdges.{runs_of}
use Rattle.zarrs_chunk_prepared.specs.seen.RunTable.{IsRunTable}
use Rattle.zarrs_chunk_prepared.proofs.RunTables.{chunk_fits, chunks_at_most, next_chunk, next_start, start_fits, table_more}
use Rattle.zarrs_chunk_prepared.proofs.run_table.RunTable.new.Goals as goal

pub overflow_mul-start : goal.overflow_mul-start
overflow_mul-start c =
    let counted : c.len.result ≡ length c.loop-edge.table.starts.items = search rules in
    let (within, run) = rw counted at c.in-Some.ensures in
    let fits = start_fits (runs_of c.args.edges.now) (length c.loop-edge.table.starts.items) (non_zero_u64_get c.in-Some.edge)
    (non_zero_u64_get c.in-Some.count) within run in
    rw (c.get-in-Some.ensures.value, c.get-in-Some-2.ensures.value) (omega (arith, c.requires))

pub overflow_add-start : goal.overflow_add-start
overflow_add-start c =
    let counted : c.len.result ≡ length c.loop-edge.table.starts.items = search rules in
    let (within, run) = rw counted at c.in-Some.ensures in
    let fits = start_fits (runs_of c.args.edges.now) (length c.loop-edge.table.starts.items) (non_zero_u64_get c.in-Some.edge)
    (non_zero_u64_get c.in-Some.count) within run in
    rw (c.get-in-Some.ensures.value, c.get-in-Some-2.ensures.value) (omega (arith, c.requires, c.loop-edge.invariant.is_start))

pub overflow_add-chunk : goal.overflow_add-chunk
overflow_add-chunk c =
    let counted : c.len.result ≡ length c.loop-edge.table.starts.items = search rules in
    let (within, run) = rw counted at c.in-Some.ensures in
    let fits = chunk_fits (runs_of c.args.edges.now) (length c.loop-edge.table.starts.items) (non_zero_u64_get c.in-Some.edge)
    (non_zero_u64_get c.in-Some.count) within run in
    let fewer = chunks_at_most c.args.edges.now.runs.items in
    rw c.get-in-Some-3.ensures.value (omega (arith, c.requires, c.loop-edge.invariant.is_chunk))

pub loop-edge-preserved : goal.loop-edge-preserved
loop-edge-preserved c =
    let runs = runs_of c.args.edges.now in
    let before = c.loop-edge.invariant in
    let n = length c.loop-edge.table.starts.items in
    let edge = non_zero_u64_get c.in-Some.edge in
    let count = non_zero_u64_get c.in-Some.count in
    let counted : c.len.result ≡ length c.loop-edge.table.starts.items = search rules in
    let (within, run) = rw counted at c.in-Some.ensures in
    let wrote = c.in_ok-push.ensures in
    let more : n + 1 ≡ length c.push.new.self.starts.items =
    sym (ap length wrote.starts ∙ length-append c.loop-edge.table.starts.items (c.loop-edge.start ∷ [])) in
    let made = table_more runs n c.loop-edge.start c.loop-edge.chunk edge count c.loop-edge.table.starts.items c.loop-edge.table.chunks.items
    c.loop-edge.table.edges.items within run before.so_far before.is_start before.is_chunk in
    record {
      within = omega (arith, more, within);
      so_far = subst (λ m. IsRunTable runs m c.push.new.self.starts.items c.push.new.self.chunks.items c.push.new.self.edges.items) more
          (rw (wrote.starts, wrote.chunks, wrote.edges, c.get.ensures.value) made);
      is_start =
          rw (c.get-in-Some.ensures.value, c.get-in-Some-2.ensures.value)
          (ap (λ x. x + edge * count) before.is_start ∙ next_start runs n edge count within run ∙ ap (λ m. sum (edges_of_runs (take m runs))) more);
      is_chunk =
          rw c.get-in-Some-3.ensures.value
          (ap (λ x. x + count) before.is_chunk ∙ next_chunk runs n edge count within run ∙ ap (λ m. length (edges_of_runs (take m runs))) more);
    }
