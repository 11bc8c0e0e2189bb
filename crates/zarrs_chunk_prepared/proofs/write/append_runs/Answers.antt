use Rattle.std.proofs.lemmas.Result.{on_ok_weaker}
use Rattle.zarrs_chunk_prepared.proofs.RunTables.{appended_runs}
use Rattle.zarrs_chunk_prepared.proofs.write.append_runs.Goals as goal

pub returns : goal.returns
returns c =
    let edges = c.in-Ok.ensures.edges in
    let (some, fits) = rw (← edges) at c.requires in
    on_ok_weaker c.append_row.result
    (λ wrote d size chain counts is.
    rw (← edges) (appended_runs c.in-Ok.edges c.in_ok-table.table.starts.items c.in_ok-table.table.chunks.items c.in_ok-table.table.edges.items
    c.args.numbers.now.items c.append_row.new.numbers.items d size c.args.count chain counts (rw edges is) some fits
    c.in_ok-table.ensures
    (rw (
      c.saturating_sub.ensures,
      c.total.ensures,
      c.saturating_sub-2.ensures,
      c.chunks.ensures,
      c.runs.ensures,
      c.deref.ensures.value,
      c.deref-2.ensures.value,
      c.deref-3.ensures.value,
    ) at wrote)))
    c.append_row.ensures
