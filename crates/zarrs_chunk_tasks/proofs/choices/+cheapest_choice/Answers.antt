use Rattle.std.proofs.Common.{◌<◌, arith, sym, take}
use Rattle.std.proofs.lemmas.List.{take_all, take_more}
use Rattle.zarrs_chunk_tasks.specs.seen.Choices.{rows_of}
use Rattle.zarrs_chunk_tasks.proofs.CheapestChoices.{is_with, of_next, of_none, of_too_large, some_largest}
use Rattle.zarrs_chunk_tasks.proofs.choices.+cheapest_choice.Goals.{then-size-room+in_ok-found+in_ok-with_size, else-size-room}
use Rattle.zarrs_chunk_tasks.proofs.choices.+cheapest_choice.Goals as goal

pub loop-size-init : goal.loop-size-init
loop-size-init t c = of_none (rows_of c.in-Some.rows.now) c.args.room c.args.worth c.args.read c.args.decoded c.args.bound

pub cheapest_choice-requires : goal.cheapest_choice-requires
cheapest_choice-requires t c =
    let some = rw ((c.in-Some.ensures {u = tt}).cases.0) at c.requires in
    (omega (arith, c.decreases, (c.in-Some.ensures {u = tt}).cases), some.1)

pub loop-size-preserved : goal.loop-size-preserved
loop-size-preserved t c =
    let s = c.size-item.result in
    let row = c.deref-size-items.result.now in
    let k = c.loop-size.size-index in
    let more = take_more row k s c.loop-size-test.true in
    let some = rw ((c.in-Some.ensures {u = tt}).cases.0) at c.requires in
    let some_here : 0 < s.largest = some_largest row k s (rw c.deref-size-items.ensures.value some.0) c.loop-size-test.true c.size-item.is in
    elim c.if-size-room.branch [
      | then-size-room+in_ok-found+in_ok-with_size w ↦
          let before = w.in_ok-found.found in
          let after = w.in_ok-with_size.field-0 in
          let ensured = w.in_ok-with_size.ensures {u = tt} in
          let found =
          rw (w.cost_or-below.ensures, w.saturating_mul-in_read.ensures, w.from.ensures, w.saturating_mul-in_decoded.ensures)
          at (w.in_ok-found.ensures {u = tt})
          in
          rw (w.best-is, w.first-best.ensures, more, sym c.size-item.is)
          (of_next _ _ _ _ _ _ (take k row) s c.loop-size.best before after some_here c.loop-size.invariant found
          (is_with s before after ensured.none ensured.some))
      | else-size-room w ↦
          rw (w.best-is, more, sym c.size-item.is)
          (of_too_large _ _ _ _ _ _ (take k row) s c.loop-size.best some.1 (omega (arith, w.if-size-room.false)) c.loop-size.invariant)
    ]

pub returns : goal.returns
returns t c =
    let whole = take_all c.loop-size.size-index c.deref-size-items.result.now (omega (arith, c.loop-size-test.false)) in
    rw ((c.in-Some.ensures {u = tt}).cases.0) (rw (whole, c.deref-size-items.ensures.value) at c.loop-size.invariant)
