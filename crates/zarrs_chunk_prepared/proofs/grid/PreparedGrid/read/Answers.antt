use Rattle.std.proofs.Common.{◌≡◌, ◌∙◌, ap, length, map, rules, subst, sym}
use Rattle.std.proofs.lemmas.List.{length-map}
use Rattle.std.specs.List.{AllZip}
use Rattle.zarrs_chunk_prepared.specs.Prepared.{IsTableOf, grid_mark}
use Rattle.zarrs_chunk_prepared.specs.seen.Axis.{table_of}
use Rattle.zarrs_chunk_prepared.proofs.Rows.{all_long, are_tables, axes_long, read_head}
use Rattle.zarrs_chunk_prepared.proofs.grid.PreparedGrid.read.Goals as goal

pub returns-in_default-2-clause-tables : goal.returns-in_default-2-clause-tables
returns-in_default-2-clause-tables c tables (long, is) =
    let (_, rest) = read_head grid_mark tables c.args.numbers.now c.in-Some.head.now c.in-Some.rest.now is c.in-Some.ensures.cases in
    rw c.in_default-2.is at c.in_ok-axes.ensures.tables tables long rest

pub returns-in_default-2-clause-grid : goal.returns-in_default-2-clause-grid
returns-in_default-2-clause-grid c grid (tables, are, is) =
    returns-in_default-2-clause-tables c tables (all_long grid.dimensions tables are, is)

pub returns-then-len-head-clause-tables : goal.returns-then-len-head-clause-tables
returns-then-len-head-clause-tables c tables (long, is) =
    let (count, rest) = read_head grid_mark tables c.args.numbers.now c.in-Some.head.now c.in-Some.rest.now is c.in-Some.ensures.cases in
    let read : map table_of c.in-Some-2.axes.items ≡ tables = rw c.in-Some-2.is at c.in_ok-axes.ensures.tables tables long rest in
    let counted : c.len.result ≡ length c.in-Some-2.axes.items = search rules in
    c.if-len-head.true (counted ∙ sym (length-map c.in-Some-2.axes.items table_of) ∙ ap length read ∙ sym count)

pub returns-then-len-head-clause-grid : goal.returns-then-len-head-clause-grid
returns-then-len-head-clause-grid c grid (tables, are, is) =
    returns-then-len-head-clause-tables c tables (all_long grid.dimensions tables are, is)

pub returns-clause-grid : goal.returns-clause-grid
returns-clause-grid c grid (tables, are, is) =
    let (_, rest) = read_head grid_mark tables c.args.numbers.now c.in-Some.head.now c.in-Some.rest.now is c.in-Some.ensures.cases in
    let read : map table_of c.in-Some-2.axes.items ≡ tables =
    rw c.in-Some-2.is at c.in_ok-axes.ensures.tables tables (all_long grid.dimensions tables are) rest in
    subst (AllZip IsTableOf grid.dimensions) (sym read) are

pub returns-clause-tables : goal.returns-clause-tables
returns-clause-tables c =
    let axes = c.in-Some-2.axes.items in
    let counted : c.len.result ≡ length axes = search rules in
    let rest = rw c.in-Some-2.is at c.in_ok-axes.ensures.numbers in (
      axes_long axes,
      are_tables grid_mark axes c.args.numbers.now c.in-Some.head.now c.in-Some.rest.now c.in-Some.ensures.cases
          c.if-head-ne-GRID_MARK.false (sym c.if-len-head.false ∙ counted) rest,
    )
