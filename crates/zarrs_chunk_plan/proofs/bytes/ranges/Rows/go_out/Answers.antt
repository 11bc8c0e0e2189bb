use Rattle.zarrs_chunk_plan.proofs.Common.{◌≡◌, ◌∙◌, ◌+◌, ◌*◌, ◌==◌, ap, refl, sym, arith, mul-le-mul_right, mul_assoc, row_fits, product}
use Rattle.std.proofs.Common.{◌&&◌}
use Rattle.std.proofs.Math.Nat.{add-mul}
use Rattle.zarrs_chunk_plan.proofs.bytes.ranges.Rows.go_out.Goals as goal
use Rattle.zarrs_chunk_plan.proofs.bytes.ranges.Rows.go_out.Goals.{then-self, else-self+in_ok-insert+in_ok-insert-2}

pub returns-clause-outer : goal.returns-clause-outer
returns-clause-outer c = λ _ item edges starts shape was.
    let row = c.args.self.now.row in
    let start = c.args.start in
    let count = c.args.count in
    let edge = c.args.edge in
    let (fits, outer_is) = c.in-Some.ensures in
    let all_rows = mul-le-mul_right row c.requires.within in
    let split = add-mul start count row in
    let room = row_fits start row edge row (omega arith) (omega arith) in
    let row_is = ap (λ n. edge * n) was.row_is ∙ sym (mul_assoc edge (product edges) item) in
    let whole_is = ap (λ b. b && (count == edge)) was.whole_is in
    let within = was.within in
    let first : c.saturating_add-self.result ≡ c.args.self.now.ranges.first + start * row = omega arith in
    elim c.if-self.branch [
      | then-self w ↦
          let long : w.saturating_mul-self.result ≡ count * row = omega arith in
          let all = rw w.if-self.true at whole_is in
          rw (w.self-is, outer_is, first, long)
          (record { row_is = row_is; fits = omega arith; within = omega arith; form = rw (was.row_is, ← was.whole_is, w.if-self.true, ← was.form) refl; whole_is = all })
      | else-self+in_ok-insert+in_ok-insert-2 w ↦
          let part = rw w.if-self.false at whole_is in
          rw (w.self-is, outer_is, first, w.if-self.false) (record {
            row_is = row_is;
            fits = omega arith;
            within = omega arith;
            form = rw (w.in_ok-insert.ensures.items, w.in_ok-insert-2.ensures.items, was.row_is, ← was.whole_is, w.if-self.false, ← was.form) refl;
            whole_is = part;
          })
    ]
