use Rattle.zarrs_chunk_plan.proofs.Common.{◌≡◌, ◌∙◌, ◌+◌, ap, length, sym, arith, row_major, counted, before_share}
use Rattle.zarrs_chunk_plan.proofs.shares.BeforeShares.{all_before}
use Rattle.zarrs_chunk_plan.proofs.counts.BoxCounts.{below_shape}
use Rattle.zarrs_chunk_plan.proofs.shares.share.Share.line_numbers.Goals as goal
use Rattle.zarrs_chunk_plan.proofs.shares.share.Share.line_numbers.Goals.{in-Some, in-None}

pub returns-clause-first : goal.returns-clause-first
returns-clause-first c =
    let share = c.args.self.now in
    c.lines_before.ensures (length (row_major c.args.lines.now)) c.long_count-count.ensures
    ∙ ap (λ all. counted (before_share share.number share.of all)) (below_shape c.args.lines.now)

pub returns-clause-end : goal.returns-clause-end
returns-clause-end c =
    let share = c.args.self.now in
    let lines = c.args.lines.now in
    let all = length (row_major lines) in
    elim c.match-new.branch [
      | in-Some w ↦
          let (number, of) = w.in-Some.ensures in
          w.end-is
          ∙ (rw (number, of) at w.lines_before-end.ensures all c.long_count-count.ensures)
          ∙ ap (λ n. counted (before_share (share.number + 1) share.of n)) (below_shape lines)
      | in-None w ↦
          let last : share.number + 1 ≡ share.of = (let none = w.in-None.ensures in omega arith) in
          w.end-is ∙ w.count_of-end.ensures
          ∙ ap counted (sym (all_before share.number share.of all last) ∙ ap (λ n. before_share (share.number + 1) share.of n) (below_shape lines))
    ]
