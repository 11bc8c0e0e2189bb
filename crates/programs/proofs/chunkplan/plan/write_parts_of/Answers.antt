use Rattle.programs.proofs.chunkplan.Common.{◌≡◌, ◌∙◌, ap, false, inl, length, option_map, refl, sym, counted, before_share, share_of, all_chunks}
use Rattle.programs.proofs.chunkplan.Common.{ranges_asked_of, line_of, lines_from, part_json}
use Rattle.programs.specs.chunkplan.Planned.{IsReadFault}
use Rattle.programs.specs.chunkplan.seen.Opened.{dimensions_in, dimensions_of, key_in}
use Rattle.programs.proofs.chunkplan.Begun.{parts_of_share, share_meets}
use Rattle.programs.proofs.chunkplan.Exits.{handed}
use Rattle.zarrs_chunk_plan.proofs.Walked.{plan_of, planned_meet}
use Rattle.programs.proofs.chunkplan.Steps.{text_follows}
use Rattle.programs.proofs.chunkplan.plan.write_parts_of.Goals as goal

pub write_parts-requires-clause-meet : goal.write_parts-requires-clause-meet
write_parts-requires-clause-meet g c =
    let walk = c.in-Ok-Some.walk in
    let is = c.in-Ok-Some.field-0-is in
    let planned = rw is at c.in-Ok-Some.ensures.planned in
    let shared = c.in_ok-first-in-Ok-Some.ensures in
    share_meets walk c.share.new.self c.args.share.now shared.about
    (shared.left ∙ ap (share_of c.args.share.now) (planned.all ∙ sym planned.left)) (planned_meet dimensions_in _ _ _ walk planned)

pub returns-in_err-first-in-Ok-Some : goal.returns-in_err-first-in-Ok-Some
returns-in_err-first-in-Ok-Some g c = rw (handed _ _ c.from_residual.ensures.1) (refl, inl refl)

pub returns-in_ok-first-in-Ok-Some : goal.returns-in_ok-first-in-Ok-Some
returns-in_ok-first-in-Ok-Some g c =
    let walk = c.in-Ok-Some.walk in
    let share = c.args.share.now in
    let is = c.in-Ok-Some.field-0-is in
    let planned = rw is at c.in-Ok-Some.ensures.planned in
    let shared = c.in_ok-first-in-Ok-Some.ensures in
    let about = planned.about in
    let all_come = planned.all ∙ sym planned.left in
    let many = c.requires.lengths in
    text_follows _ _ (IsReadFault false (dimensions_of c.args.array.now) c.args.subset.now)
    (λ text (parts, are, lines).
    let (all, are_all, is_share, long) =
    parts_of_share walk c.share.new.self share shared.about (shared.left ∙ ap (share_of share) all_come) (planned_meet dimensions_in _ _ _ walk planned)
    (rw about.same_subset c.is_a_box.ensures) parts are
    in
    let count : length (all_chunks walk) ≡ length all = ap length all_come ∙ sym long in (
      all,
      record {
        lengths = many;
        plan = plan_of dimensions_in key_in c.args.array.now.grid c.args.array.now.encoding c.args.subset.now planned.cover walk all about
            planned.is_cover planned.left are_all;
      },
      lines
          ∙ ap
          (λ of. lines_from (λ n part. line_of (part_json (counted n) of (option_map ranges_asked_of c.args.ranges.now) part)) (before_share share.number share.of (length (all_chunks walk))) parts)
          c.in_all.ensures
          ∙ ap (λ k. lines_from (λ n part. line_of (part_json (counted n) (counted k) (option_map ranges_asked_of c.args.ranges.now) part)) (before_share share.number share.of k) parts) count
          ∙ ap
          (λ ps. lines_from (λ n part. line_of (part_json (counted n) (counted (length all)) (option_map ranges_asked_of c.args.ranges.now) part))
          (before_share share.number share.of (length all)) ps)
          (sym is_share),
    ))
    _ _ _ (c.write_parts.ensures _ shared.before)
