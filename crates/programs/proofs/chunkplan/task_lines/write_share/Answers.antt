use Rattle.programs.proofs.chunkplan.Common.{◌≡◌, ◌∙◌, ap, inl, length, option_map, refl, sym, share_of}
use Rattle.zarrs_chunk_tasks.specs.seen.Tasks.{all_groups}
use Rattle.programs.specs.chunkplan.seen.Opened.{dimensions_in, key_in}
use Rattle.programs.specs.chunkplan.seen.Resume.{line_unless_stored}
use Rattle.programs.proofs.chunkplan.Exits.{handed}
use Rattle.programs.proofs.chunkplan.SharedLines.{lines_of_share}
use Rattle.programs.proofs.chunkplan.Steps.{text_follows}
use Rattle.zarrs_chunk_tasks.proofs.TasksBegun.{share_has, tasks_of_share}
use Rattle.programs.proofs.chunkplan.task_lines.write_share.Goals as goal

pub write_tasks-requires-clause-can : goal.write_tasks-requires-clause-can
write_tasks-requires-clause-can g c = c.in_ok-first.ensures.can c.requires.can

pub write_tasks-requires-clause-have : goal.write_tasks-requires-clause-have
write_tasks-requires-clause-have g c =
    let shared = c.in_ok-first.ensures in
    share_has dimensions_in key_in c.args.source.now c.args.target.now c.args.walk c.share.new.self c.args.share.now shared.about
    (shared.left ∙ ap (share_of c.args.share.now) c.requires.all) c.requires.have

pub returns-in_err-first : goal.returns-in_err-first
returns-in_err-first g c = rw (handed _ _ c.from_residual.ensures.1) (refl, inl refl)

pub returns : goal.returns
returns g c =
    let walk = c.args.walk in
    let share = c.args.share.now in
    let shared = c.in_ok-first.ensures in
    text_follows _ _ (λ _. ⊥)
    (λ text (plans, come, lines).
    let (all, come_all, is_share, long) =
    tasks_of_share dimensions_in key_in c.args.source.now c.args.target.now walk c.share.new.self share shared.about (shared.left ∙ ap (share_of share) c.requires.all)
    c.requires.have plans come
    in
    let count : length (all_groups walk) ≡ length all = ap length c.requires.all ∙ sym long in (
      all,
      come_all,
      lines_of_share (λ at of plan. line_unless_stored (option_map (λ s. s.now) c.args.stored) at of plan) share all plans (length (all_groups walk)) _ text (ap length shared.all ∙ count) count is_share lines,
    ))
    _ _ _ (c.write_tasks.ensures _ shared.before)
