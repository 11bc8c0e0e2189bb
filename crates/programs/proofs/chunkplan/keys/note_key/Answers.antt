use Rattle.std.proofs.Common.{◌∙◌}
use Rattle.programs.specs.chunkplan.seen.Opened.{dimensions_of, key_of}
use Rattle.programs.proofs.chunkplan.KeyLines.{if_noted, if_of_target, slash_marks_nothing}
use Rattle.programs.proofs.chunkplan.keys.note_key.Goals as goal

pub returns-in-Ok-clause-noted : goal.returns-in-Ok-clause-noted
returns-in-Ok-clause-noted c =
    let text = c.in_ok-from_str.ensures.ok in
    let same = c.in-Ok.ensures.1 ∙ text in
    if_noted (dimensions_of c.args.target.now) (key_of c.args.target.now) c.args.key.now
    (rw text at c.in-Ok.ensures.0) c.args.stored.now c.note.new.self c.note.result (rw same at c.note.ensures.noted)

pub returns-in-Ok-clause-of_target : goal.returns-in-Ok-clause-of_target
returns-in-Ok-clause-of_target c =
    let text = c.in_ok-from_str.ensures.ok in
    let same = c.in-Ok.ensures.1 ∙ text in
    if_of_target (dimensions_of c.args.target.now) (key_of c.args.target.now)
    c.args.key.now (rw text at c.in-Ok.ensures.0) c.args.stored.now c.note.new.self c.note.result (rw same at c.note.ensures.of_array)

pub returns-clause-noted : goal.returns-clause-noted
returns-clause-noted c = λ targets keys marked.
    slash_marks_nothing (dimensions_of c.args.target.now) (key_of c.args.target.now)
    c.args.key.now targets keys c.args.stored.now (rw c.in_ok-from_str.ensures.ok at c.in-Err.ensures.0) marked
