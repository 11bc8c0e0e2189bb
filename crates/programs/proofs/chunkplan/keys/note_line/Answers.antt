use Rattle.programs.proofs.chunkplan.Common.{◌≡◌, ◌≢◌, ◌∙◌, ◌++◌, ◌==◌, [], ap, length, sym, true≢false, unexpected_json, line_of}
use Rattle.programs.specs.chunkplan.seen.Opened.{dimensions_of, key_of}
use Rattle.programs.proofs.chunkplan.KeyLines.{other_noted, own_noted, with_key}
use Rattle.programs.proofs.chunkplan.keys.note_line.Goals as goal

pub returns-then-branch-clause-noted : goal.returns-then-branch-clause-noted
returns-then-branch-clause-noted c = λ targets keys noted.
    let line = c.args.line.now in
    let some : line ≢ [] = λ none. true≢false (sym (ap (λ xs. length xs == 0) none) ∙ sym c.is_empty.ensures ∙ c.if-is_empty.false) in
    let same = c.in-Ok.ensures.cases.0 in
    let marked = (rw same at c.in_ok-note_key.ensures.noted) targets keys noted.marked in
    let told = (rw same at c.in_ok-note_key.ensures.of_target) targets keys noted.marked in
    rw (with_key keys line some)
    (own_noted (dimensions_of c.args.target.now) (key_of c.args.target.now) line targets keys
    c.args.stored.now c.note_key.new.stored c.args.unexpected.now.items noted marked c.in-Ok.ensures.cases.1 (told.0 c.if-branch.true))

pub returns-clause-noted : goal.returns-clause-noted
returns-clause-noted c = λ targets keys noted.
    let line = c.args.line.now in
    let some : line ≢ [] = λ none. true≢false (sym (ap (λ xs. length xs == 0) none) ∙ sym c.is_empty.ensures ∙ c.if-is_empty.false) in
    let same = c.in-Ok.ensures.cases.0 in
    let marked = (rw same at c.in_ok-note_key.ensures.noted) targets keys noted.marked in
    let told = (rw same at c.in_ok-note_key.ensures.of_target) targets keys noted.marked in
    let text : c.extend_from_slice.new.self.items ≡ c.args.unexpected.now.items ++ line_of (unexpected_json line) =
    c.in_ok-extend_from_slice.ensures.items
    ∙ ap (λ xs. c.args.unexpected.now.items ++ xs) (c.deref.ensures.value ∙ c.in_ok-line.ensures ∙ ap (λ key. line_of (unexpected_json key)) same) in
    rw (with_key keys line some, text)
    (other_noted (dimensions_of c.args.target.now) (key_of c.args.target.now) line targets
    keys c.args.stored.now c.note_key.new.stored c.args.unexpected.now.items noted marked
    c.in-Ok.ensures.cases.1 (λ own. true≢false (sym (told.1 own) ∙ c.if-branch.false)))
