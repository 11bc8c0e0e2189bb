use Rattle.zarrs_chunk_plan.proofs.Common.{◌≡◌, ◌∙◌, Bool, true, false, IsTrue, ap, refl, sym, true≢false, is_stored}
use Rattle.zarrs_chunk_plan.specs.seen.StoredChunks.{has_mark, lies_inside, place_of}
use Rattle.zarrs_chunk_plan.proofs.copy.MarkedChunks.{at_place, inside_tells, same_number}
use Rattle.zarrs_chunk_plan.proofs.copy.stored_chunks.StoredChunks.has.Goals as goal

pub returns-then-contains : goal.returns-then-contains
unfolding has_mark
returns-then-contains c =
    let stored = c.args.self.now in
    let start = stored.targets.start in
    let shape = stored.targets.shape in
    let chunk = c.args.chunk.now in
    let inside = c.contains.ensures.0 c.if-contains.true in
    let lies : lies_inside start shape chunk ≡ true = (inside_tells start shape chunk).1 inside in
    let same = same_number stored.targets c.number_in.ensures.is_box chunk c.number_in.result (place_of start shape chunk) c.number_in.ensures.number
    (at_place start shape chunk inside)
    in
    c.has_number.ensures ∙ rw lies (ap (is_stored stored) same)

not_true : (b : Bool) → (¬ IsTrue b) → b ≡ false
not_true false isnt = refl
not_true true isnt = absurd (isnt refl)

pub returns-else-contains : goal.returns-else-contains
unfolding has_mark
returns-else-contains c =
    let stored = c.args.self.now in
    let start = stored.targets.start in
    let shape = stored.targets.shape in
    let chunk = c.args.chunk.now in
    let out = c.if-contains.false in
    rw (out, not_true (lies_inside start shape chunk) (λ lies. true≢false (sym (c.contains.ensures.1 ((inside_tells start shape chunk).0 lies)) ∙ out))) refl
