use Rattle.zarrs_chunk_plan.proofs.Common.{◌≡◌, ◌==◌, ◌∙◌, ◌/◌, ◌%◌, ◌≤◌, ap, get_or, sym, arith, bit_at, is_stored}
use Rattle.zarrs_chunk_plan.proofs.copy.MarkedChunks.{none_there}
use Rattle.zarrs_chunk_plan.proofs.copy.stored_chunks.StoredChunks.has_number.Goals as goal

pub returns-in-Some : goal.returns-in-Some
unfolding is_stored
returns-in-Some c =
    let number = c.args.number in
    let read : c.in-Some.word.now ≡ get_or c.args.self.now.bits.items (number / 64) 0 =
    rw c.deref.ensures.value at (c.in-Some.ensures.lookup.3.1 0)
    in
    c.has_bit.ensures ∙ ap (λ word. bit_at word (number % 64) == 1) read

pub returns-in-None : goal.returns-in-None
unfolding is_stored
returns-in-None c =
    let number = c.args.number in
    let itself : number / 64 ≤ number / 64 = omega arith in
    let none = rw c.deref.ensures.value at (c.in-None.ensures.lookup.4 itself 0) in
    sym (none_there c.args.self.now.bits.items number (sym none))
