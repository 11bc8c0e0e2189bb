use Rattle.std.proofs.Common.{◌≡◌, ◌∙◌, ◌<◌, ◌==◌, Bool, ◌∷◌, List, ℕ, Result, Ok, Err, OnErr, length, replicate, subst, sym, rules}
use Rattle.std.specs.List.{list_any}
use Rattle.std.specs.declared.alloc.AllocError.{AllocError}
use Rattle.zarrs_chunk_axes.specs.InBounds.{AreBelow}
use Rattle.zarrs_chunk_axes.specs.RowMajor.{row_major}
use Rattle.zarrs_chunk_axes.specs.seen.Counting.{after}
use Rattle.zarrs_chunk_axes.specs.seen.RowMajorWalk.{shape_of}
use Rattle.zarrs_chunk_axes.proofs.FirstList.{begins_with_zeros, needs_memory, none_below, zeros_are_below}
use Rattle.zarrs_chunk_axes.proofs.row_major_walk.RowMajorWalk.begin.Goals as goal

on_err : {P : Type 0} (r : Result Bool AllocError) → P → OnErr r P
on_err (Ok _) h = tt
on_err (Err _) h = h

-- whether a list has a 0, of the same list
has_zero : (list shape : List ℕ) (answer : Bool) → list ≡ shape → list_any (λ size. size == 0) list ≡ answer
    → list_any (λ size. size == 0) shape ≡ answer
has_zero list shape answer same has = subst (λ xs. list_any (λ size. size == 0) xs ≡ answer) same has

pub returns-then-contains-clause-gives : goal.returns-then-contains-clause-gives
returns-then-contains-clause-gives c =
    none_below (shape_of c.args.self.now) (has_zero _ _ _ c.as_slice.ensures.value (sym c.contains.ensures.value ∙ c.if-contains.true))

pub returns-in_err-self-clause-fails : goal.returns-in_err-self-clause-fails
returns-in_err-self-clause-fails c =
    let shape = shape_of c.args.self.now in
    let long : 4 < length shape = search rules in
    on_err c.from_residual.result
    (needs_memory shape (has_zero _ _ _ c.as_slice.ensures.value (sym c.contains.ensures.value ∙ c.if-contains.false)) long)

pub invariant_of-self-2 : goal.invariant_of-self-2
invariant_of-self-2 c =
    let shape = shape_of c.args.self.now in
    let zeros : c.in_ok-self.field-0.items ≡ replicate (length shape) 0 = search rules in
    let some = has_zero _ shape _ c.as_slice.ensures.value (sym c.contains.ensures.value ∙ c.if-contains.false) in
    record { below = λ _. subst (AreBelow shape) (sym zeros) (zeros_are_below shape some) }

pub returns-clause-gives : goal.returns-clause-gives
returns-clause-gives c =
    let shape = shape_of c.args.self.now in
    let zeros : c.in_ok-self.field-0.items ≡ replicate (length shape) 0 = search rules in
    let some = has_zero _ shape _ c.as_slice.ensures.value (sym c.contains.ensures.value ∙ c.if-contains.false) in
    subst (λ list. row_major shape ≡ list ∷ after shape list) (sym zeros) (begins_with_zeros shape some)
