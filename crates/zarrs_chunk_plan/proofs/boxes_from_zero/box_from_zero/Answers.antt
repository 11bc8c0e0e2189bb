use Rattle.zarrs_chunk_plan.proofs.Common.{◌∙◌, ap₂, arith, refl, subst, sym, IsBox, fits}
use Rattle.zarrs_chunk_plan.proofs.SomeResizes.{from_zero}
use Rattle.zarrs_chunk_plan.proofs.boxes_from_zero.box_from_zero.Goals as goal

pub box_of-requires : goal.box_of-requires
box_of-requires c =
    let shape = c.args.shape.now in
    let copied = c.in_ok-to_vec.ensures.items_if_clones_equal (λ x y same. same) in
    rw (copied, c.in_ok-start.ensures) (from_zero shape _ refl (fits shape (λ k. omega (arith, c.type_inv.shape k))))

pub returns-clause-value : goal.returns-clause-value
returns-clause-value c =
    let copied = c.in_ok-to_vec.ensures.items_if_clones_equal (λ x y same. same) in
    c.box_of.ensures ∙ ap₂ (λ a b. record { start = a; shape = b }) c.in_ok-start.ensures copied

pub returns-clause-is_box : goal.returns-clause-is_box
returns-clause-is_box c =
    let shape = c.args.shape.now in
    subst IsBox (sym (returns-clause-value c)) (from_zero shape _ refl (fits shape (λ k. omega (arith, c.type_inv.shape k))))
