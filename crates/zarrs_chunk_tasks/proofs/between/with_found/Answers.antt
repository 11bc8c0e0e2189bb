use Rattle.std.proofs.Common.{◌≡◌, ◌∙◌, ◌&&◌, ap, refl, sym}
use Rattle.std.proofs.lemmas.Bool.{and_left}
use Rattle.zarrs_chunk_tasks.specs.seen.Between.{both_are_exact}
use Rattle.zarrs_chunk_tasks.proofs.between.with_found.Goals.{else-compared, in-None, in-Some-best, then-compared}
use Rattle.zarrs_chunk_tasks.proofs.between.with_found.Goals as goal

pub returns : goal.returns
returns c =
    let found = c.in-Some.found in
    let exact : c.if-compared.is_exact ≡ (c.args.compared.is_exact && both_are_exact found) = elim c.if-compared.branch [
      | then-compared w ↦ w.is_exact-is ∙ w.is_exact-is_exact.ensures ∙ sym (ap (λ b. b && both_are_exact found) w.if-compared.true)
      | else-compared w ↦ w.is_exact-is ∙ w.if-compared.false ∙ sym (and_left c.args.compared.is_exact (both_are_exact found) w.if-compared.false)
    ] in
    rw c.in-Some.is (
      exact,
      elim c.match-compared.branch [
        | in-Some-best w ↦ rw (w.in-Some-best.is, w.best-is) (w.cheaper-best.result, rw w.in-Some-best.is at w.cheaper-best.ensures, refl)
        | in-None w ↦ rw (w.in-None.is, w.best-is) refl
      ],
    )
