use Rattle.std.proofs.Common.{◌≡◌, ◌++◌, ◌∷◌, [], ◌-◌, ◌<◌, length, map, get_or, replicate, set, ap, sym, ◌∙◌, refl, arith}
use Rattle.std.proofs.lemmas.Bool.{eqb-true, eqb-false}
use Rattle.std.proofs.lemmas.List.{set-get_or}
use Rattle.std.specs.Vec.{vec_len}
use Rattle.std.specs.declared.num.NonZeroU64.{NonZeroU64}
use Rattle.std.specs.Int.NonZero.{non_zero_u64_get}
use Rattle.zarrs_chunk_runs.specs.Runs.{edges_of_runs, run_of}
use Rattle.zarrs_chunk_runs.proofs.Merged.{last_run, lengthened, merged_with_longer, pushed}
use Rattle.zarrs_chunk_runs.proofs.elements.append.Goals as goal

pub returns-then-eq-clause-edges : goal.returns-then-eq-clause-edges
returns-then-eq-clause-edges c =
    let items = c.args.runs.now.items in
    let last = c.in-Some.last.now in
    let some : 0 < length items = omega (arith, c.in-Some.ensures.variant.0 refl) in
    let same : non_zero_u64_get last.0 ≡ non_zero_u64_get c.args.edge = eqb-true _ _ (sym c.if-eq.ensures) in
    lengthened items (vec_len c.args.runs.now - 1) last (omega arith) c.in-Some.ensures.value c.args.count c.saturating_add-last.result c.requires
    (rw c.get.ensures.value at c.saturating_add-last.ensures)
    ∙ ap (λ e. edges_of_runs (map run_of items) ++ replicate (non_zero_u64_get c.args.count) e) same

pub returns-then-eq-clause-merged : goal.returns-then-eq-clause-merged
returns-then-eq-clause-merged c merged =
    let items = c.args.runs.now.items in
    let some : 0 < length items = omega (arith, c.in-Some.ensures.variant.0 refl) in
    merged_with_longer items (vec_len c.args.runs.now - 1) c.in-Some.last.now
    (omega arith) c.in-Some.ensures.value c.saturating_add-last.result merged

pub returns-in_ok-push-2-clause-merged : goal.returns-in_ok-push-2-clause-merged
returns-in_ok-push-2-clause-merged c merged =
    let items = c.args.runs.now.items in
    let run : NonZeroU64 × NonZeroU64 = (c.args.edge, c.args.count) in
    let last = c.in-Some.last.now in
    let at = vec_len c.args.runs.now - 1 in
    let some : 0 < length items = omega (arith, c.in-Some.ensures.variant.0 refl) in
    let kept = ap (λ x. set items at x) c.in-Some.ensures.value ∙ set-get_or items at last in
    let unlike = eqb-false _ _ (sym c.if-eq.ensures) in
    pushed items _ run (c.in_ok-push-2.ensures.items ∙ ap (λ so_far. so_far ++ run ∷ []) kept) merged
    (λ i is_last same.
    let at_last : last ≡ get_or items i last = c.in-Some.ensures.value ∙ ap (λ n. get_or items n last) (omega arith) in
    unlike (ap (λ r. r.0) (sym (last_run items i last is_last at_last)) ∙ same))
