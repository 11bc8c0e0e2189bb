use Rattle.programs.proofs.chunkplan.Common.{◌≡◌, ◌∙◌, ap, inl, inr, length, map, non_zero_u64_get, refl, suc, sym, Some, ⊎_elim}
use Rattle.zarrs_chunk_base.specs.ArraySubset.{IsEmptyBox}
use Rattle.zarrs_chunk_plan.proofs.Plans.{empty_or_some}
use Rattle.zarrs_chunk_tasks.specs.Stages.{AreExactIfFew, FindsStages, IsOfEmptyRegion}
use Rattle.programs.proofs.chunkplan.Common.{Target}
use Rattle.programs.specs.chunkplan.Stages.{IsIntermediate, staged}
use Rattle.programs.specs.chunkplan.seen.Opened.{array_in, dimensions_in}
use Rattle.programs.specs.chunkplan.seen.Routes.{intermediate_of}
use Rattle.programs.proofs.chunkplan.RouteLists.{route_lengths}
use Rattle.programs.proofs.chunkplan.stages.cheapest_route.Goals as goal

pub returns-then-not-can : goal.returns-then-not-can
returns-then-not-can c =
    inr (inr (inl (c.in_ok-moved.ensures.lies, refl, rw c.in_ok-moved.ensures.value at (c.in_ok-can.ensures c.if-not-can.true))))

pub invariant_of-result : goal.invariant_of-result
invariant_of-result c =
    let region = c.args.region.now in
    let stages = c.in-Some.stages in
    let source = dimensions_in c.args.source.now.grid in
    let target = dimensions_in c.args.target.now.grid in
    let finds : (¬ IsEmptyBox region) → FindsStages source target region c.args.at.now c.args.most c.args.read (Some stages) =
    rw c.in-Some.is at c.in_ok-found.ensures.stages in
    let of_none : IsEmptyBox region → IsOfEmptyRegion source stages = rw c.in-Some.is at c.in_ok-found.ensures.empty in
    let many : length stages.tasks.items ≡ suc (length stages.chunks.items) =
    ⊎_elim
    (λ empty. let is = of_none empty in let (tasks, one, _) = is.one in ap length one ∙ ap (λ chunks. suc (length chunks)) (sym is.no_chunks))
    (λ some. (finds some).as_many) (empty_or_some region.shape) in
    record {
      lengths =
          route_lengths (IsIntermediate region.shape) (λ v. map non_zero_u64_get v.items) (λ tasks. map non_zero_u64_get tasks.task_chunks.items)
          (λ chunk. map non_zero_u64_get chunk.items) intermediate_of c.in_ok-each.each.items stages.tasks.items stages.chunks.items
          c.in_ok-between.between.items (rw c.deref-2.ensures.value at c.in_ok-each.ensures)
          (rw (c.shape.ensures.value, c.deref.ensures.value) at c.in_ok-between.ensures) many;
    }

pub returns : goal.returns
returns c =
    let region = c.args.region.now in
    let at = c.args.at.now in
    let stages = c.in-Some.stages in
    let source = dimensions_in c.args.source.now.grid in
    let target = dimensions_in c.args.target.now.grid in
    let finds : (¬ IsEmptyBox region) → FindsStages source target region at c.args.most c.args.read (Some stages) =
    rw c.in-Some.is at c.in_ok-found.ensures.stages in
    let exact : (¬ IsEmptyBox region) → AreExactIfFew source target region at c.args.most c.args.read stages = rw c.in-Some.is at c.in_ok-found.ensures.exact in
    let of_none : IsEmptyBox region → IsOfEmptyRegion source stages = rw c.in-Some.is at c.in_ok-found.ensures.empty in (
      stages,
      record { lies = c.in_ok-found.ensures.lies; some = finds; exact = exact; none = of_none },
      map intermediate_of c.in_ok-between.between.items,
      rw (c.shape.ensures.value, c.deref.ensures.value) at c.in_ok-between.ensures,
      ap (λ each. (
        Some stages.is_exact,
        staged Target (array_in c.args.source.now) (array_in c.args.target.now) region at
            (map intermediate_of c.in_ok-between.between.items) each,
      )) (rw c.deref-2.ensures.value at c.in_ok-each.ensures),
    )
