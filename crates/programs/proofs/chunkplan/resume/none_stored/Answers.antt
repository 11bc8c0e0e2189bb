use Rattle.programs.proofs.chunkplan.Common.{◌∙◌, ℕ, List, inl, inr, refl, sym, ⊎_elim, Box}
use Rattle.zarrs_chunk_plan.specs.Region.{CanBeMoved, IsRegionFault}
use Rattle.zarrs_chunk_plan.specs.declared.copy.region_error.RegionError.{RegionError}
use Rattle.zarrs_chunk_plan.specs.declared.copy.region_error.RegionError.TheVariants.{At, PastSource, PastTarget, Region, Target}
use Rattle.zarrs_chunk_plan.proofs.MovedBoxes.{within_long, within_starts}
use Rattle.programs.specs.chunkplan.RunFault.{of_region}
use Rattle.programs.proofs.chunkplan.Exits.{handed}
use Rattle.programs.proofs.chunkplan.Steps.{refused_or}
use Rattle.programs.proofs.chunkplan.resume.none_stored.Goals as goal

-- a region that can be moved has no fault
no_region_fault : (source target : List ℕ) (region : Box) (at : List ℕ) → CanBeMoved source target region at → (error : RegionError)
    → ¬ IsRegionFault source target region at error
no_region_fault source target region at can = by_case
  where
    by_case : (error : RegionError) → IsRegionFault source target region at error → ⊥
    by_case (Region _) (differ, _) = differ (within_starts region.start region.shape source can.in_source)
    by_case (Target _) (_, differ, _) =
        differ (sym (within_long at region.shape target can.in_target) ∙ within_long region.start region.shape source can.in_source)
    by_case (At _) (_, _, differ, _) =
        differ (within_starts at region.shape target can.in_target ∙ sym (within_long at region.shape target can.in_target)
        ∙ within_long region.start region.shape source can.in_source)
    by_case PastSource (_, _, _, out) = out can.in_source
    by_case PastTarget (_, _, _, out) = out can.in_target

pub returns-in_err-moved : goal.returns-in_err-moved
returns-in_err-moved c =
    rw (handed _ _ c.from_residual.ensures.1)
    (⊎_elim inl (λ never. absurd never)
    (refused_or of_region _ (λ _. ⊥)
    (λ error is. no_region_fault _ _ _ _ c.requires.has.can error (rw c.deref.ensures.value at is)) _ c.in_err-moved.ensures.refused))

pub returns-in-Some : goal.returns-in-Some
returns-in-Some c =
    let planned = rw (c.in_ok-into.ensures, c.in_ok-moved.ensures.value, c.deref.ensures.value) at c.parts.ensures.planned in
    let knows = rw (c.in-Some.is, planned.about.same_grid, planned.about.same_encoding, planned.all) at c.in_ok-stored.ensures.none in
    let few = rw (c.in-Some.is, planned.all) at c.in_ok-stored.ensures.few in
    (planned.cover, planned.is_cover, few, knows)

pub returns : goal.returns
returns c =
    let planned = rw (c.in_ok-into.ensures, c.in_ok-moved.ensures.value, c.deref.ensures.value) at c.parts.ensures.planned in
    let many = rw (c.in-None.is, planned.all) at c.in_ok-stored.ensures.none in
    inr (refl, planned.cover, planned.is_cover, many)
