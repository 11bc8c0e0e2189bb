-- The box that is read for a box, and why there is no plan of it.
use Rattle.programs.proofs.chunkplan.Common.{◌≢◌, Bool, true, false, List, length, subst, ⊎_elim, AllByRecursion, Box, Dimension, IsChain}
use Rattle.programs.proofs.chunkplan.Common.{TellsLengths, RunFault, SubsetDimensionality, Uncovered}
use Rattle.zarrs_chunk_plan.proofs.Clipped.{is_covered}
use Rattle.programs.specs.chunkplan.Planned.{IsReadFault, IsAsked}

module _ (ds : List Dimension) (chains : AllByRecursion IsChain ds) (b asked : Box) where
  -- a box has no plan for the reason that the box has none that is read for it, and a clipped one is covered
  pub asked_fault : (clip : Bool) → IsAsked clip ds b asked → (fault : RunFault) → IsReadFault false ds asked fault → IsReadFault clip ds b fault
  asked_fault false is fault fails = subst (λ box. IsReadFault false ds box fault) is fails
  asked_fault true is (SubsetDimensionality e) fails =
      subst (λ start. (length start ≢ length ds) × TellsLengths (length start) (length ds) e) is.start fails
  asked_fault true is Uncovered (_, many, some, none) =
      let (cover, covers) = is_covered ds b asked chains is some in
      absurd (⊎_elim (λ first. first _ covers.first) (λ last. last _ covers.last) none)
  asked_fault true is _ fails = absurd fails
