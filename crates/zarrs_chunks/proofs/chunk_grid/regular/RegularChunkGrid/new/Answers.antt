use Rattle.std.proofs.Common.{◌∙◌, sym}
use Rattle.std.proofs.lemmas.Simd.{map-map}
use Rattle.zarrs_chunk_base.specs.DimensionEdges.{equal}
use Rattle.std.specs.Int.NonZero.{non_zero_u64_get}
use Rattle.zarrs_chunk_base.proofs.Refusals.{own_through}
use Rattle.zarrs_chunk_axes.proofs.EqualAxes.{edges_are}
use Rattle.zarrs_chunk_axes.specs.EqualOrListed.{IsEqualOrListed}
use Rattle.zarrs_chunks.proofs.Configured.{of_one_edge}
use Rattle.zarrs_chunk_axes.proofs.MadeSoFar.{any_accepted, unequal_lengths}
use Rattle.zarrs_chunks.proofs.chunk_grid.regular.RegularChunkGrid.new.Goals as goal

pub invariant_of-result : goal.invariant_of-result
invariant_of-result c = record {
  edges = edges_are _ _ _
      (of_one_edge IsEqualOrListed _ _ _ _ (rw c.deref.ensures.value at c.in-Ok.ensures.made) (sym (map-map equal non_zero_u64_get _)));
}

pub returns-in-Ok-clause-made : goal.returns-in-Ok-clause-made
returns-in-Ok-clause-made c =
    of_one_edge IsEqualOrListed _ _ _ _ (rw c.deref.ensures.value at c.in-Ok.ensures.made) (sym (map-map equal non_zero_u64_get _))

pub returns-in-Err-clause-refused : goal.returns-in-Err-clause-refused
returns-in-Err-clause-refused c =
    unequal_lengths (λ e. equal (non_zero_u64_get e)) _ _ _ _ _ c.map.ensures (rw c.deref.ensures.value at c.in-Err.ensures.refused)

pub returns-in-Err-clause-refused_first : goal.returns-in-Err-clause-refused_first
returns-in-Err-clause-refused_first c = λ unequal.
    own_through _ _ _ c.map.ensures (c.in-Err.ensures.refused_first (rw c.deref.ensures.value (λ all. unequal ((any_accepted _ _ _).0 all))))

pub returns-in-Ok-clause-edges : goal.returns-in-Ok-clause-edges
returns-in-Ok-clause-edges c = rw c.deref.ensures.value at c.in-Ok.ensures.edges ∙ sym (map-map equal non_zero_u64_get _)
