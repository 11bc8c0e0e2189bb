use Rattle.std.proofs.Common.{ℕ, List, arith, inl, inr, ⊎_elim}
use Rattle.std.proofs.lemmas.List.{length-map}
use Rattle.zarrs_chunk_base.specs.Dimension.{Dimension, Holds, InBox}
use Rattle.zarrs_chunk_base.proofs.InEach.{turned}
use Rattle.zarrs_chunk_axes.specs.lemmas.LookUpEach.{LiesInNone, SomeMisses}
use Rattle.zarrs_chunk_axes.proofs.EachAxis.{none_in_each}
use Rattle.zarrs_chunk_axes.proofs.OverBox.{IsHolder}
use Rattle.zarrs_chunk_axes.proofs.axis_grid.AxisGrid.chunks_over.Goals as goal

-- an index that misses in some dimension lies in no chunk
no_chunk : (ds : List Dimension) (index : List ℕ) → SomeMisses LiesInNone ds index → (chunk : List ℕ) → ¬ InBox ds chunk index
no_chunk ds index none chunk box = none_in_each LiesInNone IsHolder (λ d i c absent. absent c) ds index chunk none (turned Holds ds chunk index box)

pub returns-else-find_over : goal.returns-else-find_over
returns-else-find_over g c =
    let none = rw (c.if-find_over.false, c.deref.ensures.value, c.start-start.ensures.value, c.shape.ensures.value) at c.find_over.ensures in (
      grind (arith, c.if-start-len.false, c.len.ensures, c.start-start.ensures.value, length-map c.args.self.now.axes.items g.A.Axis.dimension),
      ⊎_elim (λ first. inl (no_chunk _ _ first)) (λ last. inr (no_chunk _ _ last)) none,
    )
