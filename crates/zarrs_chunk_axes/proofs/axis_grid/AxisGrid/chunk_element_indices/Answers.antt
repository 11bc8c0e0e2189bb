use Rattle.std.proofs.Common.{ℕ, List, [], ◌∷◌, refl}
use Rattle.zarrs_chunk_base.specs.Dimension.{Dimension, Holds, InBox, InEach, IsPlace}
use Rattle.zarrs_chunk_base.proofs.InEach.{turned}
use Rattle.zarrs_chunk_axes.specs.LookUp.{LiesAt}
use Rattle.zarrs_chunk_axes.proofs.EachAxis.{answers_weaker, none_in_each}
use Rattle.zarrs_chunk_axes.proofs.axis_grid.AxisGrid.chunk_element_indices.Goals as goal

-- what lies at a place in each dimension lies in a chunk
in_chunk : (ds : List Dimension) (index place : List ℕ) → InEach LiesAt ds index place
    → (chunk : List ℕ) × InBox ds chunk index × IsPlace ds chunk index place
in_chunk [] [] [] h = ([], tt, tt)
in_chunk (d ∷ ds) (i ∷ index) (p ∷ place) h =
    let (chunk, box, behind) = in_chunk ds index place h.1 in
    (h.0.chunk ∷ chunk, (h.0.holds, box), (h.0.behind, behind))
in_chunk _ _ _ h = absurd h

pub returns : goal.returns
returns g c =
    let index = c.args.indices.now in
    answers_weaker _ _ _ _ _ _ _ _ refl
    (λ v found. in_chunk _ _ _ found)
    (λ none chunk box. none_in_each _ (λ d i c. Holds d c i) (λ d i c absent. absent c) _ index chunk none (turned Holds _ chunk index box))
    c.look_up.ensures
