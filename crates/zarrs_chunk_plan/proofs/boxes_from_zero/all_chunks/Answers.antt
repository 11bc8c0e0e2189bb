use Rattle.zarrs_chunk_plan.proofs.Common.{◌≡◌, ℕ, List, Result, Ok, Err, IfOk, subst, sym, length-map, AllByRecursion, AllocError, Box, IsInside}
use Rattle.zarrs_chunk_plan.proofs.Common.{Dimension, IsChain, Meets, all_chunks_box, array_box}
use Rattle.zarrs_chunk_plan.proofs.Rechunkings.{is_counted}
use Rattle.zarrs_chunk_plan.proofs.boxes_from_zero.all_chunks.Goals as goal

pub returns-clause-counted : goal.returns-clause-counted
returns-clause-counted g c =
    let ds = g.G.ChunkGridTraits.dimensions c.args.grid.now in
    let made = rw c.grid_shape.ensures at c.box_from_zero.ensures.value in
    rw (← length-map ds (λ d. d.grid_size)) made

all_lie : (ds : List Dimension) → AllByRecursion IsChain ds → (r : Result Box AllocError) → IfOk r (λ chunks. chunks ≡ all_chunks_box ds)
    → IfOk r (λ chunks. (chunk : List ℕ) → Meets ds (array_box ds) chunk → IsInside chunks chunk)
all_lie ds chains (Ok chunks) is = λ chunk meets. subst (λ b. IsInside b chunk) (sym is) (is_counted ds chains chunk meets)
all_lie ds chains (Err e) is = tt

pub returns-clause-all : goal.returns-clause-all
returns-clause-all g c = all_lie _ (g.met.G.ChunkGridTraits.chained c.args.grid.now) c.box_from_zero.result (returns-clause-counted g c)
