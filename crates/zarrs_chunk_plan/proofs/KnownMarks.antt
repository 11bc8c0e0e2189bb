-- What the marks of chunks tell of the keys that were listed.
use Rattle.zarrs_chunk_plan.proofs.Common.{◌↔◌, Bool, true, false, refl, IsTrue, List, ℕ, subst, sym, IsInside, Dimension}
use Rattle.std.proofs.Common.{◌&&◌}
use Rattle.std.specs.List.{Contains}
use Rattle.zarrs_chunks.proofs.ChunksInBoxes.{are_those_inside}
use Rattle.zarrs_chunk_plan.specs.StoredChunks.{IsListed}
use Rattle.zarrs_chunk_plan.specs.declared.copy.stored_chunks.StoredChunks.{StoredChunks}
use Rattle.zarrs_chunk_plan.specs.seen.StoredChunks.{Knows, has_mark, is_stored, lies_inside, place_of}
use Rattle.zarrs_chunk_plan.proofs.copy.MarkedChunks.{at_place, inside_tells}

-- a chunk that the plan writes is marked if a key of it is listed, and only then
pub mark_tells : (ds : List Dimension) (K : List ℕ → List ℕ → Type 0) (targets keys : List (List ℕ)) (stored : StoredChunks)
    → Knows ds K targets keys stored → (chunk : List ℕ) → IsInside stored.targets chunk → IsTrue (has_mark stored chunk) ↔ IsListed K keys chunk
unfolding has_mark
mark_tells ds K targets keys stored known chunk inside =
    let start = stored.targets.start in
    let shape = stored.targets.shape in
    let number = place_of start shape chunk in
    let found = at_place start shape chunk inside in
    let each = known.each number chunk (rw (sym known.same_targets) found) in
    let is = (inside_tells start shape chunk).1 inside in
    rw is each

both_true : (a b : Bool) → IsTrue (a && b) → IsTrue a
both_true true b both = refl
both_true false b both = both

-- a chunk is marked exactly if the plan writes it, and a key of it is listed
pub mark_is : (ds : List Dimension) (K : List ℕ → List ℕ → Type 0) (targets keys : List (List ℕ)) (stored : StoredChunks)
    → Knows ds K targets keys stored → (chunk : List ℕ) → IsTrue (has_mark stored chunk) ↔ (Contains targets chunk × IsListed K keys chunk)
unfolding has_mark
mark_is ds K targets keys stored known chunk =
    let start = stored.targets.start in
    let shape = stored.targets.shape in
    let there : Contains targets chunk ↔ IsInside stored.targets chunk =
    subst (λ ts. Contains ts chunk ↔ IsInside stored.targets chunk) known.same_targets (are_those_inside stored.targets known.is_box chunk) in (
      λ marked.
          let inside = (inside_tells start shape chunk).0 (both_true (lies_inside start shape chunk) (is_stored stored (place_of start shape chunk)) marked) in
          (there.1 inside, (mark_tells ds K targets keys stored known chunk inside).0 marked),
      λ (among, key). (mark_tells ds K targets keys stored known chunk (there.0 among)).1 key,
    )
