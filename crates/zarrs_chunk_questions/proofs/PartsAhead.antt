-- What a walk over the parts of a box has given, and what it would still have given, are the plan of the box.
use Rattle.std.proofs.Common.{◌≤◌, ℕ, List, [], ◌++◌, arith, length, length-append, refl}
use Rattle.zarrs_chunk_base.specs.ArraySubset.{Box, IsBox}
use Rattle.zarrs_chunk_keys.proofs.OneKey.{has_key}
use Rattle.zarrs_chunk_keys.specs.declared.chunk_key_encoding.named.ChunkKeyEncoding.{ChunkKeyEncoding}
use Rattle.zarrs_chunk_keys.specs.seen.Encodings.{encoding_in}
use Rattle.zarrs_chunks.specs.declared.chunk_grid.named.ChunkGrid.{ChunkGrid}
use Rattle.zarrs_chunks.specs.seen.Grids.{chained_in}
use Rattle.zarrs_chunk_parts.specs.Plan.{IsPart, IsPlan}
use Rattle.zarrs_chunk_parts.specs.declared.part.Part.{Part}
use Rattle.zarrs_chunk_plan.specs.declared.read.walk.Parts.{Parts}
use Rattle.zarrs_chunk_plan.specs.seen.Parts.{HasKeys, IsPlanned, chunks_to_come}
use Rattle.zarrs_chunk_plan.proofs.ShareLists.{both_zipped}
use Rattle.zarrs_chunk_plan.proofs.SomePlan.{have_parts}
use Rattle.zarrs_chunk_plan.proofs.Walked.{HaveCome, at_first, plan_of, planned_meet}
use Rattle.zarrs_chunk_questions.specs.seen.Copies.{PartsToCome, OpenedArray, dimensions_in, key_in}

pub keys_in : (encoding : ChunkKeyEncoding) → HasKeys (key_in encoding)
keys_in encoding = has_key (encoding_in encoding)

abbrev pub PartsHaveCome : (begin now : Parts ChunkGrid ChunkKeyEncoding) → List Part → Type 0
PartsHaveCome = HaveCome dimensions_in key_in

pub parts_ahead : (begin : Parts ChunkGrid ChunkKeyEncoding) → IsBox begin.array_subset
    → (now : Parts ChunkGrid ChunkKeyEncoding) (came : List Part) → PartsHaveCome begin now came
    → (others : List Part) × PartsToCome begin (came ++ others)
parts_ahead begin is_box now came (chunks, left, are, about, meet) =
    let ds = dimensions_in begin.grid.now in
    let IsOne = IsPart ds (key_in begin.encoding.now) begin.array_subset in
    let (others, also) = have_parts ds (key_in begin.encoding.now) (chained_in begin.grid.now) (keys_in begin.encoding.now) begin.array_subset is_box
    (chunks_to_come now) (rw (about.same_grid, about.same_subset) at meet)
    in
    (others, rw left (both_zipped IsOne chunks (chunks_to_come now) came others are also))

-- as many parts as came are among all
pub as_many_parts : (begin now : Parts ChunkGrid ChunkKeyEncoding) (came : List Part) (many : ℕ) → IsBox begin.array_subset
    → PartsHaveCome begin now came → many ≤ length came → (parts : List Part) × PartsToCome begin parts × (many ≤ length parts)
as_many_parts begin now came many is_box have enough =
    let (others, all) = parts_ahead begin is_box now came have in
    let both = length-append came others in
    (came ++ others, all, omega arith)

-- ---- of the walk over a box of an array

module _ (array : OpenedArray) (b : Box) (walk : Parts ChunkGrid ChunkKeyEncoding) (planned : IsPlanned dimensions_in array.grid array.encoding b walk) where
  pub its_plan : (parts : List Part) → PartsToCome walk parts → IsPlan (dimensions_in array.grid) (key_in array.encoding) b parts
  its_plan parts are =
      plan_of dimensions_in key_in array.grid array.encoding b planned.cover walk parts planned.about planned.is_cover planned.left are

  pub its_parts : IsBox b → (parts : List Part) × IsPlan (dimensions_in array.grid) (key_in array.encoding) b parts
  its_parts is_box =
      let (parts, are) = parts_ahead walk (rw planned.about.same_subset is_box) walk []
      (at_first dimensions_in key_in walk walk [] refl refl (planned_meet dimensions_in array.grid array.encoding b walk planned))
      in
      (parts, its_plan parts are)
