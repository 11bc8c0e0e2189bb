-- What a share of a walk gives is a share of what the walk would have given.
use Rattle.programs.proofs.chunkplan.Common.{◌≡◌, List, length, IsBox, ChunkKeyEncoding, IsPart, Meets, Part, share_of}
use Rattle.programs.proofs.chunkplan.Common.{Share, Parts, IsAbout, chunks_to_come, have_parts, ChunkGrid, chained_in}
use Rattle.zarrs_chunk_plan.proofs.ShareLists.{all_of_share, of_all}
use Rattle.zarrs_chunk_questions.proofs.PartsAhead.{keys_in}
use Rattle.programs.specs.chunkplan.seen.Opened.{CanGiveParts, PartsToCome, dimensions_in, key_in}

-- ---- a share of a walk

module _ (walk shared : Parts ChunkGrid ChunkKeyEncoding) (share : Share)
    (about : IsAbout walk.grid.now walk.encoding.now walk.array_subset shared)
    (left : chunks_to_come shared ≡ share_of share (chunks_to_come walk)) (meet : CanGiveParts walk) where
  pub share_meets : CanGiveParts shared
  share_meets =
      rw (about.same_grid, about.same_subset, left)
      (all_of_share (Meets (dimensions_in walk.grid.now) walk.array_subset) share (chunks_to_come walk) meet)

  pub parts_of_share : IsBox walk.array_subset → (parts : List Part) → PartsToCome shared parts
      → (all : List Part) × PartsToCome walk all × (share_of share all ≡ parts) × (length all ≡ length (chunks_to_come walk))
  parts_of_share is_box parts are =
      let ds = dimensions_in walk.grid.now in
      of_all (Meets ds walk.array_subset) (IsPart ds (key_in walk.encoding.now) walk.array_subset)
      (have_parts ds (key_in walk.encoding.now) (chained_in walk.grid.now) (keys_in walk.encoding.now) walk.array_subset is_box) share
      (chunks_to_come walk) parts meet
      (rw (about.same_grid, about.same_encoding, about.same_subset, left) at are)
