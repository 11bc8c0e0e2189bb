-- A dimension whose chunks have the edges of a list.
-- Source: ZEP 3, variable chunks.
use Rattle.std.specs.Prelude.{◌≡◌, ◌↔◌, ℕ, ◌+◌, ◌<◌, IsTrue, List, length, take}
use Rattle.std.specs.List.{sum}
use Rattle.zarrs_chunk_base.specs.Dimension.{Dimension}

-- There is a chunk for each edge, and each is counted; chunk c begins after the edges before it.
pub record IsListed (d : Dimension) (size : ℕ) (edges : List ℕ) : Type 0 where
  pub array_size : d.array_size ≡ size
  pub grid_size : d.grid_size ≡ length edges
  pub chunks : (c : ℕ) → IsTrue (d.has_chunk c) ↔ c < length edges
  pub start : (c : ℕ) → IsTrue (d.has_chunk c) → d.start c ≡ sum (take c edges)
  pub end : (c : ℕ) → IsTrue (d.has_chunk c) → d.end c ≡ sum (take (c + 1) edges)
