-- The run-length form of a list of edges.
-- Source: the `rectilinear` extension of zarr-extensions.
use Rattle.std.specs.Prelude.{◌≡◌, ℕ, List, length}
use Rattle.zarrs_chunk_base.specs.RunLength.{Element, IsRunLengthForm, joined}

-- elements are the run-length form of edges
pub record IsFormOf (edges : List ℕ) (elements : List Element) : Type 0 where
  pub form : IsRunLengthForm elements
  pub same : joined elements ≡ edges

-- the run-length form of edges has so many elements
abbrev pub HasRuns : List ℕ → ℕ → Type 0
HasRuns edges count = (elements : List Element) × IsFormOf edges elements × (length elements ≡ count)
