-- Groups of neighbouring chunks as the chunks of a coarser dimension.
use Rattle.std.specs.Int.{div_ceil}
use Rattle.std.specs.Prelude.{ℕ, zero, suc, ◌-◌, ◌*◌, List, [], ◌∷◌, cond}
use Rattle.zarrs_chunk_base.specs.Dimension.{Dimension}

-- the last one that there is of a chunk and a number of chunks after it
abbrev pub last_of : Dimension → (behind chunk : ℕ) → ℕ
last_of d zero chunk = chunk
last_of d (suc behind) chunk = cond (d.has_chunk (suc chunk)) (last_of d behind (suc chunk)) chunk

-- chunk t joins the chunks that there are of k from t * k on
abbrev pub grouped : Dimension → (k : ℕ) → Dimension
grouped d k = record {
  array_size = d.array_size;
  grid_size = div_ceil d.grid_size k;
  has_chunk = λ t. d.has_chunk (t * k);
  start = λ t. d.start (t * k);
  end = λ t. d.end (last_of d (k - 1) (t * k));
}

-- along each dimension
abbrev pub all_grouped : List Dimension → (each : List ℕ) → List Dimension
all_grouped (d ∷ ds) (k ∷ each) = grouped d k ∷ all_grouped ds each
all_grouped _ _ = []
