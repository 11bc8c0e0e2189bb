-- Where a chunk of a run starts and ends.
use Rattle.std.specs.Prelude.{◌≡◌, ◌⊎◌, ℕ, ◌+◌, ◌*◌, ◌<◌, ◌≤◌, min}
use Rattle.zarrs_chunk_base.specs.Greatest.{greatest}

-- the end of a chunk that has so many before it in its run: an edge after its start, or behind the last index
abbrev pub end_in_run : (run_start before edge last_index : ℕ) → ℕ
end_in_run run_start before edge last_index = min (run_start + before * edge + edge) (last_index + 1)

-- from the start there are so many elements to the end, which is at most the greatest number
pub record IsRange (start end : ℕ) (range : ℕ × ℕ) : Type 0 where
  pub is_start : range.0 ≡ start
  pub is_end : range.0 + range.1 ≡ end
  pub fits : end ≤ greatest

-- there is no element from the start to the end, or the end is past the greatest number
abbrev pub EndsNowhere : (start end : ℕ) → Type 0
EndsNowhere start end = (end ≤ start) ⊎ (greatest < end)
