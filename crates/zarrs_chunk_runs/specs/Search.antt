-- What a search by halving answers, and how often it asks.
use Rattle.std.specs.Prelude.{◌≡◌, ℕ, ◌+◌, ◌<◌, ◌≤◌, ◌^◌, Bool, IsTrue, min}
use Rattle.zarrs_chunk_base.specs.Greatest.{greatest}

-- n has d binary digits: 2 ^ d is the least power of two past it. So 0 has none, 1 has one, 2 and 3 have two, 4 has three.
pub record HasDigits (n d : ℕ) : Type 0 where
  pub below : n < 2 ^ d
  pub least : (e : ℕ) → n < 2 ^ e → d ≤ e

-- among so many places, each after a true one is true
abbrev pub StaysTrue : ℕ → (ℕ → Bool) → Type 0
StaysTrue places truth = (j k : ℕ) → j ≤ k → k < places → IsTrue (truth j) → IsTrue (truth k)

-- the first true place, or the number of places where none is true
pub record IsFirstTrue (places : ℕ) (truth : ℕ → Bool) (found : ℕ) : Type 0 where
  pub bound : found ≤ places
  pub before : (k : ℕ) → k < found → ¬ IsTrue (truth k)
  pub at : found < places → IsTrue (truth found)

-- A count before and after a search among so many places: it grows at most by their number's binary digits, and where there are places, at
-- least by one. At its end, the greatest number, it stays.
pub record IsCounted (places before after : ℕ) : Type 0 where
  pub at_most : (d : ℕ) → HasDigits places d → after ≤ before + d
  pub at_least : 0 < places → min (before + 1) greatest ≤ after
  pub none : places ≡ 0 → after ≡ before
  pub stays : before ≡ greatest → after ≡ greatest
