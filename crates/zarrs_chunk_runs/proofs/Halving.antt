-- How a search by halving goes on, and how often it asks.
use Rattle.std.proofs.Common.{◌≡◌, ◌∙◌, ℕ, zero, suc, ◌+◌, ◌-◌, ◌*◌, ◌/◌, ◌<◌, ◌≤◌, ◌^◌, Bool, true, false}
use Rattle.std.proofs.Common.{IsTrue, cond, min, refl, sym, subst, arith}
use Rattle.std.proofs.lemmas.Bool.{false≢true}
use Rattle.zarrs_chunk_base.specs.Greatest.{greatest}
use Rattle.zarrs_chunk_runs.specs.Search.{IsCounted, IsFirstTrue, StaysTrue}

-- half as many places have a digit less
fewer_digits : (m n d : ℕ) → 0 < m → 2 * n ≤ m → m < 2 ^ d → (e : ℕ) × (suc e ≡ d) × (n < 2 ^ e)
fewer_digits m n zero some half below = absurd (omega arith)
fewer_digits m n (suc e) some half below = (e, refl, omega arith)

-- The truths below `low` are false, and those from `high` on are true; `before` is the count when the search began.
pub record SoFar (places : ℕ) (truth : ℕ → Bool) (before low high asked : ℕ) : Type 0 where
  pub order : low ≤ high
  pub bound : high ≤ places
  pub falses : (k : ℕ) → k < low → ¬ IsTrue (truth k)
  pub trues : (k : ℕ) → high ≤ k → k < places → IsTrue (truth k)
  pub grows : min before greatest ≤ asked
  pub left : (d : ℕ) → places < 2 ^ d → (e : ℕ) × (high - low < 2 ^ e) × (asked + e ≤ before + d)
  pub at_least : 0 < places → high ≤ low → min (before + 1) greatest ≤ asked
  pub none : places ≡ 0 → asked ≡ before
  pub stays : before ≡ greatest → asked ≡ greatest

pub begin : (places : ℕ) (truth : ℕ → Bool) (before : ℕ) → SoFar places truth before 0 (0 + places) before
begin places truth before = record {
  order = omega arith;
  bound = omega arith;
  falses = λ k none. absurd (omega arith);
  trues = λ k past within. absurd (omega arith);
  grows = omega arith;
  left = λ d below. (d, omega arith, omega arith);
  at_least = λ some none. absurd (omega arith);
  none = λ _. refl;
  stays = λ full. full;
}

module _ (places : ℕ) (truth : ℕ → Bool) (before low high asked middle next : ℕ) (so_far : SoFar places truth before low high asked)
    (stays_true : StaysTrue places truth) (from : low ≤ middle) (below : middle < high) (counted : next ≡ min (asked + 1) greatest) where
  fewer : (n : ℕ) → 2 * n ≤ high - low → (d : ℕ) → places < 2 ^ d → (e : ℕ) × (n < 2 ^ e) × (next + e ≤ before + d)
  fewer n half d small =
      let (e, fits, within) = so_far.left d small in
      let (f, is, fewer) = fewer_digits (high - low) n e (omega arith) half fits in
      (f, fewer, omega arith)

  full : before ≡ greatest → next ≡ greatest
  full is = let asked_full = so_far.stays is in omega arith

  -- a true one: the first isn't past it
  lower : 2 * (middle - low) ≤ high - low → IsTrue (truth middle) → SoFar places truth before low middle next
  lower half answer = let bound = so_far.bound in let grows = so_far.grows in record {
    order = from;
    bound = omega arith;
    falses = so_far.falses;
    trues = λ k past within. stays_true middle k past within answer;
    grows = omega arith;
    left = fewer (middle - low) half;
    at_least = λ some none. omega arith;
    none = λ empty. absurd (omega arith);
    stays = full;
  }

  -- a false one: the first comes after it
  upper : 2 * (high - (middle + 1)) ≤ high - low → ¬ IsTrue (truth middle) → SoFar places truth before (middle + 1) high next
  upper half answer = let bound = so_far.bound in let grows = so_far.grows in record {
    order = omega arith;
    bound = bound;
    falses = λ k under holds. answer (stays_true k middle (omega arith) (omega arith) holds);
    trues = so_far.trues;
    grows = omega arith;
    left = fewer (high - (middle + 1)) half;
    at_least = λ some none. omega arith;
    none = λ empty. absurd (omega arith);
    stays = full;
  }

-- the places that are left: half of them, without the middle one where it is below
pub shrunk : (places : ℕ) (truth : ℕ → Bool) (before low left asked next : ℕ) → SoFar places truth before low (low + left) asked
    → StaysTrue places truth → 0 < left → next ≡ min (asked + 1) greatest → (above : Bool) → truth (low + left / 2) ≡ above
    → SoFar places truth before (cond above low (low + left / 2 + 1))
    (cond above low (low + left / 2 + 1) + cond above left (left - 1) / 2) next
shrunk places truth before low left asked next so_far stays_true some counted true is =
    lower places truth before low (low + left) asked (low + left / 2) next so_far stays_true (omega arith) (omega arith) counted (omega arith) is
shrunk places truth before low left asked next so_far stays_true some counted false is =
    let high : low + left ≡ low + left / 2 + 1 + (left - 1) / 2 = omega arith in
    subst (λ high. SoFar places truth before (low + left / 2 + 1) high next) high
    (upper places truth before low (low + left) asked (low + left / 2) next so_far stays_true (omega arith) (omega arith) counted (omega arith)
    (λ holds. false≢true (sym is ∙ holds)))

module _ (places : ℕ) (truth : ℕ → Bool) (before low high asked : ℕ) (so_far : SoFar places truth before low high asked) (ended : high ≤ low) where
  pub found : IsFirstTrue places truth low
  found = let order = so_far.order in let bound = so_far.bound in record {
    bound = omega arith;
    before = so_far.falses;
    at = λ within. so_far.trues low (omega arith) within;
  }

  pub counted : IsCounted places before asked
  counted = record {
    at_most = λ d digits. let (e, fits, within) = so_far.left d digits.below in omega arith;
    at_least = λ some. so_far.at_least some ended;
    none = so_far.none;
    stays = so_far.stays;
  }
