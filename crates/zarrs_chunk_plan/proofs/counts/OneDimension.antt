-- One dimension of a list of them.
use Rattle.zarrs_chunk_plan.proofs.Common.{ℕ, zero, suc, List, [], ◌∷◌}
use Rattle.zarrs_chunk_plan.proofs.Common.{AllByRecursion, Dimension, IsChain, Along}

-- ---- the dimension of a number, which has a property

pub record One (P : Dimension → Type 0) (ds : List Dimension) (k : ℕ) : Type 1 where
  pub d : Dimension
  pub chain : IsChain d
  pub is : P d
  pub at : (Q : Dimension → Type 0) → Along Q ds k → Q d
  pub back : (Q : Dimension → Type 0) → Q d → Along Q ds k

pub one : (P : Dimension → Type 0) (ds : List Dimension) (k : ℕ) → AllByRecursion IsChain ds → Along P ds k → One P ds k
one P [] k chains is = absurd is
one P (d ∷ ds) zero chains is = record { d = d; chain = chains.0; is = is; at = λ Q has. has; back = λ Q has. has }
one P (d ∷ ds) (suc k) chains is =
    let rest = one P ds k chains.1 is in record { d = rest.d; chain = rest.chain; is = rest.is; at = rest.at; back = rest.back }
