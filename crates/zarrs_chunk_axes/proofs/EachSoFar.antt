-- What was found in the dimensions so far, and what the rests decide.
use Rattle.std.proofs.Common.{◌≡◌, ◌<◌, ◌+◌, ℕ, List, [], ◌∷◌, ◌++◌, ◌∙◌, ap, drop, get_or, length, inr, subst, sym, append_assoc, append-nil, arith}
use Rattle.std.proofs.lemmas.List.{drop_more}
use Rattle.zarrs_chunk_base.specs.Dimension.{Dimension, InEach}
use Rattle.zarrs_chunk_axes.specs.lemmas.LookUpEach.{SomeMisses}

-- what is left of a list begins with its item at this place
pub begins_with : {X : Type 0} (xs : List X) (place : ℕ) (x : X) → place < length xs → x ≡ get_or xs place x → drop place xs ≡ x ∷ drop (place + 1) xs
begins_with xs place x below is = drop_more xs place x below ∙ ap (λ item. item ∷ drop (place + 1) xs) (sym is)

module _ {X : Type 0} (finds : Dimension → ℕ → X → Type 0) (misses : Dimension → ℕ → Type 0) where
  -- what was found so far, and what the rests decide
  pub record EachSoFar (ds : List Dimension) (numbers : List ℕ) (ds_left : List Dimension) (numbers_left : List ℕ) (found : List X) : Type 0 where
    pub lengths : length ds_left ≡ length numbers_left
    pub all : (more : List X) → InEach finds ds_left numbers_left more → InEach finds ds numbers (found ++ more)
    pub none : SomeMisses misses ds_left numbers_left → SomeMisses misses ds numbers

  module _ (ds : List Dimension) (numbers : List ℕ) where
    pub one_more : (d : Dimension) (n : ℕ) (x : X) (ds_left : List Dimension) (numbers_left : List ℕ) (found : List X)
        → EachSoFar ds numbers (d ∷ ds_left) (n ∷ numbers_left) found → finds d n x → EachSoFar ds numbers ds_left numbers_left (found ++ x ∷ [])
    one_more d n x ds_left numbers_left found so_far is = record {
      lengths = omega (arith, so_far.lengths);
      all = λ more h. subst (InEach finds ds numbers) (sym (append_assoc found (x ∷ []) more)) (so_far.all (x ∷ more) (is, h));
      none = λ h. so_far.none (inr h);
    }

    pub at_end : (ds_left : List Dimension) (numbers_left : List ℕ) (found : List X) → length ds_left ≡ 0
        → EachSoFar ds numbers ds_left numbers_left found → InEach finds ds numbers found
    at_end [] [] found none so_far = subst (InEach finds ds numbers) (append-nil found) (so_far.all [] tt)
    at_end [] (n ∷ numbers_left) found none so_far = absurd (omega (arith, so_far.lengths))
    at_end (d ∷ ds_left) numbers_left found none so_far = absurd (omega arith)
