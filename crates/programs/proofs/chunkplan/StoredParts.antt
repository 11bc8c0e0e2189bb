-- Parts of chunks that a store has: whether all that a walk gives are such.
use Rattle.programs.proofs.chunkplan.Common.{◌≡◌, ◌↔◌, ◌∙◌, ◌&&◌, ℕ, Bool, true, false, IsTrue, List, [], ◌∷◌, ◌++◌, AllZip, ap, ap₂, arith, refl, sym}
use Rattle.programs.proofs.chunkplan.Common.{true≢false, Box, Dimension, IsPart, Part, StoredChunks}
use Rattle.zarrs_chunk_plan.specs.seen.StoredChunks.{has_mark}
use Rattle.programs.specs.chunkplan.seen.Resume.{are_stored, is_stored_whole}

pub both_true : (one other : Bool) → IsTrue (one && other) ↔ (IsTrue one × IsTrue other)
both_true one other = grind arith

same_truth : (one other : Bool) → (IsTrue one ↔ IsTrue other) → one ≡ other
same_truth one other same = grind arith

module _ (stored : StoredChunks) where
  pub one_more_stored : (parts : List Part) (part : Part) → IsTrue (are_stored stored parts) → IsTrue (is_stored_whole stored part)
      → IsTrue (are_stored stored (parts ++ part ∷ []))
  one_more_stored [] part all is = (both_true (is_stored_whole stored part) true).1 (is, refl)
  one_more_stored (first ∷ parts) part all is =
      let (here, others) = (both_true (is_stored_whole stored first) (are_stored stored parts)).0 all in
      (both_true (is_stored_whole stored first) (are_stored stored (parts ++ part ∷ []))).1 (here, one_more_stored parts part others is)

  pub one_is_not : (parts : List Part) (part : Part) → is_stored_whole stored part ≡ false → are_stored stored (parts ++ part ∷ []) ≡ false
  one_is_not [] part isnt = rw isnt refl
  one_is_not (first ∷ parts) part isnt = rw (one_is_not parts part isnt) (none_last (is_stored_whole stored first))
    where
      none_last : (b : Bool) → (b && false) ≡ false
      none_last true = refl
      none_last false = refl

  module _ (ds : List Dimension) (IsKeyOf : List ℕ → List ℕ → Type 0) (b : Box) where
    -- both are parts of one chunk
    same_part : (chunk : List ℕ) (one other : Part) → IsPart ds IsKeyOf b chunk one → IsPart ds IsKeyOf b chunk other
        → is_stored_whole stored one ≡ is_stored_whole stored other
    same_part chunk one other is also =
        ap₂ (λ x y. x && y)
        (same_truth one.whole other.whole (λ whole. also.whole.1 (is.whole.0 whole), λ whole. is.whole.1 (also.whole.0 whole)))
        (ap (has_mark stored) (is.numbers ∙ sym also.numbers))

    -- two lists of parts of the same chunks
    pub same_stored : (chunks : List (List ℕ)) (one other : List Part) → AllZip (IsPart ds IsKeyOf b) chunks one
        → AllZip (IsPart ds IsKeyOf b) chunks other → are_stored stored one ≡ are_stored stored other
    same_stored [] [] [] are also = refl
    same_stored (chunk ∷ chunks) (p ∷ one) (q ∷ other) are also =
        ap₂ (λ x y. x && y) (same_part chunk p q are.0 also.0) (same_stored chunks one other are.1 also.1)
    same_stored [] (_ ∷ _) _ are also = absurd are
    same_stored [] [] (_ ∷ _) are also = absurd also
    same_stored (_ ∷ _) [] _ are also = absurd are
    same_stored (_ ∷ _) (_ ∷ _) [] are also = absurd also

    -- some of the chunks come first
    pub first_are_not : (chunks rest : List (List ℕ)) (came parts : List Part) → AllZip (IsPart ds IsKeyOf b) chunks came
        → AllZip (IsPart ds IsKeyOf b) (chunks ++ rest) parts → are_stored stored came ≡ false → are_stored stored parts ≡ false
    first_are_not [] rest [] parts are also isnt = absurd (true≢false isnt)
    first_are_not (chunk ∷ chunks) rest (p ∷ came) (q ∷ parts) are also isnt =
        not_both (is_stored_whole stored p) (are_stored stored came) (is_stored_whole stored q) (are_stored stored parts) (same_part chunk p q are.0 also.0)
        (first_are_not chunks rest came parts are.1 also.1) isnt
      where
        not_both : (a c d e : Bool) → a ≡ d → (c ≡ false → e ≡ false) → (a && c) ≡ false → (d && e) ≡ false
        not_both a c d e same step isnt = grind arith
    first_are_not [] rest (_ ∷ _) parts are also isnt = absurd are
    first_are_not (_ ∷ _) rest [] parts are also isnt = absurd are
    first_are_not (_ ∷ _) rest (_ ∷ _) [] are also isnt = absurd also
