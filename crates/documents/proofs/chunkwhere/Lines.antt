-- The lines so far, and what they leave to say of the indices that are left.
use Rattle.std.proofs.Common.{◌≡◌, ◌≢◌, ℕ, suc, ◌+◌, List, [], ◌∷◌, ◌++◌, length, refl, sym, ap, ◌∙◌, subst, append_assoc, append-nil, arith}
use Rattle.std.specs.List.{AllByRecursion}
use Rattle.zarrs_chunk_base.specs.declared.incompatible_dimensionality_error.IncompatibleDimensionalityError.{IncompatibleDimensionalityError}
use Rattle.documents.specs.chunkwhere.Answer.{HasLengthOf, IsFirstWrongLength}
use Rattle.zarrs_chunk_base.specs.Dimension.{Dimension}
use Rattle.documents.specs.chunkwhere.Output.{AreLines, IsLine}
use Rattle.zarrs_chunk_base.specs.Refusal.{TellsLengths}

-- the text has the lines of all lists before the rest: the lines of the rest, behind the text, are the lines of all
pub record HasLines (IsOne : List ℕ → List ℕ → Type 0) (all rest : List (List ℕ)) (text : List ℕ) : Type 0 where
  pub followed : (more : List ℕ) → AreLines IsOne rest more → AreLines IsOne all (text ++ more)

module _ (IsOne : List ℕ → List ℕ → Type 0) (all : List (List ℕ)) where
  pub lines_with_one : (rest : List (List ℕ)) (text x line : List ℕ) (rest_after : List (List ℕ)) (text_after : List ℕ) → HasLines IsOne all rest text
      → rest ≡ x ∷ rest_after → IsOne x line → text_after ≡ text ++ line → HasLines IsOne all rest_after text_after
  lines_with_one rest text x line rest_after text_after so_far first is_line longer = record {
    followed = λ more h.
        let said = so_far.followed (line ++ more) (subst (λ r. AreLines IsOne r (line ++ more)) (sym first) (line, more, is_line, h, refl)) in
        subst (AreLines IsOne all) (sym (append_assoc text line more) ∙ ap (λ t. t ++ more) (sym longer)) said;
  }

  pub lines_at_end : (rest : List (List ℕ)) (text : List ℕ) → HasLines IsOne all rest text → rest ≡ [] → AreLines IsOne all text
  lines_at_end rest text so_far empty = subst (AreLines IsOne all) (append-nil text)
      (so_far.followed [] (subst (λ r. AreLines IsOne r []) (sym empty) refl))

-- The text has the lines of all indices before the rest, which begins at the position: what holds of the
-- rest holds, after the text, of all.
pub record IsSoFar (ds : List Dimension) (IsKey : List ℕ → List ℕ → Type 0) (all rest : List (List ℕ)) (position : ℕ) (text : List ℕ) : Type 0 where
  pub lengths : AllByRecursion (HasLengthOf ds) rest → AllByRecursion (HasLengthOf ds) all
  pub lines : HasLines (IsLine ds IsKey) all rest text
  pub wrong : (n : ℕ) (e : IncompatibleDimensionalityError) → IsFirstWrongLength ds rest n e → IsFirstWrongLength ds all (position + n) e

module _ (ds : List Dimension) (IsKey : List ℕ → List ℕ → Type 0) (all : List (List ℕ)) where
  pub so_far_at_start : (text : List ℕ) → text ≡ [] → IsSoFar ds IsKey all all 0 text
  so_far_at_start text empty = record {
    lengths = λ h. h;
    lines = record { followed = λ more h. rw empty h };
    wrong = λ n e h. let same : 0 + n ≡ n = omega arith in rw same h;
  }

  pub so_far_with_line : (rest : List (List ℕ)) (position : ℕ) (text : List ℕ) (index line : List ℕ) (rest_after : List (List ℕ))
      (text_after : List ℕ)
      → IsSoFar ds IsKey all rest position text → rest ≡ index ∷ rest_after → HasLengthOf ds index → IsLine ds IsKey index line
      → text_after ≡ text ++ line → IsSoFar ds IsKey all rest_after (position + 1) text_after
  so_far_with_line rest position text index line rest_after text_after so_far first has_length is_line longer = record {
    lengths = λ h. so_far.lengths (subst (AllByRecursion (HasLengthOf ds)) (sym first) (has_length, h));
    lines = lines_with_one (IsLine ds IsKey) all rest text index line rest_after text_after so_far.lines first is_line longer;
    wrong = λ n e h.
        let said = so_far.wrong (suc n) e (subst (λ r. IsFirstWrongLength ds r (suc n) e) (sym first) (has_length, h)) in
        let same : position + suc n ≡ position + 1 + n = omega arith in
        subst (λ p. IsFirstWrongLength ds all p e) same said;
  }

  pub wrong_length_is_first : (rest : List (List ℕ)) (position : ℕ) (text : List ℕ) (index : List ℕ) (rest_after : List (List ℕ))
      (e : IncompatibleDimensionalityError)
      → IsSoFar ds IsKey all rest position text → rest ≡ index ∷ rest_after → length index ≢ length ds → TellsLengths (length index) (length ds) e
      → IsFirstWrongLength ds all position e
  wrong_length_is_first rest position text index rest_after e so_far first unequal tells =
      let said = so_far.wrong 0 e (subst (λ r. IsFirstWrongLength ds r 0 e) (sym first) (unequal, tells)) in
      let same : position + 0 ≡ position = omega arith in
      subst (λ p. IsFirstWrongLength ds all p e) same said

  pub so_far_at_end : (rest : List (List ℕ)) (position : ℕ) (text : List ℕ) → IsSoFar ds IsKey all rest position text → rest ≡ []
      → AllByRecursion (HasLengthOf ds) all × AreLines (IsLine ds IsKey) all text
  so_far_at_end rest position text so_far empty = (
    so_far.lengths (subst (AllByRecursion (HasLengthOf ds)) (sym empty) tt),
    lines_at_end (IsLine ds IsKey) all rest text so_far.lines empty,
  )
