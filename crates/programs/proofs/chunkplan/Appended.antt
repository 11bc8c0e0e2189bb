-- Texts that are appended one behind another.
use Rattle.std.proofs.Common.{◌≡◌, ◌∙◌, ◌++◌, ◌∷◌, ℕ, List, [], ap, append-nil, append_assoc, codes, length, sym}
use Rattle.programs.specs.chunkplan.CountsLine.{listed, with_commas}
use Rattle.programs.specs.chunkplan.seen.Pieces.{comma_but_first}

-- one more text behind those so far
pub more : (old line before so_far text : List ℕ) → line ≡ before ++ text → before ≡ old ++ so_far → line ≡ old ++ (so_far ++ text)
more old line before so_far text is same = is ∙ ap (λ l. l ++ text) same ∙ append_assoc old so_far text

-- a name and a text
pub named : (old line before so_far name text : List ℕ) → line ≡ before ++ (name ++ text) → before ≡ old ++ so_far
    → line ≡ old ++ (so_far ++ name ++ text)
named old line before so_far name text is same =
    more old line before so_far (name ++ text) is same ∙ ap (λ t. old ++ t) (sym (append_assoc so_far name text))

-- one more item of a list
after_more : (texts : List (List ℕ)) (text : List ℕ) → with_commas (texts ++ text ∷ []) ≡ with_commas texts ++ (codes "," ++ text)
after_more [] text = append-nil (codes "," ++ text)
after_more (first ∷ texts) text =
    ap (λ xs. (codes "," ++ first) ++ xs) (after_more texts text) ∙ sym (append_assoc (codes "," ++ first) (with_commas texts) (codes "," ++ text))

pub listed_more : (texts : List (List ℕ)) (text : List ℕ) → listed (texts ++ text ∷ []) ≡ listed texts ++ (comma_but_first (length texts) ++ text)
listed_more [] text = append-nil text
listed_more (first ∷ texts) text = ap (λ xs. first ++ xs) (after_more texts text) ∙ sym (append_assoc first (with_commas texts) (codes "," ++ text))

-- a list with one more text, behind what stands before it
pub one_more_listed : (base line with_comma before object : List ℕ) (objects : List (List ℕ)) (number : ℕ) → before ≡ base ++ listed objects
    → with_comma ≡ before ++ comma_but_first number → line ≡ with_comma ++ object → length objects ≡ number → line ≡ base ++ listed (objects ++ object ∷ [])
one_more_listed base line with_comma before object objects number same comma is long =
    let next : listed objects ++ (comma_but_first (length objects) ++ object) ≡ listed (objects ++ object ∷ []) = sym (listed_more objects object) in
    is ∙ ap (λ l. l ++ object) (comma ∙ ap (λ l. l ++ comma_but_first number) same) ∙ append_assoc (base ++ listed objects) (comma_but_first number) object
    ∙ append_assoc base (listed objects) (comma_but_first number ++ object) ∙ ap (λ t. base ++ t) (rw long at next)
