-- Numerals, one after another.
use Rattle.std.proofs.Common.{◌≡◌, ℕ, List, [], ◌∷◌, ◌++◌, refl, sym, ap, subst, ◌∙◌, append_assoc, append-nil}
use Rattle.zarrs_chunk_keys.specs.Numeral.{IsNumeral, IsNumerals}

pub IsNumerals-push : (before : ℕ) (ns : List ℕ) (text : List ℕ) (n : ℕ) (numeral : List ℕ) → IsNumerals before ns text → IsNumeral n numeral
    → IsNumerals before (ns ++ n ∷ []) (text ++ before ∷ numeral)
IsNumerals-push before [] text n numeral none is =
    (numeral, [], is, refl, ap (λ t. t ++ before ∷ numeral) none ∙ sym (append-nil (before ∷ numeral)))
IsNumerals-push before (m ∷ ns) text n numeral (first, rest, is_first, are_rest, e) is = (
  first,
  rest ++ before ∷ numeral,
  is_first,
  IsNumerals-push before ns rest n numeral are_rest is,
  ap (λ t. t ++ before ∷ numeral) e ∙ append_assoc (before ∷ first) rest (before ∷ numeral),
)

-- a byte and a numeral, pushed onto a text one after the other
pub pushed : (first so_far text middle done encoded numeral format : List ℕ) (before : ℕ) → text ≡ first ++ so_far
    → middle ≡ text ++ encoded → encoded ≡ before ∷ [] → done ≡ middle ++ format → format ≡ numeral → done ≡ first ++ (so_far ++ before ∷ numeral)
pushed first so_far text middle done encoded numeral format before a b c d e =
    d ∙ ap (λ m. m ++ format) (b ∙ ap (λ t. t ++ encoded) a ∙ ap (λ t. (first ++ so_far) ++ t) c)
    ∙ ap (λ t. ((first ++ so_far) ++ before ∷ []) ++ t) e
    ∙ append_assoc (first ++ so_far) (before ∷ []) numeral ∙ append_assoc first so_far (before ∷ numeral)

-- where one more numeral behind a byte goes on as a key of one more number, so do numerals
module _ (before : ℕ) (K : List ℕ → List ℕ → Type 0)
    (one : (numbers key numeral : List ℕ) (n : ℕ) → K numbers key → IsNumeral n numeral → K (numbers ++ n ∷ []) (key ++ before ∷ numeral)) where
  pub appended : (numbers key more text : List ℕ) → K numbers key → IsNumerals before more text → K (numbers ++ more) (key ++ text)
  appended numbers key [] text is none = rw (none, append-nil numbers, append-nil key) is
  appended numbers key (n ∷ more) text is (numeral, rest, is_numeral, are_rest, e) =
      let said = appended (numbers ++ n ∷ []) (key ++ before ∷ numeral) more rest (one numbers key numeral n is is_numeral) are_rest in
      let numbers_are = append_assoc numbers (n ∷ []) more in
      let key_is = append_assoc key (before ∷ numeral) rest ∙ ap (λ t. key ++ t) (sym e) in
      subst (λ xs. K xs (key ++ text)) numbers_are (subst (λ t. K ((numbers ++ n ∷ []) ++ more) t) key_is said)
