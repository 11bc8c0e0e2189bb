-- Tokens that are written one after another.
use Rattle.programs.proofs.chunkplan.Common.{◌≡◌, ◌∙◌, ℕ, List, [], ◌∷◌, ◌++◌, Ok, append_assoc, append-nil, ap, decimal, map, refl, sym, AllocError}
use Rattle.programs.proofs.chunkplan.Common.{Token, end_array, number, items_tokens, json_tokens, numbers_items, numbers_json, range_items, Adds}
use Rattle.json.specs.Written.{Writes, Written}

pub nothing : (w : Written) → Adds w w []
nothing w = record { before = refl; tokens = sym (append-nil w.tokens) }

pub wrote : (old new : Written) (t : Token) → Writes {E = AllocError} (Ok tt) old new t → Adds old new (t ∷ [])
wrote old new t writes = record { before = writes.room.0; tokens = writes.ok }

pub then : (old mid new : Written) (ts us : List Token) → Adds old mid ts → Adds mid new us → Adds old new (ts ++ us)
then old mid new ts us first second = record {
  before = second.before ∙ first.before;
  tokens = second.tokens ∙ ap (λ all. all ++ us) first.tokens ∙ append_assoc old.tokens ts us;
}

-- the tokens of a list of numbers, with the closing bracket
pub numbers_tokens : (numbers : List ℕ) → map (λ n. number (decimal n)) numbers ++ end_array ∷ [] ≡ items_tokens (numbers_items numbers)
numbers_tokens [] = refl
numbers_tokens (n ∷ numbers) = ap (λ ts. number (decimal n) ∷ ts) (numbers_tokens numbers)

-- the tokens of byte ranges of one length, without a bracket
abbrev pub ranges_so_far : (length : ℕ) → (starts : List ℕ) → List Token
ranges_so_far long [] = []
ranges_so_far long (start ∷ starts) = json_tokens (numbers_json (start ∷ long ∷ [])) ++ ranges_so_far long starts

pub one_more_range : (long : ℕ) (starts : List ℕ) (start : ℕ)
    → ranges_so_far long (starts ++ start ∷ []) ≡ ranges_so_far long starts ++ json_tokens (numbers_json (start ∷ long ∷ []))
one_more_range long [] start = append-nil (json_tokens (numbers_json (start ∷ long ∷ [])))
one_more_range long (first ∷ starts) start =
    let one = json_tokens (numbers_json (first ∷ long ∷ [])) in
    ap (λ ts. one ++ ts) (one_more_range long starts start)
    ∙ sym (append_assoc one (ranges_so_far long starts) (json_tokens (numbers_json (start ∷ long ∷ []))))

-- with the closing bracket
pub ranges_tokens : (long : ℕ) (starts : List ℕ) → ranges_so_far long starts ++ end_array ∷ [] ≡ items_tokens (range_items long starts)
ranges_tokens long [] = refl
ranges_tokens long (start ∷ starts) =
    let one = json_tokens (numbers_json (start ∷ long ∷ [])) in
    append_assoc one (ranges_so_far long starts) (end_array ∷ []) ∙ ap (λ ts. one ++ ts) (ranges_tokens long starts)
