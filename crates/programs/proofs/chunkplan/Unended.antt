-- A line without its line feed.
use Rattle.programs.proofs.chunkplan.Common.{◌≡◌, ◌≢◌, ◌∙◌, ℕ, Bool, true, false, drop, eqb, false-eqb, get_or, List, [], ◌∷◌, ◌++◌, ap, arith, cond}
use Rattle.programs.proofs.chunkplan.Common.{eqb-true, length, length-append, refl, sym, take_through, unended}
use Rattle.std.proofs.BufReadLemmas.{take_through-nil}

ended_at : (ended : Bool) (byte : ℕ) (bytes front : List ℕ) → (ended ≡ false → byte ≢ 10)
    → ((others : List ℕ) → take_through 10 bytes ≡ others ++ 10 ∷ [] → unended bytes ≡ others)
    → cond ended (byte ∷ []) (byte ∷ take_through 10 bytes) ≡ front ++ 10 ∷ [] → cond ended [] (byte ∷ unended bytes) ≡ front
ended_at true byte bytes [] other later is = refl
ended_at true byte bytes (first ∷ front) other later is = absurd (omega (arith, ap length is, length-append front (10 ∷ [])))
ended_at false byte bytes [] other later is = absurd (other refl (ap (λ xs. get_or xs 0 0) is))
ended_at false byte bytes (first ∷ front) other later is =
    ap (λ xs. byte ∷ xs) (later front (ap (drop 1) is)) ∙ ap (λ x. x ∷ front) (ap (λ xs. get_or xs 0 0) is)

-- a line that ends in a line feed
pub unended_front : (bytes front : List ℕ) → take_through 10 bytes ≡ front ++ 10 ∷ [] → unended bytes ≡ front
unended_front [] [] is = absurd (omega (arith, ap length is))
unended_front [] (first ∷ front) is = absurd (omega (arith, ap length is))
unended_front (byte ∷ bytes) front is = ended_at (eqb byte 10) byte bytes front (λ miss. false-eqb byte 10 (sym miss)) (unended_front bytes) is

unended_at : (ended : Bool) (byte : ℕ) (bytes front : List ℕ) (last : ℕ) → (ended ≡ true → byte ≡ 10) → last ≢ 10
    → ((others : List ℕ) → take_through 10 bytes ≡ others ++ last ∷ [] → unended bytes ≡ take_through 10 bytes)
    → cond ended (byte ∷ []) (byte ∷ take_through 10 bytes) ≡ front ++ last ∷ []
    → cond ended [] (byte ∷ unended bytes) ≡ cond ended (byte ∷ []) (byte ∷ take_through 10 bytes)
unended_at true byte bytes [] last is_feed other later is = absurd (other (sym (ap (λ xs. get_or xs 0 0) is) ∙ is_feed refl))
unended_at true byte bytes (first ∷ front) last is_feed other later is = absurd (omega (arith, ap length is, length-append front (last ∷ [])))
unended_at false byte bytes [] last is_feed other later is =
    ap (λ xs. byte ∷ xs) (rw (take_through-nil 10 bytes (omega (arith, ap length is))) refl)
unended_at false byte bytes (first ∷ front) last is_feed other later is = ap (λ xs. byte ∷ xs) (later front (ap (drop 1) is))

-- the last line, where it has none
pub unended_whole : (bytes front : List ℕ) (last : ℕ) → last ≢ 10 → take_through 10 bytes ≡ front ++ last ∷ [] → unended bytes ≡ take_through 10 bytes
unended_whole [] front last other is = refl
unended_whole (byte ∷ bytes) front last other is =
    unended_at (eqb byte 10) byte bytes front last (λ hit. eqb-true byte 10 hit) other (λ others. unended_whole bytes others last other) is

-- no line
pub unended_none : (bytes line : List ℕ) → length line ≡ 0 → line ≡ take_through 10 bytes → unended bytes ≡ take_through 10 bytes
unended_none bytes line none is = rw (take_through-nil 10 bytes (ap length (sym is) ∙ none)) refl
