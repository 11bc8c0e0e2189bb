-- Keys behind a document, line after line.
use Rattle.programs.proofs.chunkplan.Common.{◌≡◌, ◌≢◌, ◌↔◌, ◌⊎◌, ◌∙◌, ℕ, Bool, List, [], ◌∷◌, ◌++◌, Contains, IfOk, IfSome, IsTrue, OnOk, Option}
use Rattle.programs.proofs.chunkplan.Common.{Result, Ok, Err, append-nil, append_assoc, ap, arith, inl, inr, length, refl, subst, sym, ⊎_elim}
use Rattle.programs.proofs.chunkplan.Common.{Contains-append_cases, Contains-append_left, Contains-append_right, Contains-push, Contains-push_cases}
use Rattle.programs.proofs.chunkplan.Common.{Dimension, IsOfArray, StoredChunks, Knows, AreUnexpected, AreKeys, IsFirstNoText, IsKeyOfTarget}
use Rattle.programs.proofs.chunkplan.Common.{behind_first, empty_line, unexpected_json, unexpected_lines, key_line, no_line, unended, line_of}
use Rattle.programs.proofs.chunkplan.Common.{IsReadFailure, of_stream, RunFault, KeyNotText, Memory, StreamFault}
use Rattle.std.specs.Str.{IsUtf8}
use Rattle.zarrs_chunk_base.specs.StoreKey.{EndsInSlash}
use Rattle.programs.specs.chunkplan.seen.Resume.{HaveMarked, HaveNoted, IsKeysStop, with_line}

-- ---- the keys in some lines

-- the first line, and the keys behind it
pub first_of_keys : (bytes : List ℕ) (keys : List (List ℕ)) → bytes ≢ [] → AreKeys (behind_first bytes) keys
    → AreKeys bytes (with_line [] (unended bytes) ++ keys)
first_of_keys bytes keys some are = at (unended bytes) refl
  where
    at : (line : List ℕ) → unended bytes ≡ line → AreKeys bytes (with_line [] line ++ keys)
    at [] is = empty_line bytes keys some is are
    at (byte ∷ line) is =
        rw (sym is) (key_line bytes keys (λ none. absurd (omega (arith, ap length (sym is ∙ none)))) are)

-- these keys were read, and the rest is left of the lines
abbrev pub HaveCome : (bytes : List ℕ) (came : List (List ℕ)) (rest : List ℕ) → Type 0
HaveCome bytes came rest = (others : List (List ℕ)) → AreKeys rest others → AreKeys bytes (came ++ others)

-- a line that isn't empty is a key
pub with_key : (keys : List (List ℕ)) (line : List ℕ) → line ≢ [] → with_line keys line ≡ keys ++ line ∷ []
with_key keys [] some = absurd (some refl)
with_key keys (byte ∷ line) some = refl

with_more : (came : List (List ℕ)) (line : List ℕ) (others : List (List ℕ)) → came ++ (with_line [] line ++ others) ≡ with_line came line ++ others
with_more came [] others = refl
with_more came (byte ∷ line) others = sym (append_assoc came ((byte ∷ line) ∷ []) others)

-- the next line, if any is left
pub one_more_line : (bytes : List ℕ) (came : List (List ℕ)) (rest : List ℕ) → HaveCome bytes came rest
    → HaveCome bytes (with_line came (unended rest)) (behind_first rest)
one_more_line bytes came [] have = have
one_more_line bytes came (byte ∷ rest) have = λ others are.
    rw (sym (with_more came (unended (byte ∷ rest)) others))
    (have (with_line [] (unended (byte ∷ rest)) ++ others) (first_of_keys (byte ∷ rest) others (λ none. absurd (omega (arith, ap length none))) are))

pub no_more_lines : (bytes : List ℕ) (came : List (List ℕ)) → HaveCome bytes came [] → AreKeys bytes came
no_more_lines bytes came have = rw append-nil at (have [] no_line)

-- ---- keys that are none of the target's

module _ (target : List Dimension) (IsKeyOf : List ℕ → List ℕ → Type 0) (key : List ℕ) where
  own_key : (keys unexpected : List (List ℕ)) → IsKeyOfTarget target IsKeyOf key → AreUnexpected target IsKeyOf keys unexpected
      → AreUnexpected target IsKeyOf (keys ++ key ∷ []) unexpected
  own_key [] unexpected is are = inl (is, are)
  own_key (first ∷ keys) unexpected is (inl (own, are)) = inl (own, own_key keys unexpected is are)
  own_key (first ∷ keys) unexpected is (inr (other, others, same, are)) = inr (other, others, same, own_key keys others is are)

  other_key : (keys unexpected : List (List ℕ)) → (¬ IsKeyOfTarget target IsKeyOf key) → AreUnexpected target IsKeyOf keys unexpected
      → AreUnexpected target IsKeyOf (keys ++ key ∷ []) (unexpected ++ key ∷ [])
  other_key [] unexpected is are = inr (is, [], ap (λ ks. ks ++ key ∷ []) are, refl)
  other_key (first ∷ keys) unexpected is (inl (own, are)) = inl (own, other_key keys unexpected is are)
  other_key (first ∷ keys) unexpected is (inr (other, others, same, are)) =
      inr (other, others ++ key ∷ [], ap (λ ks. ks ++ key ∷ []) same, other_key keys others is are)

  lines_of_both : (keys : List (List ℕ)) → unexpected_lines (keys ++ key ∷ []) ≡ unexpected_lines keys ++ line_of (unexpected_json key)
  lines_of_both [] = append-nil (line_of (unexpected_json key))
  lines_of_both (first ∷ keys) =
      ap (λ text. line_of (unexpected_json first) ++ text) (lines_of_both keys)
      ∙ sym (append_assoc (line_of (unexpected_json first)) (unexpected_lines keys) (line_of (unexpected_json key)))

  module _ (targets keys : List (List ℕ)) where
    -- a key that ends in a slash marks nothing
    pub slash_marks_nothing : (stored : StoredChunks) → EndsInSlash key → HaveMarked target IsKeyOf targets keys stored
        → HaveMarked target IsKeyOf targets (keys ++ key ∷ []) stored
    slash_marks_nothing stored slash marked = record {
      store_keys = marked.store_keys;
      are_store_keys = λ other.
          let before = marked.are_store_keys other in
          let more = Contains-append_left keys (key ∷ []) other in
          let cases = Contains-push_cases keys key other in
          let is_slash : key ≡ other → EndsInSlash other = λ same. subst EndsInSlash same slash in grind arith;
      knows = marked.knows;
    }

    -- any other key marks its chunk
    pub key_marks : (before after : StoredChunks) → (¬ EndsInSlash key) → HaveMarked target IsKeyOf targets keys before
        → ((store_keys : List (List ℕ)) → Knows target IsKeyOf targets store_keys before → Knows target IsKeyOf targets (key ∷ store_keys) after)
        → HaveMarked target IsKeyOf targets (keys ++ key ∷ []) after
    key_marks before after no_slash marked notes = record {
      store_keys = key ∷ marked.store_keys;
      are_store_keys = λ other. (
        λ is.
            ⊎_elim
            (λ first.
            ⊎_elim (λ none. absurd (omega (arith, none.1)))
            (λ same. (
              subst (λ x. Contains (keys ++ key ∷ []) x) same (Contains-push keys key),
              subst (λ x. ¬ EndsInSlash x) same no_slash,
            ))
            (Contains-push_cases [] key other first))
            (λ there. let (before, none) = (marked.are_store_keys other).0 there in (Contains-append_left keys (key ∷ []) other before, none))
            (Contains-append_cases (key ∷ []) marked.store_keys other is),
        λ (there, none).
            ⊎_elim (λ before. Contains-append_right (key ∷ []) marked.store_keys other ((marked.are_store_keys other).1 (before, none)))
            (λ same.
            subst (λ x. Contains (key ∷ marked.store_keys) x) same
            (Contains-append_left (key ∷ []) marked.store_keys key (Contains-push [] key)))
            (Contains-push_cases keys key other there),
      );
      knows = notes marked.store_keys marked.knows;
    }

    module _ (before after : StoredChunks) (text : List ℕ) (noted : HaveNoted target IsKeyOf targets keys before text)
        (marked : HaveMarked target IsKeyOf targets (keys ++ key ∷ []) after) (is_text : IsUtf8 key) where
      are_texts : (other : List ℕ) → Contains (keys ++ key ∷ []) other → IsUtf8 other
      are_texts other there = ⊎_elim (noted.are_texts other) (λ same. subst IsUtf8 same is_text) (Contains-push_cases keys key other there)

      pub own_noted : IsKeyOfTarget target IsKeyOf key → HaveNoted target IsKeyOf targets (keys ++ key ∷ []) after text
      own_noted is = record {
        marked = marked;
        are_texts = are_texts;
        unexpected = noted.unexpected;
        are_unexpected = own_key keys noted.unexpected is noted.are_unexpected;
        text_is = noted.text_is;
      }

      pub other_noted : (¬ IsKeyOfTarget target IsKeyOf key)
          → HaveNoted target IsKeyOf targets (keys ++ key ∷ []) after (text ++ line_of (unexpected_json key))
      other_noted is = record {
        marked = marked;
        are_texts = are_texts;
        unexpected = noted.unexpected ++ key ∷ [];
        are_unexpected = other_key keys noted.unexpected is noted.are_unexpected;
        text_is = ap (λ xs. xs ++ line_of (unexpected_json key)) noted.text_is ∙ sym (lines_of_both noted.unexpected);
      }

-- whether a key is the target's, where it doesn't end in a slash, and where it does
pub of_target_if_of_array : (target : List Dimension) (IsKeyOf : List ℕ → List ℕ → Type 0) (key : List ℕ) → (¬ EndsInSlash key)
    → IsOfArray target IsKeyOf key ↔ IsKeyOfTarget target IsKeyOf key
of_target_if_of_array target IsKeyOf key no_slash =
    (λ (chunk, meets, is). (chunk, meets, (no_slash, is)), λ (chunk, meets, (_, is)). (chunk, meets, is))

-- what a call tells of its key
module _ (target : List Dimension) (IsKeyOf : List ℕ → List ℕ → Type 0) (key : List ℕ) (no_slash : ¬ EndsInSlash key)
    (before after : StoredChunks) where
  pub if_noted : {E : Type 0} (r : Result Bool E)
      → ((targets store_keys : List (List ℕ)) → Knows target IsKeyOf targets store_keys before
      → IfOk r (λ _. Knows target IsKeyOf targets (key ∷ store_keys) after))
      → OnOk r ((targets keys : List (List ℕ)) → HaveMarked target IsKeyOf targets keys before
      → HaveMarked target IsKeyOf targets (keys ++ key ∷ []) after)
  if_noted (Ok _) notes = λ targets keys marked. key_marks target IsKeyOf key targets keys before after no_slash marked (notes targets)
  if_noted (Err _) notes = tt

  pub if_of_target : {E : Type 0} (r : Result Bool E)
      → ((targets store_keys : List (List ℕ)) → Knows target IsKeyOf targets store_keys before
      → IfOk r (λ is. IsTrue is ↔ IsOfArray target IsKeyOf key))
      → IfOk r (λ is. (targets keys : List (List ℕ)) → HaveMarked target IsKeyOf targets keys before
      → IsTrue is ↔ IsKeyOfTarget target IsKeyOf key)
  if_of_target (Ok is) tells = λ targets keys marked.
      let told = tells targets marked.store_keys marked.knows in
      let same = of_target_if_of_array target IsKeyOf key no_slash in
      (λ yes. same.0 (told.0 yes), λ own. told.1 (same.1 own))
  if_of_target (Err _) tells = tt

-- ---- why reading them stops

pub reading_stops_keys : (told : StreamFault) (bytes : Option (List ℕ)) (start old new : Bool) → IsReadFailure told old new → old ≡ start
    → IsKeysStop (of_stream told) bytes start new
reading_stops_keys told bytes start old new is same = grind arith

pub key_stops : (fault : RunFault) (bytes : Option (List ℕ)) (start new : Bool) (number : ℕ) (line : List ℕ) → new ≡ start
    → (fault ≡ Memory) ⊎ ((fault ≡ KeyNotText number) × (¬ IsUtf8 line)) → ((¬ IsUtf8 line) → IfSome bytes (λ bs. IsFirstNoText 2 bs number))
    → IsKeysStop fault bytes start new
key_stops fault bytes start new number line same (inl memory) first = rw memory same
key_stops fault bytes start new number line same (inr (is, not_text)) first = rw is (same, first not_text)
