-- Bits of numbers, the place of a chunk in a box, and what is known of the chunks that a store has.
use Rattle.zarrs_chunk_plan.proofs.Common.{◌≡◌, ◌≢◌, ◌==◌, ◌↔◌, ◌⊎◌, ◌∙◌, ℕ, zero, suc, ◌+◌, ◌-◌, ◌*◌, ◌^◌, ◌/◌, ◌%◌, ◌<◌, ◌≤◌, Bool, true, false}
use Rattle.zarrs_chunk_plan.proofs.Common.{List, [], ◌∷◌, ◌++◌, Option, Some, None, get_or, length, min, replicate, set, take, MatchOption, IsTrue}
use Rattle.zarrs_chunk_plan.proofs.Common.{refl, ap, subst, sym, inl, inr, ⊎_elim, arith, true≢false, cases_lt, length-replicate, take_more}
use Rattle.zarrs_chunk_plan.proofs.Common.{get_or_from_slice_get, slice_get_within, bit_at, slice_get, AreWithin, Box, IsBox, IsInside, Dimension}
use Rattle.zarrs_chunk_plan.proofs.Common.{AllFit, greatest, row_major, chunks_in, are_those_inside, chunks_once, inside_fits, Meets, array_box}
use Rattle.zarrs_chunk_plan.proofs.Common.{is_stored}
use Rattle.std.proofs.lemmas.Bool.{eq-eqb}
use Rattle.std.proofs.lemmas.Bool.Decides.{eqb_tells}
use Rattle.std.proofs.lemmas.List.{get_or-replicate, get_or-set_other, get_or-set_same, get_or_past, length-take-le}
use Rattle.std.proofs.lemmas.Nat.Bits.{bit_at-zero}
use Rattle.std.specs.Option.{is_some}
use Rattle.std.specs.Prelude.{Vec}
use Rattle.std.specs.declared.alloc.Global.{Global}
use Rattle.zarrs_chunk_plan.specs.StoredChunks.{IsListed, IsOfArray}
use Rattle.zarrs_chunk_plan.specs.declared.copy.stored_chunks.StoredChunks.{StoredChunks}
use Rattle.zarrs_chunk_plan.specs.seen.StoredChunks.{IsMarked, Knows, lies_inside, place_of}
use Rattle.zarrs_chunk_plan.proofs.ByNumber.{at_digit, at_most_times, length-behind}

-- ---- a bit of a list of numbers

-- whether the bit with this number is set, 64 of them in a number
abbrev pub has_bit : List ℕ → ℕ → Bool
has_bit bits number = bit_at (get_or bits (number / 64) 0) (number % 64) == 1

module _ (bits : List ℕ) (number word : ℕ) where
  pub bit_set : number / 64 < length bits → bit_at word (number % 64) ≡ 1 → has_bit (set bits (number / 64) word) number ≡ true
  bit_set within is = rw (get_or-set_same bits (number / 64) word 0 within) (eq-eqb (bit_at word (number % 64)) 1 is)

  pub bit_kept : number / 64 < length bits
      → ((other : ℕ) → other ≢ number % 64 → bit_at word other ≡ bit_at (get_or bits (number / 64) 0) other)
      → (other : ℕ) → other ≢ number → has_bit (set bits (number / 64) word) other ≡ has_bit bits other
  bit_kept within others other not =
      ⊎_elim
      (λ (_, same).
      let differ : other % 64 ≢ number % 64 = (λ rest.
      not (omega arith)) in
      rw (same, get_or-set_same bits (number / 64) word 0 within, others (other % 64) differ) refl)
      (λ (_, differ). rw (get_or-set_other bits (number / 64) (other / 64) word 0 differ) refl)
      (eqb_tells (other / 64) (number / 64))

pub none_there : (bits : List ℕ) (number : ℕ) → get_or bits (number / 64) 0 ≡ 0 → has_bit bits number ≡ false
none_there bits number is = rw (is, bit_at-zero (number % 64)) refl

pub none_set : (count number : ℕ) → has_bit (replicate count 0) number ≡ false
none_set count number =
    none_there (replicate count 0) number
    (⊎_elim (λ (within : number / 64 < count). get_or-replicate {A = ℕ} count (number / 64) 0 0 within)
    (λ (past : count ≤ number / 64).
    let many = length-replicate {A = ℕ} count 0 in
    get_or_past (replicate {A = ℕ} count 0) (number / 64) 0 (omega arith))
    (cases_lt (number / 64) count))

-- ---- the number of a chunk in a box

pub at_place : (start shape chunk : List ℕ) → AreWithin start shape chunk
    → slice_get (chunks_in (record { start = start; shape = shape })) (place_of start shape chunk) ≡ Some chunk
unfolding row_major
at_place [] [] [] within = refl
at_place (s ∷ start) (n ∷ shape) (c ∷ chunk) within =
    let same : s + (c - s) ≡ c = omega arith in
    let found = at_digit s n (c - s) (place_of start shape chunk) start shape chunk (omega arith) (at_place start shape chunk within.2) in
    found ∙ ap (λ x. Some (x ∷ chunk)) same
at_place _ _ _ within = absurd within

pub inside_tells : (start shape chunk : List ℕ) → IsTrue (lies_inside start shape chunk) ↔ AreWithin start shape chunk
inside_tells [] [] [] = (λ _. tt, λ _. refl)
inside_tells (s ∷ start) (n ∷ shape) (c ∷ chunk) =
    let rest = inside_tells start shape chunk in
    grind arith
inside_tells [] [] (_ ∷ _) = (λ is. absurd (true≢false (sym is)), λ within. absurd within)
inside_tells [] (_ ∷ _) _ = (λ is. absurd (true≢false (sym is)), λ within. absurd within)
inside_tells (_ ∷ _) [] _ = (λ is. absurd (true≢false (sym is)), λ within. absurd within)
inside_tells (_ ∷ _) (_ ∷ _) [] = (λ is. absurd (true≢false (sym is)), λ within. absurd within)

-- no other number is that of the chunk
pub same_number : (b : Box) → IsBox b → (chunk : List ℕ) (one other : ℕ) → slice_get (chunks_in b) one ≡ Some chunk
    → slice_get (chunks_in b) other ≡ Some chunk → one ≡ other
same_number b is_box chunk one other here there =
    let chunks = chunks_in b in
    let a = get_or_from_slice_get chunks one chunk chunk here in
    let z = get_or_from_slice_get chunks other chunk chunk there in
    let within = slice_get_within chunks one chunk here in
    let also = slice_get_within chunks other chunk there in
    ⊎_elim
    (λ (less : one < other). absurd (chunks_once b is_box one other chunk less also (a ∙ sym z)))
    (λ (more : other ≤ one).
    ⊎_elim
    (λ (less : other < one). absurd (chunks_once b is_box other one chunk less within (z ∙ sym a)))
    (λ (rest : one ≤ other). omega arith)
    (cases_lt other one))
    (cases_lt one other)

pub length_start : (start shape chunk : List ℕ) → AreWithin start shape chunk → (length start ≡ length chunk) × (length shape ≡ length chunk)
length_start [] [] [] within = (refl, refl)
length_start (s ∷ start) (n ∷ shape) (c ∷ chunk) within =
    let (one, other) = length_start start shape chunk within.2 in
    (omega arith, omega arith)
length_start _ _ _ within = absurd within

-- of one dimension more
pub place_last : (start shape chunk : List ℕ) (s n c : ℕ) → length start ≡ length shape → length chunk ≡ length shape
    → place_of (start ++ s ∷ []) (shape ++ n ∷ []) (chunk ++ c ∷ []) ≡ place_of start shape chunk * n + (c - s)
unfolding row_major
place_last [] [] [] s n c e f = omega arith
place_last (a ∷ start) (m ∷ shape) (b ∷ chunk) s n c e f =
    rw (length-behind shape n, place_last start shape chunk s n c (omega arith) (omega arith)) (omega arith)
place_last _ _ _ s n c e f = absurd (omega arith)

-- and of one more of those in a box, as far as a number counts it
pub place_more : (start shape chunk : List ℕ) → AreWithin start shape chunk → (k number : ℕ) → k < length shape
    → number ≡ min (place_of (take k start) (take k shape) (take k chunk)) greatest
    → min (min (number * get_or shape k 0) greatest + (get_or chunk k 0 - get_or start k 0)) greatest
    ≡ min (place_of (take (k + 1) start) (take (k + 1) shape) (take (k + 1) chunk)) greatest
place_more start shape chunk within k number less is =
    let (one, other) = length_start start shape chunk within in
    let n = get_or shape k 0 in
    let place = place_of (take k start) (take k shape) (take k chunk) in
    let starts = length-take-le k start (omega arith) in
    let sizes = length-take-le k shape (omega arith) in
    let numbers = length-take-le k chunk (omega arith) in
    let times : min (number * n) greatest ≡ min (place * n) greatest = ap (λ m. min (m * n) greatest) is ∙ at_most_times place n greatest in
    rw (
      take_more start k 0 (omega arith),
      take_more shape k 0 less,
      take_more chunk k 0 (omega arith),
      place_last (take k start) (take k shape) (take k chunk) (get_or start k 0) n (get_or chunk k 0) (omega arith) (omega arith),
    )
    (omega (arith, times))

-- the number that is found in a box fits, and is that of the chunk
pub counted_within : (b : Box) (start shape chunk : List ℕ) → start ≡ b.start → shape ≡ b.shape → IsInside b chunk → length (chunks_in b) < 2 ^ 29
    → AreWithin start shape chunk × (place_of start shape chunk < 2 ^ 29)
    × (slice_get (chunks_in b) (place_of start shape chunk) ≡ Some chunk)
counted_within b start shape chunk starts sizes inside few =
    let within : AreWithin start shape chunk = rw (starts, sizes) inside in
    let found : slice_get (chunks_in b) (place_of start shape chunk) ≡ Some chunk = rw (starts, sizes) (at_place b.start b.shape chunk inside) in
    let less = slice_get_within (chunks_in b) (place_of start shape chunk) chunk found in
    (within, omega arith, found)

-- ---- the chunk of a key

module _ (IsKeyOf : List ℕ → List ℕ → Type 0) (b : Box) (is_box : IsBox b) (key : List ℕ) where
  inside_of : (chunk : List ℕ) → IsInside b chunk → AllFit chunk × (length chunk ≡ length b.start)
  inside_of chunk inside = (
    inside_fits b.start b.shape chunk is_box.fits inside,
    sym (length_start b.start b.shape chunk inside).0,
  )

  -- it was read back as a chunk of the box
  pub read_inside : ((chunk other key : List ℕ) → AllFit chunk → AllFit other → length chunk ≡ length other → IsKeyOf chunk key → IsKeyOf other key
      → chunk ≡ other) → (it : List ℕ) → IsKeyOf it key → IsInside b it
      → (chunk : List ℕ) → (IsInside b chunk × IsKeyOf chunk key) ↔ (it ≡ chunk)
  read_inside exact it has inside chunk =
      let (fits, long) = inside_of it inside in (
        λ (within, is). let (also_fits, as_long) = inside_of chunk within in exact it chunk key fits also_fits (long ∙ sym as_long) has is,
        λ same. (subst (IsInside b) same inside, subst (λ one. IsKeyOf one key) same has),
      )

  -- as a chunk outside of it
  pub read_outside : ((chunk other key : List ℕ) → AllFit chunk → AllFit other → length chunk ≡ length other → IsKeyOf chunk key → IsKeyOf other key
      → chunk ≡ other) → (it : List ℕ) → AllFit it → length it ≡ length b.start → IsKeyOf it key → (¬ IsInside b it)
      → (chunk : List ℕ) → IsInside b chunk → ¬ IsKeyOf chunk key
  read_outside exact it fits long has outside chunk within is =
      let (also_fits, as_long) = inside_of chunk within in
      outside (subst (IsInside b) (exact chunk it key also_fits fits (as_long ∙ sym long) is has) within)

  -- as none
  pub read_none : (dimensionality : ℕ) → dimensionality ≡ length b.start
      → ((chunk : List ℕ) → AllFit chunk → length chunk ≡ dimensionality → ¬ IsKeyOf chunk key)
      → (chunk : List ℕ) → IsInside b chunk → ¬ IsKeyOf chunk key
  read_none dimensionality many none chunk within is =
      let (fits, long) = inside_of chunk within in
      none chunk fits (long ∙ sym many) is

-- ---- what is known of the chunks that a store has

listed_none : (K : List ℕ → List ℕ → Type 0) (chunk : List ℕ) → ¬ IsListed K [] chunk
listed_none K chunk (key, (k, within, _), _) = absurd (omega arith)

listed_cases : (K : List ℕ → List ℕ → Type 0) (key : List ℕ) (keys : List (List ℕ)) (chunk : List ℕ) → IsListed K (key ∷ keys) chunk
    → K chunk key ⊎ IsListed K keys chunk
listed_cases K key keys chunk (other, (zero, within, same), is) = inl (subst (K chunk) (sym same) is)
listed_cases K key keys chunk (other, (suc k, within, same), is) = inr (other, (k, omega arith, same), is)

listed_more : (K : List ℕ → List ℕ → Type 0) (key : List ℕ) (keys : List (List ℕ)) (chunk : List ℕ) → IsListed K keys chunk
    → IsListed K (key ∷ keys) chunk
listed_more K key keys chunk (other, (k, within, same), is) = (other, (suc k, omega arith, same), is)

listed_first : (K : List ℕ → List ℕ → Type 0) (key : List ℕ) (keys : List (List ℕ)) (chunk : List ℕ) → K chunk key
    → IsListed K (key ∷ keys) chunk
listed_first K key keys chunk is = (key, (0, omega arith, refl), is)

pub in_box : (b : Box) → IsBox b → (number : ℕ) (chunk : List ℕ) → slice_get (chunks_in b) number ≡ Some chunk → IsInside b chunk
in_box b is_box number chunk found =
    (are_those_inside b is_box chunk).0
    (number, slice_get_within (chunks_in b) number chunk found, get_or_from_slice_get (chunks_in b) number chunk chunk found)

module _ (ds : List Dimension) (K : List ℕ → List ℕ → Type 0) (targets keys : List (List ℕ)) (key : List ℕ) (before : StoredChunks)
    (known : Knows ds K targets keys before) where
  -- the key is that of none of the chunks that the plan writes
  pub knows_unexpected : ((chunk : List ℕ) → IsInside before.targets chunk → ¬ K chunk key) → Knows ds K targets (key ∷ keys) before
  knows_unexpected unexpected = record {
    held = known.held;
    is_box = known.is_box;
    same_targets = known.same_targets;
    each = λ number chunk found.
        let inside = in_box before.targets known.is_box number chunk (rw known.same_targets found) in
        let (listed, stored) = known.each number chunk found in (
          λ marked. listed_more K key keys chunk (listed marked),
          λ is. ⊎_elim (λ here. absurd (unexpected chunk inside here)) stored (listed_cases K key keys chunk is),
        );
  }

  -- it is that of this chunk
  pub knows_marked : (after : StoredChunks) (chunk : List ℕ) → IsMarked chunk before after → K chunk key
      → ((other : List ℕ) → IsInside before.targets other → K other key → chunk ≡ other) → Knows ds K targets (key ∷ keys) after
  knows_marked after chunk is has only = record {
    held = λ other. rw is.held (known.held other);
    is_box = rw is.targets known.is_box;
    same_targets = rw is.targets known.same_targets;
    each = λ number other found.
        let there = rw (sym known.same_targets) at found in
        let inside = in_box before.targets known.is_box number other there in
        ⊎_elim
        (λ (_, same).
        let one : chunk ≡ other = cc in
        (λ _. listed_first K key keys other (subst (λ it. K it key) one has), λ _. rw same is.marked))
        (λ (_, differ).
        let (listed, stored) = known.each number other found in
        let kept = is.others number differ in (
          λ marked. listed_more K key keys other (listed (rw kept at marked)),
          λ is_listed. rw kept
              (⊎_elim
              (λ here.
              let one = only other inside here in
              absurd (differ (is.alone number (there ∙ ap Some (sym one)))))
              stored (listed_cases K key keys other is_listed)),
        ))
        (eqb_tells number is.number);
  }

  -- a chunk of the box is that of the key where one was found
  pub knows_next : (found : Option (Vec ℕ Global))
      → ((chunk : List ℕ) → (IsInside before.targets chunk × K chunk key) ↔ MatchOption found ⊥ (λ it. it.items ≡ chunk))
      → (after : StoredChunks) → MatchOption found (after ≡ before) (λ it. IsMarked it.items before after) → Knows ds K targets (key ∷ keys) after
  knows_next None among after same =
      subst (Knows ds K targets (key ∷ keys)) (sym same) (knows_unexpected (λ chunk inside has. (among chunk).0 (inside, has)))
  knows_next (Some it) among after is =
      knows_marked after it.items is ((among it.items).1 refl).1 (λ other inside has. (among other).0 (inside, has))

-- the key is that of a chunk of the array where one was found in the box of those
pub tells_of_array : (ds : List Dimension) (K : List ℕ → List ℕ → Type 0) (held : Box) (key : List ℕ)
    → ((chunk : List ℕ) → IsInside held chunk ↔ Meets ds (array_box ds) chunk)
    → (found : Option (Vec ℕ Global))
    → ((chunk : List ℕ) → (IsInside held chunk × K chunk key) ↔ MatchOption found ⊥ (λ it. it.items ≡ chunk))
    → IsTrue (is_some found) ↔ IsOfArray ds K key
tells_of_array ds K held key is_held None among = (
  λ is. absurd (true≢false (sym is)),
  λ (chunk, meets, has). absurd ((among chunk).0 ((is_held chunk).1 meets, has)),
)
tells_of_array ds K held key is_held (Some it) among =
    let (inside, has) = (among it.items).1 refl in
    (λ _. (it.items, (is_held it.items).0 inside, has), λ _. refl)

-- no key was listed yet
pub knows_none : (ds : List Dimension) (K : List ℕ → List ℕ → Type 0) (targets : List (List ℕ)) (stored : StoredChunks)
    → ((chunk : List ℕ) → IsInside stored.held chunk ↔ Meets ds (array_box ds) chunk) → IsBox stored.targets → chunks_in stored.targets ≡ targets
    → ((number : ℕ) → is_stored stored number ≡ false) → Knows ds K targets [] stored
knows_none ds K targets stored held is_box same none = record {
  held = held;
  is_box = is_box;
  same_targets = same;
  each = λ number chunk _. (λ is. absurd (true≢false (sym is ∙ none number)), λ listed. absurd (listed_none K chunk listed));
}
