-- What holds of each plan of a resize.
use Rattle.zarrs_chunk_plan.proofs.Common.{◌≡◌, ◌≢◌, ◌↔◌, ◌⊎◌, ◌∙◌, ℕ, Bool, false, List, [], ◌∷◌, Contains, length, refl, inl, inr, subst, sym}
use Rattle.zarrs_chunk_plan.proofs.Common.{⊎_elim, arith, AllByRecursion, AllPairs, Dimension, Holds, InBox, InEach, IsChain, IsPlace, array_sizes}
use Rattle.zarrs_chunk_plan.proofs.Common.{AllFit, AreBelow, inside_fits, array_box, AreResized, HasElementOf, IsChange, IsChanged, IsKept, IsUsed}
use Rattle.zarrs_chunk_plan.proofs.Common.{Change}
use Rattle.zarrs_chunk_base.proofs.InEach.{by_dimension, length_numbers}
use Rattle.zarrs_chunk_plan.specs.Resize.{IsAsked, IsResizePlan}
use Rattle.zarrs_chunk_plan.specs.declared.resize.plan.Change.TheVariants.{Create, Delete, Keep, Rewrite}
use Rattle.zarrs_chunk_plan.specs.declared.resize.plan.ChunkChange.{ChunkChange}
use Rattle.zarrs_chunk_plan.specs.seen.Used.{KeptAlong}
use Rattle.zarrs_chunk_plan.proofs.resize.Kept.{is_used, kept_is_all, kept_used, same_start}
use Rattle.zarrs_chunk_plan.proofs.HeldBoxes.{AllHoldSome, hold_some}
use Rattle.zarrs_chunk_plan.proofs.Plans.{pair_of, pairs_of, source_of}
use Rattle.zarrs_chunk_plan.proofs.SomePlan.{chunk_fits}
use Rattle.zarrs_chunk_plan.proofs.SomeResizes.{array_is_box}

-- ---- a chunk that begins where it did

abbrev AllStart : List Dimension → List ℕ → List Dimension → Type 0
AllStart = InEach (λ d c e. d.start c ≡ e.start c)

same_place : (ds : List Dimension) (chunk : List ℕ) (es : List Dimension) (index place : List ℕ) → AllStart ds chunk es
    → IsPlace ds chunk index place ↔ IsPlace es chunk index place
same_place [] [] [] index place start = (λ h. h, λ h. h)
same_place (d ∷ ds) (c ∷ chunk) (e ∷ es) (i ∷ index) (p ∷ place) start =
    let rest = same_place ds chunk es index place start.1 in grind arith
same_place _ _ _ _ _ start = (λ h. absurd assumption, λ h. absurd assumption)

used_start : (ds es : List Dimension) (chunk : List ℕ) → AreResized ds es → AllHoldSome ds chunk → AllHoldSome es chunk → AllStart ds chunk es
used_start [] [] [] resized some after = tt
used_start (d ∷ ds) (e ∷ es) (c ∷ chunk) resized some after =
    (same_start d e resized.0 c some.0 after.0, used_start ds es chunk resized.1 some.1 after.1)
used_start _ _ _ resized some after = absurd assumption

pub kept_place : (ds es : List Dimension) (chunk index place : List ℕ) → IsKept ds es chunk
    → IsPlace ds chunk index place ↔ IsPlace es chunk index place
kept_place ds es chunk index place kept =
    same_place ds chunk es index place
    (by_dimension (λ d c e. KeptAlong d e c) AllStart tt (λ d c e ds chunk es here rest. (here.start, rest)) ds chunk es (kept_is_all ds es chunk kept))

pub stays_in_place : (ds es : List Dimension) → AreResized ds es → (chunk index : List ℕ) → HasElementOf ds chunk index
    → HasElementOf es chunk index → (place : List ℕ) → IsPlace ds chunk index place ↔ IsPlace es chunk index place
stays_in_place ds es resized chunk index (box, below) (also, small) place =
    same_place ds chunk es index place
    (used_start ds es chunk resized (hold_some ds chunk index box below) (hold_some es chunk index also small))

-- ---- an index that both arrays have

pub stays : (ds es : List Dimension) → AreResized ds es → (chunk index : List ℕ) → AreBelow (array_sizes ds) index → AreBelow (array_sizes es) index
    → InBox ds chunk index ↔ InBox es chunk index
stays [] [] resized chunk index below also = (λ h. h, λ h. h)
stays (d ∷ ds) (e ∷ es) resized (c ∷ chunk) (i ∷ index) below also =
    let here = resized.0.same_chunk c i below.0 also.0 in
    let rest = stays ds es resized.1 chunk index below.1 also.1 in grind arith
stays _ _ resized _ _ below also = (λ h. absurd assumption, λ h. absurd assumption)

-- ---- what becomes of a chunk

module _ (ds es : List Dimension) (chunk : List ℕ) where
  pub one_what : (what other : Change) → IsChanged ds es chunk what → IsChanged ds es chunk other → what ≡ other
  one_what Keep Keep is also = refl
  one_what Rewrite Rewrite is also = refl
  one_what Delete Delete is also = refl
  one_what Create Create is also = refl
  one_what _ _ is also = absurd (grind (arith, kept_used ds es chunk))

  module _ (index : List ℕ) where
    pub in_both : HasElementOf ds chunk index → HasElementOf es chunk index → (what : Change) → IsChanged ds es chunk what
        → (what ≡ Keep) ⊎ (what ≡ Rewrite)
    in_both has also Keep is = inl refl
    in_both has also Rewrite is = inr refl
    in_both has also _ is = absurd (grind (arith, is_used ds chunk index, is_used es chunk index))

    pub leaving : HasElementOf ds chunk index → (¬ HasElementOf es chunk index) → (what : Change) → IsChanged ds es chunk what
        → (what ≡ Rewrite) ⊎ (what ≡ Delete)
    leaving has gone Rewrite is = inl refl
    leaving has gone Delete is = inr refl
    leaving has gone _ is = absurd (grind (arith, is_used ds chunk index))

    pub coming : HasElementOf es chunk index → (¬ HasElementOf ds chunk index) → (what : Change) → IsChanged ds es chunk what
        → (what ≡ Rewrite) ⊎ (what ≡ Create)
    coming has none Rewrite is = inl refl
    coming has none Create is = inr refl
    coming has none _ is = absurd (grind (arith, is_used es chunk index))

-- a chunk that loses an element, or gets one, isn't kept
pub asked_of_leaving : (ds es : List Dimension) (chunk index : List ℕ) → HasElementOf ds chunk index → (¬ HasElementOf es chunk index)
    → IsAsked ds es false chunk
asked_of_leaving ds es chunk index has gone =
    record { used = inl (is_used ds chunk index has); wanted = inr (λ kept. gone ((kept.elements index).0 has)) }

pub asked_of_coming : (ds es : List Dimension) (chunk index : List ℕ) → HasElementOf es chunk index → (¬ HasElementOf ds chunk index)
    → IsAsked ds es false chunk
asked_of_coming ds es chunk index has none =
    record { used = inr (is_used es chunk index has); wanted = inr (λ kept. none ((kept.elements index).1 has)) }

-- ---- the plan

-- the numbers of a chunk that holds elements of an array fit, as those of its elements do
used_fits : (ds : List Dimension) (chunk : List ℕ) → AllByRecursion IsChain ds → AllFit (array_sizes ds) → IsUsed ds chunk → AllFit chunk
used_fits ds chunk chains fit (index, box, inside) =
    chunk_fits ds chains chunk index box (inside_fits (array_box ds).start (array_sizes ds) index (array_is_box ds fit).fits inside)

used_long : (ds : List Dimension) (chunk : List ℕ) → IsUsed ds chunk → length chunk ≡ length ds
used_long ds chunk (index, box, inside) = length_numbers Holds ds chunk index box

module _ (ds es : List Dimension) (IsKey : List ℕ → List ℕ → Type 0) (include_unchanged : Bool) (changes : List ChunkChange)
    (plan : IsResizePlan ds es IsKey include_unchanged changes) where
  pub has_one : (chunk : List ℕ) → IsAsked ds es include_unchanged chunk → (change : ChunkChange) × Contains changes change × IsChange ds es IsKey chunk change
  has_one chunk asked = pair_of (IsChange ds es IsKey) plan.chunks changes plan.are_changes chunk ((plan.are_chunks.are_those chunk).1 asked)

  pub is_asked : (change : ChunkChange) → Contains changes change
      → (chunk : List ℕ) × IsAsked ds es include_unchanged chunk × IsChange ds es IsKey chunk change
  is_asked change among =
      let (chunk, in_chunks, is) = source_of (IsChange ds es IsKey) plan.chunks changes plan.are_changes change among in
      (chunk, (plan.are_chunks.are_those chunk).0 in_chunks, is)

  pub change_keys_differ : AllByRecursion IsChain ds → AllByRecursion IsChain es → AllFit (array_sizes ds) → AllFit (array_sizes es)
      → length ds ≡ length es
      → ((chunk other key : List ℕ) → AllFit chunk → AllFit other → length chunk ≡ length other → IsKey chunk key → IsKey other key → chunk ≡ other)
      → AllPairs (λ change other. change.key ≢ other.key) changes
  change_keys_differ chains also fit also_fit same exact =
      pairs_of (IsChange ds es IsKey) (λ change other. change.key ≢ other.key) plan.chunks changes plan.are_changes plan.are_chunks.once
      (λ one other change next among among_too differ is is_next keys.
      let (fits, long) = told one among in
      let (fits_too, long_too) = told other among_too in
      differ (exact one other change.key fits fits_too (long ∙ sym long_too) is.key (subst (IsKey other) (sym keys) is_next.key)))
    where
      told : (chunk : List ℕ) → Contains plan.chunks chunk → AllFit chunk × (length chunk ≡ length ds)
      told chunk among =
          ⊎_elim
          (λ used. (used_fits ds chunk chains fit used, used_long ds chunk used))
          (λ used. (used_fits es chunk also also_fit used, used_long es chunk used ∙ sym same))
          ((plan.are_chunks.are_those chunk).0 among).used
