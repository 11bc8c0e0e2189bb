-- Where each chunk has a key, each chunk that one of a resize's arrays uses has a change; and the changes that came of a walk, one for each chunk that
-- came, are at the end all that were to come.
use Rattle.zarrs_chunk_plan.proofs.Common.{◌≡◌, ◌↔◌, ◌⊎◌, ◌∙◌, ℕ, ◌≤◌, List, [], ◌∷◌, ◌++◌, Option, Some, None, Ok, length, replicate, ap, refl}
use Rattle.zarrs_chunk_plan.proofs.Common.{subst, sym, append-nil, map, Bool, Result, ⊎_elim, arith, AllocError, length-map, length-replicate, Drains}
use Rattle.zarrs_chunk_plan.proofs.Common.{AllByRecursion, AllZip, IsBox, ends, Dimension, IsChain, array_sizes, AllFit, greatest, AreBelow}
use Rattle.zarrs_chunk_plan.proofs.Common.{array_box, IsChange, IsChanged, IsUsed, Change, changes_to_come, HasKeys}
use Rattle.zarrs_chunk_plan.specs.Resize.{AreChanged, AreChangedChunks, IsHeld, IsResizePlan, MayHold}
use Rattle.zarrs_chunk_plan.specs.declared.resize.changed.ChangedChunks.{ChangedChunks}
use Rattle.zarrs_chunk_plan.specs.declared.resize.chunk_changes.Changes.{Changes}
use Rattle.zarrs_chunk_plan.specs.declared.resize.plan.Change.TheVariants.{Create, Delete, Keep, Rewrite}
use Rattle.zarrs_chunk_plan.specs.declared.resize.plan.ChunkChange.{ChunkChange}
use Rattle.zarrs_chunk_plan.specs.declared.resize.plan.ChunkContents.{ChunkContents}
use Rattle.zarrs_chunk_plan.specs.seen.Changes.{CanChange, GivesChange, IsAboutResize}
use Rattle.zarrs_chunk_plan.proofs.copy.AskedChunks.{below_or_not}
use Rattle.zarrs_chunk_plan.proofs.HeldBoxes.{held_elements}
use Rattle.zarrs_chunk_plan.proofs.Plans.{all_of_each}
use Rattle.zarrs_chunk_plan.proofs.ShareLists.{both_zipped}
use Rattle.zarrs_chunk_plan.proofs.SomePlan.{each_has, has_part}
use Rattle.zarrs_chunk_plan.proofs.Walked.{all_given, one_came}

-- ---- what one chunk holds

ends_fit : (shape : List ℕ) → AllFit shape → AllFit (ends (replicate (length shape) 0) shape)
ends_fit [] fit = tt
ends_fit (n ∷ shape) fit = let here : n ≤ greatest = fit.0 in (omega arith, ends_fit shape fit.1)

pub from_zero : (shape : List ℕ) (n : ℕ) → length shape ≡ n → AllFit shape → IsBox (record { start = replicate n 0; shape = shape })
from_zero shape n same fit = rw (← same) (record { lengths = length-replicate (length shape) 0; fits = ends_fit shape fit })

pub array_is_box : (ds : List Dimension) → AllFit (array_sizes ds) → IsBox (array_box ds)
array_is_box ds fit = from_zero (array_sizes ds) (length ds) (length-map ds (λ d. d.array_size)) fit

-- a chunk that is used holds something, and has a key
has_held : (IsKey : List ℕ → List ℕ → Type 0) → HasKeys IsKey → (ds : List Dimension) → AllByRecursion IsChain ds → AllFit (array_sizes ds)
    → (chunk : List ℕ) → IsUsed ds chunk → (held : ChunkContents) × IsHeld ds chunk held × ((key : List ℕ) × IsKey chunk key)
has_held IsKey keys ds chains fit chunk used =
    let (part, is) = has_part ds IsKey chains keys (array_box ds) (array_is_box ds fit) chunk used in (
      record { elements = is.boxes.shared; shape = part.shape },
      record {
        is_box = is.boxes.is_box;
        elements = λ index.
            let held = held_elements ds chunk index in
            (λ inside. held.0 ((is.boxes.elements index).0 inside), λ has. (is.boxes.elements index).1 (held.1 has));
        shape = is.shape;
      },
      (part.key, is.key),
    )

may_hold : (ds : List Dimension) (chunk used : List ℕ) → AreBelow used chunk ↔ IsUsed ds chunk → (IsUsed ds chunk → (held : ChunkContents) × IsHeld ds chunk held)
    → (held : Option ChunkContents) × MayHold ds chunk held
may_hold ds chunk used named holds =
    ⊎_elim (λ below. let (held, is) = holds (named.0 below) in (Some held, (named.0 below, is))) (λ none. (None, λ is_used. none (named.1 is_used)))
    (below_or_not used chunk)

-- ---- what becomes of one chunk

module _ (before after : List Dimension) (IsKey : List ℕ → List ℕ → Type 0) where
  -- one of the arrays uses the chunk
  abbrev pub IsUsedByOne : List ℕ → Type 0
  IsUsedByOne chunk = IsUsed before chunk ⊎ IsUsed after chunk

  module _ (chains : AllByRecursion IsChain before) (also_chains : AllByRecursion IsChain after) (fit : AllFit (array_sizes before))
      (also_fit : AllFit (array_sizes after)) (keys : HasKeys IsKey) (uses : ChangedChunks) (are : AreChangedChunks before after uses) where
    becomes : (chunk : List ℕ) (one other : Option ChunkContents) → MayHold before chunk one → MayHold after chunk other → IsUsedByOne chunk
        → (what : Change) × IsChanged before after chunk what
    becomes chunk (Some _) (Some _) held holds used =
        ⊎_elim (λ below. (Keep, (are.kept.those chunk).0 below)) (λ above. (Rewrite, (held.0, holds.0, λ kept. above ((are.kept.those chunk).1 kept))))
        (below_or_not uses.kept.items chunk)
    becomes chunk (Some _) None held holds used = (Delete, (held.0, holds))
    becomes chunk None (Some _) held holds used = (Create, (holds.0, held))
    becomes chunk None None held holds used = absurd (⊎_elim held holds used)

    has_change : (chunk : List ℕ) → IsUsedByOne chunk → (change : ChunkChange) × IsChange before after IsKey chunk change
    has_change chunk used =
        let first = has_held IsKey keys before chains fit chunk in
        let second = has_held IsKey keys after also_chains also_fit chunk in
        let (key, is) = ⊎_elim (λ is_used. (first is_used).2) (λ is_used. (second is_used).2) used in
        let (one, held) = may_hold before chunk uses.before.items (are.before_it.those chunk) (λ is_used. ((first is_used).0, (first is_used).1)) in
        let (other, holds) = may_hold after chunk uses.after.items (are.after_it.those chunk) (λ is_used. ((second is_used).0, (second is_used).1)) in
        let (what, changed) = becomes chunk one other held holds used in (
          record { key = key; chunk = record { items = chunk; capacity = 0 }; before = one; after = other; what = what },
          record { numbers = refl; key = is; held = held; holds = holds; what = changed },
        )

    pub have_changes : (chunks : List (List ℕ)) → AllByRecursion IsUsedByOne chunks
        → (changes : List ChunkChange) × AllZip (IsChange before after IsKey) chunks changes
    have_changes = each_has IsUsedByOne (IsChange before after IsKey) has_change

    -- so there is a plan of the resize
    pub have_resize : (include_unchanged : Bool) (chunks : List (List ℕ)) → AreChanged before after include_unchanged chunks
        → (changes : List ChunkChange) × IsResizePlan before after IsKey include_unchanged changes
    have_resize include_unchanged chunks asked =
        let (changes, zipped) = have_changes chunks (all_of_each IsUsedByOne chunks (λ chunk among. ((asked.are_those chunk).0 among).used)) in
        (changes, record { chunks = chunks; are_chunks = asked; are_changes = zipped })

-- ---- the changes that came of a walk

all_behind : {X : Type 0} (P : X → Type 0) (before behind : List X) → AllByRecursion P (before ++ behind) → AllByRecursion P behind
all_behind P [] behind all = all
all_behind P (_ ∷ before) behind all = all_behind P before behind all.1

module _ {G H E : Type 0} (dimensions_before : G → List Dimension) (dimensions_after : H → List Dimension) (is_key : E → List ℕ → List ℕ → Type 0)
    (begin : Changes G H E) where
  abbrev pub Gives : Changes G H E → Option (Result ChunkChange AllocError) → Changes G H E → Type 0
  Gives = GivesChange dimensions_before dimensions_after is_key

  -- the change of a chunk
  abbrev pub IsChangeOf : List ℕ → ChunkChange → Type 0
  IsChangeOf = IsChange (dimensions_before begin.before.now) (dimensions_after begin.after.now) (is_key begin.encoding.now)

  -- the changes that the walk had to give at first: one for each chunk to come
  abbrev pub AreChangesToCome : List ChunkChange → Type 0
  AreChangesToCome = AllZip IsChangeOf (changes_to_come begin)

  -- these chunks came, of which these are the changes
  abbrev pub ChangesHaveCome : Changes G H E → List ChunkChange → Type 0
  ChangesHaveCome now changes = (came : List (List ℕ)) × (changes_to_come begin ≡ came ++ changes_to_come now) × AllZip IsChangeOf came changes
      × IsAboutResize begin.before.now begin.after.now begin.encoding.now now × CanChange dimensions_before dimensions_after now

  pub first_change : (now : Changes G H E) (changes : List ChunkChange) → now ≡ begin → changes ≡ []
      → CanChange dimensions_before dimensions_after begin → ChangesHaveCome now changes
  first_change now changes same none can = rw (same, none) ([], refl, tt, record { same_before = refl; same_after = refl; same_encoding = refl }, can)

  pub one_more_change : (before after : Changes G H E) (change : ChunkChange) (changes more : List ChunkChange) → ChangesHaveCome before changes
      → Gives before (Some (Ok change)) after → more ≡ changes ++ change ∷ [] → ChangesHaveCome after more
  one_more_change before after change changes more (came, left, are, about, can) gives is =
      let (now_came, all, now_are) = one_came IsChangeOf (changes_to_come begin) came (changes_to_come before) (changes_to_come after) change.chunk.items
      change changes more left gives.gives are (rw (← about.same_before, ← about.same_after, ← about.same_encoding) (gives.change can)) is
      in
      (now_came, all, now_are, rw (about.same_before, about.same_after, about.same_encoding) at gives.about, gives.can can)

  pub last_change : (before after : Changes G H E) (changes : List ChunkChange) → ChangesHaveCome before changes → Gives before None after
      → AreChangesToCome changes
  last_change before after changes (came, left, are, about, can) gives =
      subst (λ chunks. AllZip IsChangeOf chunks changes) (sym (left ∙ ap (λ xs. came ++ xs) gives.gives.0 ∙ append-nil came)) are

  -- so what a walk gives up to its end are the changes to come
  pub all_changes_to_come : (given : List ChunkChange) → CanChange dimensions_before dimensions_after begin → Drains Gives begin (map Ok given)
      → AreChangesToCome given
  all_changes_to_come given can = all_given Gives ChangesHaveCome AreChangesToCome one_more_change last_change begin given (first_change begin [] refl refl can)

  -- what came and what would still come are all that were to come
  pub changes_ahead : AllByRecursion IsChain (dimensions_before begin.before.now) → AllByRecursion IsChain (dimensions_after begin.after.now)
      → AllFit (array_sizes (dimensions_before begin.before.now)) → AllFit (array_sizes (dimensions_after begin.after.now))
      → HasKeys (is_key begin.encoding.now) → CanChange dimensions_before dimensions_after begin
      → AllByRecursion (IsUsedByOne (dimensions_before begin.before.now) (dimensions_after begin.after.now) (is_key begin.encoding.now)) (changes_to_come begin)
      → (now : Changes G H E) (came : List ChunkChange) → ChangesHaveCome now came → (others : List ChunkChange) × AreChangesToCome (came ++ others)
  changes_ahead chains also_chains fit also_fit keys can used now came (chunks, left, are, about, still) =
      let left_used = all_behind _ chunks (changes_to_come now) (rw left at used) in
      let (others, also) = have_changes _ _ _ chains also_chains fit also_fit keys begin.uses can.changed (changes_to_come now) left_used in
      (others, rw left (both_zipped IsChangeOf chunks (changes_to_come now) came others are also))

-- the chunks of which a change is asked for are used
pub asked_are_used : (before after : List Dimension) (include_unchanged : Bool) (chunks : List (List ℕ)) → AreChanged before after include_unchanged chunks
    → AllByRecursion (λ chunk. IsUsed before chunk ⊎ IsUsed after chunk) chunks
asked_are_used before after include_unchanged chunks are =
    all_of_each (λ chunk. IsUsed before chunk ⊎ IsUsed after chunk) chunks (λ chunk among. ((are.are_those chunk).0 among).used)
