-- The parts that came of a walk, one for each chunk that came; at the end they are a plan.
use Rattle.zarrs_chunk_plan.proofs.Common.{◌≡◌, ◌∙◌, ℕ, List, [], ◌∷◌, ◌++◌, Option, Some, None, Result, Ok, map, append_assoc, append-nil, ap, refl}
use Rattle.zarrs_chunk_plan.proofs.Common.{subst, sym, AllocError, Drains, AllZip, Box, Dimension, chunks_in, IsPart, IsPlan, Part}
use Rattle.std.proofs.lemmas.Slice.Zip.{all_zipped_more}
use Rattle.std.specs.Iterator.{Yields}
use Rattle.zarrs_chunk_parts.specs.Plan.{Covers}
use Rattle.zarrs_chunk_plan.specs.declared.read.walk.Parts.{Parts}
use Rattle.zarrs_chunk_plan.specs.seen.Parts.{ArePartsToCome, GivesPart, IsAbout, IsPlanned, MeetSubset, chunks_to_come}
use Rattle.zarrs_chunk_plan.proofs.Plans.{meet_each}

-- one more came, of those that were left
pub one_came : {X Y : Type 0} (R : X → Y → Type 0) (all came before after : List X) (x : X) (y : Y) (ys more : List Y) → all ≡ came ++ before
    → before ≡ x ∷ after → AllZip R came ys → R x y → more ≡ ys ++ y ∷ []
    → (came_after : List X) × (all ≡ came_after ++ after) × AllZip R came_after more
one_came R all came before after x y ys more left gives are is longer = (
  came ++ x ∷ [],
  left ∙ ap (λ xs. came ++ xs) gives ∙ sym (append_assoc came (x ∷ []) after),
  rw longer (all_zipped_more R came ys x y are is),
)

-- what a walk gives up to its end is all, where what came is known of each walk, and at the end is all
module _ {W Y : Type 0} (Gives : W → Option (Result Y AllocError) → W → Type 0) (HaveCome : W → List Y → Type 0) (AreAll : List Y → Type 0)
    (one_more : (before after : W) (y : Y) (ys more : List Y) → HaveCome before ys → Gives before (Some (Ok y)) after → more ≡ ys ++ y ∷ []
    → HaveCome after more)
    (at_last : (before after : W) (ys : List Y) → HaveCome before ys → Gives before None after → AreAll ys) where
  up_to_end : (now last end : W) (came given : List Y) → HaveCome now came → Yields Gives now (map Ok given) last → Gives last None end
      → AreAll (came ++ given)
  up_to_end now last end came [] have same stops =
      subst AreAll (sym (append-nil came)) (at_last now end came have (subst (λ walk. Gives walk None end) (sym same) stops))
  up_to_end now last end came (y ∷ given) have (after, gives, rest) stops =
      let more = came ++ y ∷ [] in
      subst AreAll (append_assoc came (y ∷ []) given) (up_to_end after last end more given (one_more now after y came more have gives refl) rest stops)

  pub all_given : (begin : W) (given : List Y) → HaveCome begin [] → Drains Gives begin (map Ok given) → AreAll given
  all_given begin given first (end, (last, yields, stops)) = up_to_end begin last end [] given first yields stops

module _ {G E : Type 0} (dimensions : G → List Dimension) (is_key : E → List ℕ → List ℕ → Type 0) (begin : Parts G E) where
  abbrev pub IsPartOf : List ℕ → Part → Type 0
  IsPartOf = IsPart (dimensions begin.grid.now) (is_key begin.encoding.now) begin.array_subset

  -- these chunks came, of which these are the parts
  abbrev pub HaveCome : Parts G E → List Part → Type 0
  HaveCome now parts = (came : List (List ℕ)) × (chunks_to_come begin ≡ came ++ chunks_to_come now) × AllZip IsPartOf came parts
      × IsAbout begin.grid.now begin.encoding.now begin.array_subset now × MeetSubset dimensions now

  pub at_first : (now : Parts G E) (parts : List Part) → now ≡ begin → parts ≡ [] → MeetSubset dimensions begin → HaveCome now parts
  at_first now parts same none meet = rw (same, none) ([], refl, tt, record { same_grid = refl; same_encoding = refl; same_subset = refl }, meet)

  pub one_more : (before after : Parts G E) (part : Part) (parts more : List Part) → HaveCome before parts
      → GivesPart dimensions is_key before (Some (Ok part)) after → more ≡ parts ++ part ∷ [] → HaveCome after more
  one_more before after part parts more (came, left, are, about, meet) gives is =
      let (now_came, all, now_are) = one_came IsPartOf (chunks_to_come begin) came (chunks_to_come before) (chunks_to_come after) part.chunk.items
      part parts more left gives.gives are (rw (← about.same_grid, ← about.same_encoding, ← about.same_subset) (gives.part meet)) is
      in
      (now_came, all, now_are, rw (about.same_grid, about.same_encoding, about.same_subset) at gives.about, gives.meet meet)

  pub at_last : (before after : Parts G E) (parts : List Part) → HaveCome before parts → GivesPart dimensions is_key before None after
      → ArePartsToCome dimensions is_key begin parts
  at_last before after parts (came, left, are, about, meet) gives =
      subst (λ chunks. AllZip IsPartOf chunks parts) (sym (left ∙ ap (λ xs. came ++ xs) gives.gives.0 ∙ append-nil came)) are

  -- so what a walk gives up to its end are the parts to come
  pub all_to_come : (given : List Part) → MeetSubset dimensions begin → Drains (GivesPart dimensions is_key) begin (map Ok given)
      → ArePartsToCome dimensions is_key begin given
  all_to_come given meet =
      all_given (GivesPart dimensions is_key) HaveCome (ArePartsToCome dimensions is_key begin) one_more at_last begin given
      (at_first begin [] refl refl meet)

-- a walk that has to give a plan comes by chunks that hold elements of the box
pub planned_meet : {G E : Type 0} (dimensions : G → List Dimension) (grid : G) (encoding : E) (subset : Box) (walk : Parts G E)
    → IsPlanned dimensions grid encoding subset walk → MeetSubset dimensions walk
planned_meet dimensions grid encoding subset walk planned =
    let about = planned.about in rw (about.same_grid, about.same_subset, planned.left) (meet_each planned.is_cover)

-- the parts of all chunks of the cover are a plan
pub plan_of : {G E : Type 0} (dimensions : G → List Dimension) (is_key : E → List ℕ → List ℕ → Type 0) (grid : G) (encoding : E) (subset cover : Box)
    (walk : Parts G E) (all : List Part) → IsAbout grid encoding subset walk → Covers (dimensions grid) subset cover
    → chunks_to_come walk ≡ chunks_in cover → ArePartsToCome dimensions is_key walk all → IsPlan (dimensions grid) (is_key encoding) subset all
plan_of dimensions is_key grid encoding subset cover walk all about is left are =
    record { cover = cover; is_cover = is; are_parts = rw (← left, ← about.same_grid, ← about.same_encoding, ← about.same_subset) are }
