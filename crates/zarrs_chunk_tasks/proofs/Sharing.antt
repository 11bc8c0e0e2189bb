-- The groups to come of a walk that goes to others: they are some of all groups.
use Rattle.std.proofs.Common.{◌≡◌, ◌⊎◌, ℕ, List, Result, Ok, Err, drop, inl, inr, subst, sym, ⊎_elim}
use Rattle.std.specs.Prelude.{OnErr, OnOk}
use Rattle.std.proofs.lemmas.List.Elements.{All-drop, All-from_recursion, recursion_from_All}
use Rattle.std.specs.List.{AllByRecursion}
use Rattle.zarrs_chunk_plan.specs.declared.shares.chunk_iter.ChunkIter.{ChunkIter}
use Rattle.zarrs_chunk_plan.specs.seen.ChunkIter.{chunks_between}

either_way : {X E : Type 0} (A B : Type 0) (r : Result X E) → OnOk r A → OnErr r B → A ⊎ B
either_way A B (Ok _) done failed = inl done
either_way A B (Err _) done failed = inr failed

-- what holds of those to come, and of some, holds of those to come of a walk that goes to these, or stays where it is
pub hold_after : {X E : Type 0} (P : List ℕ → Type 0) (r : Result X E) (before after : ChunkIter) (some : List (List ℕ))
    → AllByRecursion P (chunks_between before) → AllByRecursion P some → OnOk r (chunks_between after ≡ some) → OnErr r (after ≡ before)
    → AllByRecursion P (chunks_between after)
hold_after P r before after some holds_before holds_some went stayed =
    ⊎_elim (λ is. subst (AllByRecursion P) (sym is) holds_some) (λ is. subst (λ walk. AllByRecursion P (chunks_between walk)) (sym is) holds_before)
    (either_way _ _ r went stayed)

pub all_dropped : {X : Type 0} (P : X → Type 0) (k : ℕ) (xs : List X) → AllByRecursion P xs → AllByRecursion P (drop k xs)
all_dropped P k xs all = recursion_from_All P (drop k xs) (All-drop P k xs (All-from_recursion P xs all))
