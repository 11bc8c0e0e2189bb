-- Grids of like dimensions answer alike.
use Rattle.std.proofs.Common.{◌≡◌, ◌∙◌, ℕ, ◌+◌, ◌-◌, ◌&&◌, ◌<◌, ◌≤◌, Bool, true, false, cond, List, [], ◌∷◌, length, map, nat_le, Some, None, Result}
use Rattle.std.proofs.Common.{Ok, Err, sym, refl, ap, ap₂, subst, arith, ⊎_elim, inl, inr}
use Rattle.std.proofs.lemmas.List.Elements.{length_all_zip}
use Rattle.std.specs.List.{AllByRecursion}
use Rattle.zarrs_chunk_base.specs.ArraySubset.{Box, lasts, zero_box}
use Rattle.zarrs_chunk_base.specs.declared.refusal.Refusal.TheVariants.{Refused, Memory}
use Rattle.zarrs_chunk_base.specs.Dimension.{Dimension, EndsAt, HasEdge, Holds, InBox, InEach, IsChain, IsChunk, IsEnd, IsOrigin, IsPlace, IsShape}
use Rattle.zarrs_chunk_base.specs.Dimension.{StartsAt, array_sizes, grid_sizes}
use Rattle.zarrs_chunk_base.specs.Greatest.{greatest}
use Rattle.zarrs_chunk_axes.specs.InBounds.{AreBelow}
use Rattle.zarrs_chunk_axes.specs.LookUp.{AnswersHome}
use Rattle.zarrs_chunk_axes.specs.RowMajor.{row_major}
use Rattle.zarrs_chunk_base.specs.declared.incompatible_dimensionality_error.IncompatibleDimensionalityError.{IncompatibleDimensionalityError}
use Rattle.zarrs_chunk_base.specs.declared.refusal.Refusal.{Refusal}
use Rattle.zarrs_chunk_base.proofs.Copies.{all_equal}
use Rattle.zarrs_chunk_axes.proofs.RowMajor.{all_below}
use Rattle.zarrs_chunk_axes.proofs.EachAxis.{answers_storing_weaker, answers_weaker}
use Rattle.zarrs_chunks.specs.Alike.{AnswerAlike, AreAlike, AreAllAlike, chunk_and_box, chunks_and_boxes}
use Rattle.zarrs_chunks.specs.Subsets.{AnswersEmptyCover, HasNoBox, HasNoHome, IsCover, LookedBox, Spans}
use Rattle.zarrs_chunks.specs.Walks.{boxed, chunks_of, ends_within, lengths_at, starts_at}

-- ---- either way round

alike_back : (d e : Dimension) → AreAlike d e → AreAlike e d
alike_back d e alike = record {
  array_size = sym alike.array_size;
  grid_size = sym alike.grid_size;
  chunks = λ c. ((alike.chunks c).1, (alike.chunks c).0);
  start = λ c has. sym (alike.start c ((alike.chunks c).1 has));
  end = λ c has. sym (alike.end c ((alike.chunks c).1 has));
}

all_back : (ds es : List Dimension) → AreAllAlike ds es → AreAllAlike es ds
all_back [] [] alike = tt
all_back (d ∷ ds) (e ∷ es) alike = (alike_back d e alike.0, all_back ds es alike.1)
all_back _ _ alike = absurd alike

-- ---- what is so of the one list is so of the other

same_length : (ds es : List Dimension) → AreAllAlike ds es → length ds ≡ length es
same_length = length_all_zip AreAlike

-- sizes that like dimensions share
array_shapes_alike : (ds es : List Dimension) → AreAllAlike ds es → array_sizes ds ≡ array_sizes es
array_shapes_alike ds es alike = sym (all_equal (λ d. d.array_size) AreAlike (λ d e alike. sym alike.array_size) ds es alike)

grid_shapes_alike : (ds es : List Dimension) → AreAllAlike ds es → grid_sizes ds ≡ grid_sizes es
grid_shapes_alike ds es alike = sym (all_equal (λ d. d.grid_size) AreAlike (λ d e alike. sym alike.grid_size) ds es alike)

-- what is so in each dimension
each_alike : {X : Type 0} (R : Dimension → ℕ → X → Type 0) → ((d e : Dimension) (c : ℕ) (x : X) → AreAlike d e → R d c x → R e c x)
    → (ds es : List Dimension) → AreAllAlike ds es → (chunk : List ℕ) (xs : List X) → InEach R ds chunk xs → InEach R es chunk xs
each_alike R each [] [] alike chunk xs h = h
each_alike R each (d ∷ ds) (e ∷ es) alike (c ∷ chunk) (x ∷ xs) h = (each d e c x alike.0 h.0, each_alike R each ds es alike.1 chunk xs h.1)
each_alike R each (d ∷ ds) (e ∷ es) alike _ _ h = absurd h
each_alike R each _ _ alike chunk xs h = absurd alike

module _ (ds es : List Dimension) (alike : AreAllAlike ds es) where
  box_alike : (chunk index : List ℕ) → InBox ds chunk index → InBox es chunk index
  box_alike = each_alike Holds holds ds es alike where
    holds : (d e : Dimension) (c i : ℕ) → AreAlike d e → Holds d c i → Holds e c i
    holds d e c i alike h = record {
      chunk = (alike.chunks c).0 h.chunk;
      from = subst (λ n. n ≤ i) (alike.start c h.chunk) h.from;
      below = subst (λ n. i < n) (alike.end c h.chunk) h.below;
    }

  origin_alike : (chunk origin : List ℕ) → IsOrigin ds chunk origin → IsOrigin es chunk origin
  origin_alike =
      each_alike StartsAt
      (λ d e c o alike h. record { chunk = (alike.chunks c).0 h.chunk; start = sym (alike.start c h.chunk) ∙ h.start }) ds es alike

  end_alike : (chunk end : List ℕ) → IsEnd ds chunk end → IsEnd es chunk end
  end_alike = each_alike EndsAt
      (λ d e c o alike h. record { chunk = (alike.chunks c).0 h.chunk; end = sym (alike.end c h.chunk) ∙ h.end }) ds es alike

  shape_alike : (chunk shape : List ℕ) → IsShape ds chunk shape → IsShape es chunk shape
  shape_alike = each_alike HasEdge edge ds es alike where
    edge : (d e : Dimension) (c s : ℕ) → AreAlike d e → HasEdge d c s → HasEdge e c s
    edge d e c s alike h = record {
      chunk = (alike.chunks c).0 h.chunk;
      edge =
          let from = alike.start c h.chunk in
          let to = alike.end c h.chunk in
          let long = h.edge in
          omega arith;
    }

  spans_alike : (first last : List ℕ) (b : Box) → Spans ds first last b → Spans es first last b
  spans_alike first last b spans = record {
    is_box = spans.is_box;
    start = origin_alike first b.start spans.start;
    end = end_alike last _ spans.end;
  }

  cover_alike : (b cover : Box) → IsCover ds b cover → IsCover es b cover
  cover_alike b cover is = record {
    is_box = is.is_box;
    some = is.some;
    first = box_alike cover.start b.start is.first;
    last = box_alike _ _ is.last;
  }

chunk_alike : (ds es : List Dimension) → AreAllAlike ds es → (chunk : List ℕ) → IsChunk ds chunk → IsChunk es chunk
chunk_alike [] [] alike chunk h = h
chunk_alike (d ∷ ds) (e ∷ es) alike (c ∷ chunk) h = ((alike.0.chunks c).0 h.0, chunk_alike ds es alike.1 chunk h.1)
chunk_alike (d ∷ ds) (e ∷ es) alike [] h = absurd h
chunk_alike _ _ alike chunk h = absurd alike

-- a place in a chunk that holds the index
place_alike : (ds es : List Dimension) → AreAllAlike ds es → (chunk index place : List ℕ) → InBox ds chunk index → IsPlace ds chunk index place
    → IsPlace es chunk index place
place_alike [] [] alike chunk index place box h = h
place_alike (d ∷ ds) (e ∷ es) alike (c ∷ chunk) (i ∷ index) (p ∷ place) box h =
    (subst (λ n. n + p ≡ i) (alike.0.start c box.0.chunk) h.0, place_alike ds es alike.1 chunk index place box.1 h.1)
place_alike (d ∷ ds) (e ∷ es) alike _ _ _ box h = absurd h
place_alike _ _ alike chunk index place box h = absurd alike

no_home_alike : (ds es : List Dimension) → AreAllAlike ds es → (index : List ℕ) → HasNoHome ds index → HasNoHome es index
no_home_alike ds es alike index none chunk box = none chunk (box_alike es ds (all_back ds es alike) chunk index box)

no_box_alike : (ds es : List Dimension) → AreAllAlike ds es → (chunk : List ℕ) → HasNoBox ds chunk → HasNoBox es chunk
no_box_alike ds es alike chunk none b spans = none b (spans_alike es ds (all_back ds es alike) chunk chunk b spans)

empty_cover_alike : (ds es : List Dimension) → AreAllAlike ds es → (answer : LookedBox) → AnswersEmptyCover ds answer → AnswersEmptyCover es answer
empty_cover_alike ds es alike (Ok (Some cover)) is = is ∙ ap zero_box (same_length ds es alike)
empty_cover_alike ds es alike (Ok None) is = is
empty_cover_alike ds es alike (Err (Refused _)) is = is
empty_cover_alike ds es alike (Err (Memory _)) is = is

home_alike : (ds es : List Dimension) → AreAllAlike ds es
    → (index : List ℕ) (found : Result Bool (Refusal IncompatibleDimensionalityError)) (chunk place : List ℕ)
    → AnswersHome ds index found chunk place → AnswersHome es index found chunk place
home_alike ds es alike index (Ok true) chunk place h =
    let (same, box, at) = h in
    (same ∙ same_length ds es alike, box_alike ds es alike chunk index box, place_alike ds es alike chunk index place box at)
home_alike ds es alike index (Ok false) chunk place h = (h.0 ∙ same_length ds es alike, no_home_alike ds es alike index h.1)
home_alike ds es alike index (Err (Refused e)) chunk place h = rw (← same_length ds es alike) h
home_alike ds es alike index (Err (Memory e)) chunk place h = rw (← same_length ds es alike) h

-- ---- the walks

chunks_alike : (ds es : List Dimension) → AreAllAlike ds es → chunks_of ds ≡ chunks_of es
chunks_alike ds es alike = ap row_major (grid_shapes_alike ds es alike)

-- a counted chunk has the same box, and that box ends within the numbers or doesn't
record IsBoxedAlike (ds es : List Dimension) (chunk : List ℕ) : Type 0 where
  starts : starts_at ds chunk ≡ starts_at es chunk
  lengths : lengths_at ds chunk ≡ lengths_at es chunk
  within : ends_within ds chunk ≡ ends_within es chunk

boxed_alike : (ds es : List Dimension) → AreAllAlike ds es → AllByRecursion IsChain ds → (chunk : List ℕ) → AreBelow (map (λ d. d.grid_size) ds) chunk
    → IsBoxedAlike ds es chunk
boxed_alike [] [] alike chains chunk below = record { starts = refl; lengths = refl; within = refl }
boxed_alike (d ∷ ds) (e ∷ es) alike chains (c ∷ chunk) below =
    let has = chains.0.counted c below.0 in
    let start : d.start c ≡ e.start c = alike.0.start c has in
    let end : d.end c ≡ e.end c = alike.0.end c has in
    let rest = boxed_alike ds es alike.1 chains.1 chunk below.1 in
    record {
      starts = ap₂ (λ n ns. n ∷ ns) start rest.starts;
      lengths = ap₂ (λ n ns. n ∷ ns) (ap₂ (λ n m. n - m) end start) rest.lengths;
      within = ap₂ (λ n b. nat_le n greatest && b) end rest.within;
    }
boxed_alike (d ∷ ds) (e ∷ es) alike chains [] below = absurd below
boxed_alike _ _ alike chains chunk below = absurd alike

-- so the chunks that have a box are the same, and so is each with its box
module _ (ds es : List Dimension) (alike : AreAllAlike ds es) (chains : AllByRecursion IsChain ds) where
  with_box_alike : (chunk : List ℕ) → IsBoxedAlike ds es chunk → chunk_and_box ds chunk ≡ chunk_and_box es chunk
  with_box_alike chunk is = ap₂ (λ start shape. (chunk, record { start = start; shape = shape })) is.starts is.lengths

  with_boxes_alike : (chunks : List (List ℕ)) → AllByRecursion (AreBelow (map (λ d. d.grid_size) ds)) chunks
      → map (chunk_and_box ds) (boxed ds chunks) ≡ map (chunk_and_box es) (boxed es chunks)
  with_boxes_alike [] below = refl
  with_boxes_alike (chunk ∷ chunks) below =
      let is = boxed_alike ds es alike chains chunk below.0 in
      with_head (ends_within ds chunk) (ends_within es chunk) is.within (with_box_alike chunk is) (with_boxes_alike chunks below.1) where
        with_head : (a b : Bool) → a ≡ b → chunk_and_box ds chunk ≡ chunk_and_box es chunk
            → map (chunk_and_box ds) (boxed ds chunks) ≡ map (chunk_and_box es) (boxed es chunks)
            → map (chunk_and_box ds) (cond a (chunk ∷ boxed ds chunks) (boxed ds chunks))
            ≡ map (chunk_and_box es) (cond b (chunk ∷ boxed es chunks) (boxed es chunks))
        with_head true b same head rest = rw (← same) (ap₂ (λ x xs. x ∷ xs) head rest)
        with_head false b same head rest = rw (← same) rest

  walks_alike : chunks_and_boxes ds ≡ chunks_and_boxes es
  walks_alike =
      with_boxes_alike (chunks_of ds) (all_below (map (λ d. d.grid_size) ds))
      ∙ ap (λ chunks. map (chunk_and_box es) (boxed es chunks)) (chunks_alike ds es alike)

-- ---- all of it

pub answer_alike : (ds es : List Dimension) → AreAllAlike ds es → AllByRecursion IsChain ds → AnswerAlike ds es
answer_alike ds es alike chains =
    let back = all_back ds es alike in
    let same = same_length ds es alike in
    record {
      array_shape = array_shapes_alike ds es alike;
      grid_shape = grid_shapes_alike ds es alike;
      chunk_shape = λ chunk answer.
          answers_weaker (length chunk) (length ds) (length es) _ _ _ _ answer same (λ shape is. shape_alike ds es alike chunk _ is)
          (λ none is. none (chunk_alike es ds back chunk is));
      chunk_shape_u64 = λ chunk answer.
          answers_weaker (length chunk) (length ds) (length es) _ _ _ _ answer same (λ shape is. shape_alike ds es alike chunk _ is)
          (λ none is. none (chunk_alike es ds back chunk is));
      chunk_origin = λ chunk answer.
          answers_weaker (length chunk) (length ds) (length es) _ _ _ _ answer same (λ origin is. origin_alike ds es alike chunk _ is)
          (λ none origin is. none origin (origin_alike es ds back chunk origin is));
      chunk_indices = λ index answer.
          answers_weaker (length index) (length ds) (length es) _ _ _ _ answer same (λ chunk is. box_alike ds es alike _ index is)
          (no_home_alike ds es alike index);
      chunk_element_indices = λ index answer.
          answers_weaker (length index) (length ds) (length es) _ _ _ _ answer same
          (λ place is. let (chunk, box, at) = is in (chunk, box_alike ds es alike chunk index box, place_alike ds es alike chunk index _ box at))
          (no_home_alike ds es alike index);
      find_home = home_alike ds es alike;
      subset = λ chunk answer.
          answers_weaker (length chunk) (length ds) (length es) _ _ _ _ answer same (λ b is. spans_alike ds es alike chunk chunk b is)
          (no_box_alike ds es alike chunk);
      chunks_subset = λ chunks answer.
          let last = lasts chunks.start chunks.shape in
          answers_storing_weaker (λ _. Unit {0}) (length chunks.start) (length ds) (length es) _ _ _ _ answer same
          (λ b is. (λ empty. is.0 empty ∙ ap zero_box same, λ some. spans_alike ds es alike chunks.start last b (is.1 some)))
          (λ none.
          (none.0, ⊎_elim (λ first. inl (no_box_alike ds es alike chunks.start first)) (λ end. inr (no_box_alike ds es alike last end)) none.1));
      cover = λ b answer.
          answers_storing_weaker (λ _. Unit {0}) (length b.start) (length ds) (length es) _ _ _ _ answer same
          (λ cover is. cover_alike ds es alike b cover is)
          (⊎_elim (λ first. inl (no_home_alike ds es alike b.start first)) (λ last. inr (no_home_alike ds es alike (lasts b.start b.shape) last)));
      empty_cover = empty_cover_alike ds es alike;
      walk = chunks_alike ds es alike;
      walk_of_boxes = walks_alike ds es alike chains;
    }
