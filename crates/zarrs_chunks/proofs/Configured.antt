-- Grids of a configuration, and the configuration of a grid.
use Rattle.std.proofs.Common.{◌≡◌, ℕ, List, [], ◌∷◌, length, map, Result, Ok, Err, IfOk, sym, ap, subst, ◌∙◌}
use Rattle.std.specs.List.{AllByRecursion}
use Rattle.std.specs.Int.NonZero.{non_zero_u64_get}
use Rattle.std.specs.declared.alloc.AllocError.{AllocError}
use Rattle.std.specs.declared.num.NonZeroU64.{NonZeroU64}
use Rattle.std.proofs.lemmas.List.{length-map}
use Rattle.serde_json.specs.Data.{Members}
use Rattle.zarrs_chunk_base.specs.Configuration.{IsConfiguration}
use Rattle.zarrs_chunk_base.specs.Dimension.{Dimension, InEach}
use Rattle.zarrs_chunk_base.specs.DimensionEdges.{DimensionEdges, equal}
use Rattle.zarrs_chunk_base.proofs.InEach.{length_numbers, length_values}
use Rattle.zarrs_chunk_base.specs.Kinds.{IsConfigurationOf, Kind}
use Rattle.zarrs_chunks.specs.GridKinds.{AreOfOneLength}

module _ {X : Type 0} (R : Dimension → ℕ → X → Type 0) where
  -- the array shape, of which dimensions were made by way of a copy, is as long as the values
  pub are_of_one_length : (ds : List Dimension) (copy shape : List ℕ) (xs : List X) → InEach R ds copy xs → copy ≡ shape → length xs ≡ length shape
  are_of_one_length ds copy shape xs made copied = length_values R ds copy xs made ∙ sym (length_numbers R ds copy xs made) ∙ ap length copied

-- edges that tell those of axes are as many as the axes' array sizes
pub told_lengths : {A : Type 0} (dimension : A → Dimension) (edges_of_axis : A → DimensionEdges) (edges : List NonZeroU64) (axes : List A)
    → map (λ e. equal (non_zero_u64_get e)) edges ≡ map edges_of_axis axes
    → AreOfOneLength (map (λ d. d.array_size) (map dimension axes)) (map non_zero_u64_get edges)
told_lengths dimension edges_of_axis edges axes told =
    length-map edges non_zero_u64_get ∙ sym (length-map edges (λ e. equal (non_zero_u64_get e))) ∙ ap length told ∙ length-map axes edges_of_axis
    ∙ sym (length-map (map dimension axes) (λ d. d.array_size) ∙ length-map axes dimension)

-- the members that are written of what something was made of are a configuration of it
pub is_written : {G M C : Type 0} (kind : Kind G M) (members : C → Members) (answer : Result C AllocError) (given : G) (made : M) (x : kind.Said)
    → IfOk answer (λ c. members c ≡ kind.written x) → IfOk answer (λ c. IsConfiguration kind.table kind.value (members c) x)
    → kind.accepts given x → kind.makes made given x → kind.is_written x → IfOk answer (λ c. IsConfigurationOf kind given made (members c))
is_written kind members (Ok c) given made x written reads_back accepted makes form = (x, accepted, makes, form, written, reads_back)
is_written kind members (Err _) given made x written reads_back accepted makes form = tt

-- what is related to what values stand for
pub unmapped : {X Y : Type 0} (f : X → Y) (R : Dimension → ℕ → Y → Type 0) (ds : List Dimension) (numbers : List ℕ) (xs : List X)
    → InEach R ds numbers (map f xs) → InEach (λ d n x. R d n (f x)) ds numbers xs
unmapped f R [] [] [] h = tt
unmapped f R (d ∷ ds) (n ∷ numbers) (x ∷ xs) h = (h.0, unmapped f R ds numbers xs h.1)
unmapped f R _ _ _ h = absurd h

-- dimensions that are made of array sizes and equal edges, from the edges that a grid tells
pub of_one_edge : (R : Dimension → ℕ → DimensionEdges → Type 0) (ds : List Dimension) (shape edges : List ℕ) (told : List DimensionEdges)
    → InEach R ds shape told → told ≡ map equal edges → InEach (λ d size edge. R d size (equal edge)) ds shape edges
of_one_edge R ds shape edges told made same = unmapped equal R ds shape edges (subst (InEach R ds shape) same made)

-- what is said of each value is said of what it stands for
pub all_seen : {A B : Type 0} (f : A → B) (P : B → Type 0) (xs : List A) → AllByRecursion (λ x. P (f x)) xs → AllByRecursion P (map f xs)
all_seen f P [] h = tt
all_seen f P (x ∷ xs) h = (h.0, all_seen f P xs h.1)
