-- Lists of stages and of intermediate arrays, one more at a time.
use Rattle.programs.proofs.chunkplan.Common.{◌≡◌, ◌∙◌, ℕ, ◌+◌, ◌<◌, List, [], ◌∷◌, ◌++◌, AllZip, ap, get_or, length, map, map-append, sym, take}
use Rattle.programs.proofs.chunkplan.Common.{append_assoc, drop, drop_more, product, take_more, Some, None, Box, Order, ◌*◌}
use Rattle.programs.proofs.chunkplan.Common.{arith, suc, AllZip-long, Contains}
use Rattle.std.proofs.lemmas.List.{get_or-map, length-map}
use Rattle.std.proofs.lemmas.List.Elements.{Contains-get_or}
use Rattle.std.proofs.lemmas.Slice.Zip.{all_zipped_more}
use Rattle.zarrs_chunk_plan.specs.ArrayBoxes.{array_box}
use Rattle.zarrs_chunk_base.specs.Grid.{Grid}
use Rattle.zarrs_chunk_keys.specs.ChunkKey.{Encoding}
use Rattle.programs.specs.chunkplan.Stages.{Stage, intermediate_keys, staged}
use Rattle.programs.proofs.chunkplan.Digits.{product_pushed}

-- the first k of a list, and one more
pub one_more_taken : {X Y : Type 0} (f : X → Y) (xs : List X) (k : ℕ) (x : X) → k < length xs → x ≡ get_or xs k x
    → map f (take (k + 1) xs) ≡ map f (take k xs) ++ f x ∷ []
one_more_taken f xs k x within is =
    ap (map f) (take_more xs k x within) ∙ map-append f (take k xs) (get_or xs k x ∷ []) ∙ ap (λ y. map f (take k xs) ++ f y ∷ []) (sym is)

-- those from k on, and the first of them
pub first_dropped : {X Y : Type 0} (f : X → Y) (xs : List X) (k : ℕ) (x : X) → k < length xs → x ≡ get_or xs k x
    → map f (drop k xs) ≡ f x ∷ map f (drop (k + 1) xs)
first_dropped f xs k x within is =
    ap (map f) (drop_more xs k x within) ∙ ap (λ y. f y ∷ map f (drop (k + 1) xs)) (sym is)

-- what is tied stays tied, with one more of each
pub one_more_tied : {X Y Z W : Type 0} (R : Y → W → Type 0) (f : X → Y) (g : Z → W) (xs : List X) (zs : List Z) (k : ℕ) (x : X) (z : Z)
    → k < length xs → x ≡ get_or xs k x → AllZip R (map f (take k xs)) (map g zs) → R (f x) (g z)
    → AllZip R (map f (take (k + 1) xs)) (map g (zs ++ z ∷ []))
one_more_tied R f g xs zs k x z within is all here =
    rw (one_more_taken f xs k x within is, map-append g zs (z ∷ [])) (all_zipped_more R (map f (take k xs)) (map g zs) (f x) (g z) all here)

-- the product of the numbers of the first k, and of one more
pub counts_taken : {X : Type 0} (f : X → ℕ) (xs : List X) (k : ℕ) → k < length xs → (x : X) (n : ℕ) → n ≡ f (get_or xs k x) → (all : ℕ)
    → all ≡ n * product (map f (take k xs)) → all ≡ product (map f (take (k + 1) xs))
counts_taken f xs k within x n is all both =
    both ∙ ap (λ m. m * product (map f (take k xs))) is ∙ sym (product_pushed (map f (take k xs)) (f (get_or xs k x)))
    ∙ ap product (sym (ap (map f) (take_more xs k x within) ∙ map-append f (take k xs) (get_or xs k x ∷ [])))

-- the stages so far, and those from an array on; with the next of them, and with the last
module _ (order : Order) (source target : Grid × Encoding) (left : Box) (at : List ℕ) (between : List (Grid × List ℕ)) (each : List (List ℕ))
    (begun all : List Stage) (are : begun ++ staged order source target left at between each ≡ all) where
  pub one_more_stage : (next : Grid × List ℕ) (others : List (Grid × List ℕ)) (first : List ℕ) (rest : List (List ℕ)) → between ≡ next ∷ others
      → each ≡ first ∷ rest → (to : Grid × Encoding) (whole : Box) (start : List ℕ) → start ≡ whole.start → whole ≡ array_box next.0.dimensions
      → to ≡ (next.0, intermediate_keys)
      → (begun ++ record { source = source; target = to; region = left; at = start; order = order; each = first; intermediate = Some next.1 } ∷ [])
      ++ staged order to target whole at others rest ≡ all
  one_more_stage next others first rest is_between is_each to whole start is_start is_whole is_to =
      rw (is_start, is_whole, is_to)
      (append_assoc begun (_ ∷ []) (staged order (next.0, intermediate_keys) target (array_box next.0.dimensions) at others rest)
      ∙ (rw (is_between, is_each) at are))

  pub last_stage : (last : List ℕ) (rest : List (List ℕ)) → between ≡ [] → each ≡ last ∷ rest
      → begun ++ record { source = source; target = target; region = left; at = at; order = order; each = last; intermediate = None } ∷ [] ≡ all
  last_stage last rest is_between is_each = rw (is_between, is_each) at are

-- ---- lengths, and what is among the mapped

pub contained_mapped : {X Y : Type 0} (f : X → Y) (xs : List X) (k : ℕ) (x : X) → k < length xs → x ≡ get_or xs k x → Contains (map f xs) (f x)
contained_mapped f xs k x within is =
    let same : get_or (map f xs) k (f x) ≡ f x = get_or-map f xs k x (f x) within ∙ ap f (sym is) in
    let all : length (map f xs) ≡ length xs = length-map xs f in
    let has : Contains (map f xs) (get_or (map f xs) k (f x)) = Contains-get_or (map f xs) k (f x) (omega (arith, within, all)) in
    rw same at has

-- a list for each stage, and an array between each two
pub route_lengths : {E S C I Y W Z : Type 0} (R : Y → W → Type 0) (f : E → Z) (g : S → Z) (h : C → Y) (j : I → W) (each : List E) (tasks : List S)
    (chunks : List C) (between : List I) → map f each ≡ map g tasks → AllZip R (map h chunks) (map j between) → length tasks ≡ suc (length chunks)
    → length each ≡ suc (length between)
route_lengths R f g h j each tasks chunks between same all many =
    sym (length-map each f) ∙ ap length same ∙ length-map tasks g ∙ many
    ∙ ap suc (sym (length-map chunks h) ∙ sym (AllZip-long R (map h chunks) (map j between) all) ∙ length-map between j)
