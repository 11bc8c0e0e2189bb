-- Copies that stand for the same.
use Rattle.std.proofs.Common.{◌≡◌, List, [], ◌∷◌, map, String, Global, string_bytes, refl, ap}
use Rattle.std.specs.List.{AllZip}
use Rattle.serde_json.specs.View.{members_view, view}
use Rattle.serde_json.specs.declared.value.Value.{Value}
use Rattle.zarrs_chunk_base.specs.declared.chunk_edge_lengths.ChunkEdgeLengths.{ChunkEdgeLengths}
use Rattle.zarrs_chunk_base.specs.declared.chunk_edge_lengths.ChunkEdgeLengths.TheVariants.{Scalar, Varying}
use Rattle.zarrs_chunk_base.specs.RunLength.{IsSameChunkEdgeLengths, lengths_of, element_of, varying}

-- copies, each of which stands for the same as what it is a copy of, stand for the same list
pub all_equal : {A B : Type 0} (f : A → B) (IsCopy : A → A → Type 0) → ((x y : A) → IsCopy x y → f y ≡ f x) → (xs ys : List A)
    → AllZip IsCopy xs ys → map f ys ≡ map f xs
all_equal f IsCopy same [] [] h = refl
all_equal f IsCopy same (x ∷ xs) (y ∷ ys) h =
    let first = same x y h.0 in
    let rest = all_equal f IsCopy same xs ys h.1 in
    cc
all_equal f IsCopy same _ _ h = absurd h

-- copies and originals, told of the other way round
pub originals : {A : Type 0} (IsCopy : A → A → Type 0) (xs ys : List A) → AllZip (λ x y. IsCopy y x) xs ys → AllZip IsCopy ys xs
originals IsCopy [] [] h = h
originals IsCopy (x ∷ xs) (y ∷ ys) h = (h.0, originals IsCopy xs ys h.1)
originals IsCopy _ _ h = absurd h

-- the same edge or the same elements stand for the same
pub same_lengths : (lengths copy : ChunkEdgeLengths) → IsSameChunkEdgeLengths copy lengths → lengths_of copy ≡ lengths_of lengths
same_lengths (Scalar edge) (Scalar other) same = rw same refl
same_lengths (Varying elements) (Varying others) same = ap (λ es. varying (map element_of es)) same
same_lengths _ _ same = absurd same

-- copies of members, each with an equal name and an equal value
pub copied_members : (es fs : List (String Global × Value)) → AllZip (λ p q. (string_bytes q.0 ≡ string_bytes p.0) × (view q.1 ≡ view p.1)) es fs
    → members_view fs ≡ members_view es
copied_members [] [] h = refl
copied_members (e ∷ es) (f ∷ fs) h =
    let name = h.0.0 in
    let value = h.0.1 in
    let rest = copied_members es fs h.1 in
    cc
copied_members _ _ h = absurd h
