-- What a search of one dimension after the other adds to a count of comparisons.
use Rattle.std.proofs.Common.{◌≡◌, ℕ, zero, suc, ◌+◌, ◌≤◌, List, [], ◌∷◌, inl, inr, length, take, refl, add-one, arith}
use Rattle.std.proofs.lemmas.List.Sums.{sum_by-cons}
use Rattle.std.specs.List.{AllZip, sum}
use Rattle.zarrs_chunk_base.specs.Dimension.{Dimension, InBox}
use Rattle.zarrs_chunk_base.specs.DimensionEdges.{DimensionEdges, equal, listed}
use Rattle.zarrs_chunk_axes.specs.Counted.{AreCounted, AreSearchedInOrder, HasOneForEach, IsSearchBound, listed_dimensions}
use Rattle.zarrs_chunk_axes.specs.seen.Searched.{AreSearched, IsSearched}

-- where no dimension is left
pub at_end : (ds : List Dimension) (edges : List DimensionEdges) (index : List ℕ) (n : ℕ) → length ds ≡ 0 → length edges ≡ 0 → length index ≡ 0
    → AreSearched ds edges index n n
at_end [] [] [] n no_dimensions no_edges no_numbers = refl
at_end (_ ∷ _) _ _ n no_dimensions no_edges no_numbers = absurd (omega arith)
at_end [] (_ ∷ _) _ n no_dimensions no_edges no_numbers = absurd (omega arith)
at_end [] [] (_ ∷ _) n no_dimensions no_edges no_numbers = absurd (omega arith)

-- a count that stays
stays : (edges : List DimensionEdges) (before after : ℕ) → before ≡ after → AreCounted edges before after
stays edges before after same = record { grows = omega arith; at_most = λ most h. omega arith; stays = λ h. omega arith }

-- a dimension, and those after it
counted_more : (e : DimensionEdges) (edges : List DimensionEdges) (before between after : ℕ) → IsSearched e before between
    → AreCounted edges between after → AreCounted (e ∷ edges) before after
counted_more e edges before between after here rest = record {
  grows = omega (arith, here.grows, rest.grows);
  at_most = at_most;
  stays = λ h. rest.stays (here.stays h);
} where
  at_most : (most : List ℕ) → AllZip IsSearchBound (e ∷ edges) most → after ≤ before + sum most
  at_most [] h = absurd h
  at_most (m ∷ most) h = omega (arith, here.at_most m h.0, rest.at_most most h.1, sum_by-cons (λ x. x) m most)

one_more : (e : DimensionEdges) (edges : List DimensionEdges) (before between after : ℕ) → IsSearched e before between
    → between ≤ after → HasOneForEach edges between after → HasOneForEach (e ∷ edges) before after
one_more e edges before between after here grows rest = let own = split e in omega (arith, own, here.at_least, rest) where
  split : (e : DimensionEdges) → listed_dimensions (e ∷ edges) ≡ listed_dimensions (e ∷ []) + listed_dimensions edges
  split (equal edge) = omega arith
  split (listed es) = omega arith

-- each adds at most its bound
pub counted : (ds : List Dimension) (edges : List DimensionEdges) (index : List ℕ) (before after : ℕ) → AreSearched ds edges index before after
    → AreCounted edges before after
counted [] [] [] before after same = stays [] before after same
counted (d ∷ ds) (e ∷ edges) (i ∷ index) before after (between, here, inl (none, same)) =
    counted_more e edges before between after here (stays edges between after same)
counted (d ∷ ds) (e ∷ edges) (i ∷ index) before after (between, here, inr (c, holds, rest)) =
    counted_more e edges before between after here (counted ds edges index between after rest)
counted _ _ _ before after h = absurd h

-- those up to the first that doesn't hold the index add one each
at_least : (ds : List Dimension) (edges : List DimensionEdges) (index : List ℕ) (before after : ℕ) → AreSearched ds edges index before after
    → (n : ℕ) (chunk : List ℕ) → InBox (take n ds) chunk (take n index) → HasOneForEach (take (suc n) edges) before after
at_least [] [] [] before after same n chunk box = omega arith
at_least (d ∷ ds) (e ∷ edges) (i ∷ index) before after (between, here, inl (none, same)) zero chunk box =
    one_more e [] before between after here (omega arith) (omega arith)
at_least (d ∷ ds) (e ∷ edges) (i ∷ index) before after (between, here, inr (c, holds, rest)) zero chunk box =
    let grows = (counted ds edges index between after rest).grows in one_more e [] before between after here grows (omega arith)
at_least (d ∷ ds) (e ∷ edges) (i ∷ index) before after (between, here, more) (suc n) [] box = absurd box
at_least (d ∷ ds) (e ∷ edges) (i ∷ index) before after (between, here, inl (none, same)) (suc n) (c ∷ chunk) box = absurd (none c box.0)
at_least (d ∷ ds) (e ∷ edges) (i ∷ index) before after (between, here, inr (_, holds, rest)) (suc n) (c ∷ chunk) box =
    one_more e (take (suc n) edges) before between after here (counted ds edges index between after rest).grows
    (at_least ds edges index between after rest n chunk box.1)
at_least _ _ _ before after h n chunk box = absurd h

-- and later ones nothing
at_most : (ds : List Dimension) (edges : List DimensionEdges) (index : List ℕ) (before after : ℕ) → AreSearched ds edges index before after
    → (n : ℕ) → ((chunk : List ℕ) → ¬ InBox (take n ds) chunk (take n index)) → AreCounted (take n edges) before after
at_most [] [] [] before after same n none = stays (take n []) before after same
at_most (d ∷ ds) (e ∷ edges) (i ∷ index) before after h zero none = absurd (none [] tt)
at_most (d ∷ ds) (e ∷ edges) (i ∷ index) before after (between, here, inl (absent, same)) (suc n) none =
    counted_more e (take n edges) before between after here (stays (take n edges) between after same)
at_most (d ∷ ds) (e ∷ edges) (i ∷ index) before after (between, here, inr (c, holds, rest)) (suc n) none =
    counted_more e (take n edges) before between after here
    (at_most ds edges index between after rest n (λ chunk box. none (c ∷ chunk) (holds, box)))
at_most _ _ _ before after h n none = absurd h

pub in_order : (ds : List Dimension) (edges : List DimensionEdges) (index : List ℕ) (before after : ℕ) → AreSearched ds edges index before after
    → AreSearchedInOrder ds edges index before after
in_order ds edges index before after h = record {
  at_least = λ n chunk box. rw add-one (at_least ds edges index before after h n chunk box);
  at_most = at_most ds edges index before after h;
}

-- where each holds the index, each of listed edges adds one
pub one_each : (ds : List Dimension) (edges : List DimensionEdges) (index : List ℕ) (before after : ℕ) (chunk : List ℕ)
    → AreSearched ds edges index before after → InBox ds chunk index → HasOneForEach edges before after
one_each [] [] [] before after chunk same box = omega arith
one_each (d ∷ ds) (e ∷ edges) (i ∷ index) before after [] h box = absurd box
one_each (d ∷ ds) (e ∷ edges) (i ∷ index) before after (c ∷ chunk) (between, here, inl (none, same)) box = absurd (none c box.0)
one_each (d ∷ ds) (e ∷ edges) (i ∷ index) before after (c ∷ chunk) (between, here, inr (_, holds, rest)) box =
    one_more e edges before between after here (counted ds edges index between after rest).grows
    (one_each ds edges index between after chunk rest box.1)
one_each _ _ _ before after chunk h box = absurd h
