-- The chunks over a box, in the dimensions so far.
use Rattle.std.proofs.Common.{◌≡◌, ℕ, suc, ◌+◌, ◌-◌, ◌<◌, List, [], ◌∷◌, ◌++◌, ◌∙◌, length, refl, sym, ap, arith}
use Rattle.std.proofs.lemmas.List.{length-append}
use Rattle.std.specs.List.{AllByRecursion}
use Rattle.zarrs_chunk_base.specs.ArraySubset.{ends, lasts}
use Rattle.zarrs_chunk_base.specs.Dimension.{Dimension, Holds}
use Rattle.zarrs_chunk_base.specs.Greatest.{AllFit, greatest}
use Rattle.zarrs_chunk_base.proofs.InEach.{turned}
use Rattle.zarrs_chunk_axes.specs.LookUp.{AreOverBox, counts_between}
use Rattle.zarrs_chunk_axes.specs.lemmas.LookUpEach.{LiesInNone}
use Rattle.zarrs_chunk_axes.proofs.EachSoFar.{EachSoFar}
use Rattle.zarrs_chunk_axes.proofs.EachSoFar as each

-- a chunk that holds an index
abbrev pub IsHolder : Dimension → ℕ → ℕ → Type 0
IsHolder d i c = Holds d c i

abbrev Below : List ℕ → Type 0
Below = AllByRecursion (λ n. n < greatest)

-- a count follows those before it
counted_more : (firsts lasts : List ℕ) (f l : ℕ) → length firsts ≡ length lasts
    → counts_between (firsts ++ f ∷ []) (lasts ++ l ∷ []) ≡ counts_between firsts lasts ++ (l - f + 1) ∷ []
counted_more [] [] f l same = refl
counted_more (x ∷ firsts) (y ∷ lasts) f l same = ap (λ rest. (y - x + 1) ∷ rest) (counted_more firsts lasts f l (omega arith))
counted_more [] (_ ∷ _) f l same = absurd (omega arith)
counted_more (_ ∷ _) [] f l same = absurd (omega arith)

-- what holds of a list with one more item holds of the list and of the item
with_one : (xs : List ℕ) (x : ℕ) → Below (xs ++ x ∷ []) → Below xs × (x < greatest)
with_one [] x below = (tt, below.0)
with_one (y ∷ xs) x below = let (rest, here) = with_one xs x below.1 in ((below.0, rest), here)

-- the two lists hold what was found so far, and the boxes that are left fit
pub record OverSoFar (ds : List Dimension) (starts sizes : List ℕ) (ds_left : List Dimension) (starts_left sizes_left firsts counts : List ℕ) : Type 0 where
  pub last_chunk : List ℕ
  pub first : EachSoFar IsHolder LiesInNone ds starts ds_left starts_left firsts
  pub last : EachSoFar IsHolder LiesInNone ds (lasts starts sizes) ds_left (lasts starts_left sizes_left) last_chunk
  pub counted : Below last_chunk → counts ≡ counts_between firsts last_chunk
  pub as_long : length firsts ≡ length last_chunk
  pub lengths : length sizes_left ≡ length starts_left
  pub fits : AllFit (ends starts_left sizes_left)

-- there are as many last numbers as ranges
pub length_lasts : (start shape : List ℕ) → length start ≡ length shape → length (lasts start shape) ≡ length start
length_lasts [] [] same = refl
length_lasts (s ∷ start) (n ∷ shape) same = ap suc (length_lasts start shape (omega arith))
length_lasts _ _ same = absurd (omega arith)

module _ (ds : List Dimension) (starts sizes : List ℕ) where
  pub none_yet : length ds ≡ length starts → length sizes ≡ length starts → AllFit (ends starts sizes) → OverSoFar ds starts sizes ds starts sizes [] []
  none_yet lengths same fits = record {
    last_chunk = [];
    first = record { lengths = lengths; all = λ more h. h; none = λ h. h };
    last = record { lengths = lengths ∙ sym (length_lasts starts sizes (sym same)); all = λ more h. h; none = λ h. h };
    counted = λ below. refl;
    as_long = refl;
    lengths = same;
    fits = fits;
  }

  module _ (d : Dimension) (s n f l count : ℕ) (ds_left : List Dimension) (starts_left sizes_left firsts counts : List ℕ)
      (before : OverSoFar ds starts sizes (d ∷ ds_left) (s ∷ starts_left) (n ∷ sizes_left) firsts counts) where
    pub one_more : Holds d f s → Holds d l (s + (n - 1)) → (l < greatest → count ≡ l - f + 1)
        → OverSoFar ds starts sizes ds_left starts_left sizes_left (firsts ++ f ∷ []) (counts ++ count ∷ [])
    one_more in_first in_last is = record {
      last_chunk = before.last_chunk ++ l ∷ [];
      first = each.one_more IsHolder LiesInNone ds starts d s f ds_left starts_left firsts before.first in_first;
      last = each.one_more IsHolder LiesInNone ds (lasts starts sizes) d (s + (n - 1)) l ds_left (lasts starts_left sizes_left) before.last_chunk before.last in_last;
      counted = λ below.
          let (others, here) = with_one before.last_chunk l below in
          rw (before.counted others, is here) (sym (counted_more firsts before.last_chunk f l before.as_long));
      as_long = omega (arith, before.as_long, length-append firsts (f ∷ []), length-append before.last_chunk (l ∷ []));
      lengths = omega (arith, before.lengths);
      fits = before.fits.1;
    }

  -- nothing is left
  pub at_end : (ds_left : List Dimension) (starts_left sizes_left firsts counts : List ℕ) → length ds_left ≡ 0
      → OverSoFar ds starts sizes ds_left starts_left sizes_left firsts counts
      → AreOverBox ds (record { start = starts; shape = sizes }) firsts counts
  at_end ds_left starts_left sizes_left firsts counts none so_far = record {
    last_chunk = so_far.last_chunk;
    first = turned IsHolder ds starts firsts (each.at_end IsHolder LiesInNone ds starts ds_left starts_left firsts none so_far.first);
    last = turned IsHolder ds (lasts starts sizes) so_far.last_chunk
        (each.at_end IsHolder LiesInNone ds (lasts starts sizes) ds_left (lasts starts_left sizes_left) so_far.last_chunk none so_far.last);
    counted = so_far.counted;
  }
