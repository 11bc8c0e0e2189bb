-- The elements of the array that the chunks in a box hold.
use Rattle.zarrs_chunk_plan.proofs.Common.{◌≡◌, ◌∙◌, ◌↔◌, ℕ, zero, suc, ◌+◌, ◌-◌, ◌<◌, ◌≤◌, ◌++◌, List, [], ◌∷◌, Contains, ap, arith, get_or, length}
use Rattle.zarrs_chunk_plan.proofs.Common.{min, refl, subst, sym, ⊎_elim, cases_lt, AllByRecursion, AreWithin, Box, IsBox, IsEmptyBox, ends, lasts, Dimension, InBox, IsChain}
use Rattle.zarrs_chunk_plan.proofs.Common.{array_sizes, AllFit, greatest, Along, IsRange, AreBelow, head_some, tail_some, HoldsSome}
use Rattle.std.proofs.lemmas.List.{get_or_append_left, get_or_push, length_push}
use Rattle.zarrs_chunks.proofs.Chains.{in_chain}
use Rattle.zarrs_chunks.proofs.Meeting.{lies_between, lies_within}
use Rattle.zarrs_chunk_plan.specs.seen.Used.{IsHeldRange}
use Rattle.zarrs_chunk_plan.proofs.counts.OneDimension.{one}

-- what holds of the members of a list, and of one more behind them
pushed : {X : Type 0} (P : ℕ → X → Type 0) (xs : List X) (x e : X) (n : ℕ) → length xs ≡ n → ((k : ℕ) → k < n → P k (get_or xs k e)) → P n x
    → (k : ℕ) → k < n + 1 → P k (get_or (xs ++ x ∷ []) k e)
pushed P xs x e n long each last k within =
    ⊎_elim (λ (before : k < n). subst (P k) (sym (get_or_append_left xs (x ∷ []) e k (omega arith))) (each k before))
    (λ (past : n ≤ k).
    let here : k ≡ n = omega arith in
    subst (λ m. P m (get_or (xs ++ x ∷ []) m e)) (sym here) (subst (P n) (sym (get_or_push xs x e n long)) last))
    (cases_lt k n)

-- the size along a dimension
pub size_along : (ds : List Dimension) (k : ℕ) → AllFit (array_sizes ds) → k < length ds
    → Along (λ d. (get_or (array_sizes ds) k 0 ≡ d.array_size) × (d.array_size ≤ greatest)) ds k
size_along [] k fit within = absurd (omega arith)
size_along (d ∷ ds) zero fit within = (refl, fit.0)
size_along (d ∷ ds) (suc k) fit within = size_along ds k fit.1 (omega arith)

-- along one dimension
pub held_range : (d : Dimension) → IsChain d → (first last start edge last_start last_edge size : ℕ) → HoldsSome d first → HoldsSome d last → first ≤ last
    → IsRange d first (start, edge) → IsRange d last (last_start, last_edge) → d.array_size ≤ greatest
    → size ≡ min (last_start + last_edge) d.array_size - start → IsHeldRange d first last start size
held_range d chain first last start edge last_start last_edge size (_, _, within) (has, some, also) order range last_range fit sized =
    let from = range.start.start in
    let to = last_range.edge.edge in
    let to_start = last_range.start.start in
    let (low, _) = in_chain d chain first last order has in
    let steps : first + (last - first) ≡ last = omega arith in
    record {
      are = λ i. (
        λ (after, before).
            let (c, up, down, holds) = lies_between d chain first (last - first) i (rw steps has) (omega arith) (rw steps (omega arith)) in
            (omega arith, (c, up, omega arith, holds)),
        λ (below, (c, up, down, holds)).
            let (after, before) = lies_within d chain first last c i has up down holds in
            (omega arith, omega arith),
      );
      some = omega arith;
      fits = omega arith;
    }

-- what holds of the members of two lists, and of one more behind each
pub both_pushed : (P : ℕ → ℕ → ℕ → Type 0) (xs ys : List ℕ) (x y n : ℕ) → length xs ≡ n → length ys ≡ n
    → ((k : ℕ) → k < n → P k (get_or xs k 0) (get_or ys k 0)) → P n x y
    → (k : ℕ) → k < n + 1 → P k (get_or (xs ++ x ∷ []) k 0) (get_or (ys ++ y ∷ []) k 0)
both_pushed P xs ys x y n long also each last k less =
    pushed (λ k b. P k (get_or (xs ++ x ∷ []) k 0) b) ys y 0 n also
    (λ k within. pushed (λ k a. k < n → P k a (get_or ys k 0)) xs x 0 n long (λ k _ within. each k within) (λ within. absurd (omega arith)) k (omega arith) within)
    (pushed (λ k a. k ≡ n → P k a y) xs x 0 n long (λ k within same. absurd (omega arith)) (λ _. last) n (omega arith) (omega arith)) k less

-- along each of the first dimensions
abbrev pub HeldSoFar : (ds : List Dimension) (first last start shape : List ℕ) (n : ℕ) → Type 0
HeldSoFar ds first last start shape n =
    (length start ≡ n) × (length shape ≡ n)
    × ((k : ℕ) → k < n → Along (λ d. IsHeldRange d (get_or first k 0) (get_or last k 0) (get_or start k 0) (get_or shape k 0)) ds k)

-- and of one more
pub held_more : (ds : List Dimension) (first last start shape : List ℕ) (s m n : ℕ) → HeldSoFar ds first last start shape n
    → Along (λ d. IsHeldRange d (get_or first n 0) (get_or last n 0) s m) ds n → HeldSoFar ds first last (start ++ s ∷ []) (shape ++ m ∷ []) (n + 1)
held_more ds first last start shape s m n (long, also, held) more = (
  length_push start s ∙ ap (λ m. m + 1) long,
  length_push shape m ∙ ap (λ m. m + 1) also,
  both_pushed (λ k s m. Along (λ d. IsHeldRange d (get_or first k 0) (get_or last k 0) s m) ds k) start shape s m n long also held more,
)

-- and along each
abbrev EachHeld : (ds : List Dimension) (first last start shape : List ℕ) → Type 0
EachHeld ds first last start shape =
    (k : ℕ) → k < length ds → Along (λ d. IsHeldRange d (get_or first k 0) (get_or last k 0) (get_or start k 0) (get_or shape k 0)) ds k

-- an index of the array that a chunk of a box holds
abbrev IsHeldBy : List Dimension → (first counts index : List ℕ) → Type 0
IsHeldBy ds first counts index = AreBelow (array_sizes ds) index × ((chunk : List ℕ) × AreWithin first counts chunk × InBox ds chunk index)

module _ (d : Dimension) (ds : List Dimension) (a n s m i : ℕ) (first counts start shape index : List ℕ) (some : 0 < n)
    (here : IsHeldRange d a (a + (n - 1)) s m) (rest : AreWithin start shape index ↔ IsHeldBy ds first counts index) where
  there : AreWithin (s ∷ start) (m ∷ shape) (i ∷ index) → IsHeldBy (d ∷ ds) (a ∷ first) (n ∷ counts) (i ∷ index)
  there within =
      let (below, (c, up, down, holds)) = (here.are i).0 (within.0, within.1) in
      let (all, (chunk, between, box)) = rest.0 within.2 in
      ((below, all), (c ∷ chunk, (up, omega arith, between), (holds, box)))

  back : AreBelow (array_sizes (d ∷ ds)) (i ∷ index) → (chunk : List ℕ) → AreWithin (a ∷ first) (n ∷ counts) chunk → InBox (d ∷ ds) chunk (i ∷ index)
      → AreWithin (s ∷ start) (m ∷ shape) (i ∷ index)
  back below [] within box = absurd within
  back below (c ∷ chunk) within box =
      let less = within.1 in
      let (from, to) = (here.are i).1 (below.0, (c, within.0, omega arith, box.0)) in
      (from, to, rest.1 (below.1, (chunk, within.2, box.1)))

-- so the box has what the chunks hold
held_inside : (ds : List Dimension) (first counts start shape : List ℕ) → length first ≡ length ds → length counts ≡ length ds
    → length start ≡ length ds → length shape ≡ length ds → (¬ Contains counts 0) → EachHeld ds first (lasts first counts) start shape → (index : List ℕ)
    → AreWithin start shape index ↔ IsHeldBy ds first counts index
held_inside [] [] [] [] [] e f g h some each [] = (λ _. (tt, ([], tt, tt)), λ _. tt)
held_inside [] [] [] [] [] e f g h some each (_ ∷ _) = (λ within. absurd within, λ has. absurd has.0)
held_inside (d ∷ ds) (a ∷ first) (n ∷ counts) (s ∷ start) (m ∷ shape) e f g h some each [] = (λ within. absurd within, λ has. absurd has.0)
held_inside (d ∷ ds) (a ∷ first) (n ∷ counts) (s ∷ start) (m ∷ shape) e f g h some each (i ∷ index) =
    let rest = held_inside ds first counts start shape (omega arith) (omega arith) (omega arith) (omega arith) (tail_some n counts some)
    (λ k within. each (suc k) (omega arith)) index in
    let positive = head_some n counts some in
    let here = each 0 (omega arith) in (
      there d ds a n s m i first counts start shape index positive here rest,
      λ (below, (chunk, within, box)). back d ds a n s m i first counts start shape index positive here rest below chunk within box,
    )
held_inside _ _ _ _ _ e f g h some each index = absurd (omega arith)

fit_each : (start shape : List ℕ) → length start ≡ length shape → ((k : ℕ) → k < length shape → get_or start k 0 + get_or shape k 0 ≤ greatest)
    → AllFit (ends start shape)
fit_each [] [] same each = tt
fit_each (s ∷ start) (n ∷ shape) same each = (each 0 (omega arith), fit_each start shape (omega arith) (λ k within. each (suc k) (omega arith)))
fit_each _ _ same each = absurd (omega arith)

-- it is a box, and isn't empty
pub record IsHeldBox (ds : List Dimension) (chunks : Box) (start shape : List ℕ) : Type 0 where
  pub is_box : IsBox (record { start = start; shape = shape })
  pub some : ¬ Contains shape 0
  pub has : (index : List ℕ) → AreWithin start shape index ↔ IsHeldBy ds chunks.start chunks.shape index

pub held_box : (ds : List Dimension) → AllByRecursion IsChain ds → (chunks : Box) → IsBox chunks → length chunks.start ≡ length ds → (¬ IsEmptyBox chunks)
    → (first last start shape : List ℕ) (n : ℕ) → first ≡ chunks.start → last ≡ lasts chunks.start chunks.shape
    → HeldSoFar ds first last start shape n → length first ≤ n → n ≤ length first → IsHeldBox ds chunks start shape
held_box ds chains chunks is_box many some first last start shape n from to (long, also, held) ended end =
    let same = ap length from in
    let starts : length start ≡ length ds = omega (arith, long, same, ended, end, many) in
    let sizes : length shape ≡ length ds = omega (arith, also, same, ended, end, many) in
    let each : EachHeld ds first last start shape = λ k within. held k (omega (arith, within, sizes, also)) in
    record {
      is_box = record {
        lengths = omega (arith, starts, sizes);
        fits = fit_each start shape (omega (arith, starts, sizes))
            (λ k within. let it = one _ ds k chains (each k (omega (arith, within, sizes))) in it.is.fits);
      };
      some = λ (k, within, none). let it = one _ ds k chains (each k (omega (arith, within, sizes))) in omega (arith, it.is.some, none);
      has = held_inside ds chunks.start chunks.shape start shape many (omega (arith, is_box.lengths, many)) starts sizes some (rw (from, to) at each);
    }
