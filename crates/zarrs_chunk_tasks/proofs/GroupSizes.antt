-- What groups of each number of chunks cost along one dimension.
use Rattle.std.proofs.Common.{◌≡◌, IsTrue, Bool, ◌∙◌, ℕ, zero, suc, ◌+◌, ◌-◌, ◌*◌, ◌/◌, ◌<◌, ◌≤◌, List, [], ◌∷◌, ◌++◌, Contains, length, map, max, min, refl, ap, ap₂}
use Rattle.std.proofs.Common.{subst, sym, ⊎_elim, arith, le-div_iff_mul-le}
use Rattle.std.proofs.Math.Nat.{div-eq_of_lt, div-le_self, div-mul-le_self, lt-div-mul-add, mul-le-mul_right}
use Rattle.std.proofs.lemmas.Bool.{cases_lt}
use Rattle.std.specs.List.{AllByRecursion, range_with_len, sum}
use Rattle.zarrs_chunk_base.specs.Dimension.{Dimension, IsChain}
use Rattle.zarrs_chunk_base.specs.Greatest.{greatest}
use Rattle.zarrs_chunks.proofs.Chains.{at_most_start, earlier_has, in_chain, no_later}
use Rattle.zarrs_chunk_plan.specs.seen.Sources.{RangeTakes, TakesSome, met, taken, taken_from}
use Rattle.zarrs_chunk_plan.proofs.Products.{greatest_from, greatest_of}
use Rattle.std.proofs.lemmas.List.{length-append}
use Rattle.std.proofs.lemmas.List.Elements.{Contains-append_left, Contains-append_right}
use Rattle.zarrs_chunk_tasks.specs.declared.groups_along.Sums.{Sums}
use Rattle.zarrs_chunk_tasks.specs.declared.sizes.Size.{Size}
use Rattle.zarrs_chunk_tasks.specs.seen.Counts.{AreOver, AreSums, AreTaking, indices, of_group, whole}
use Rattle.zarrs_chunk_tasks.specs.seen.Grouped.{grouped}
use Rattle.zarrs_chunk_tasks.specs.seen.Sizes.{AreSizes, AreSizesTo, Beats, IsBeaten, IsSize, Keeps, Side, StartsWithLeast, by_groups, each_of, groups_met, largest_by}
use Rattle.zarrs_chunk_tasks.proofs.CountsOfEach.{Count}
use Rattle.zarrs_chunk_tasks.proofs.GroupBoxes.{first_in, last_in, reaching}
use Rattle.zarrs_chunk_tasks.proofs.Grouped.{grouped_chain, last, last_in_group}

-- ---- the greatest of some numbers

-- the greatest is no less than any of them
pub greatest_is : (f : ℕ → ℕ) (begin many j : ℕ) → j < many → f (begin + j) ≤ greatest_of (map f (range_with_len begin many))
greatest_is f begin zero j within = absurd (omega arith)
greatest_is f begin (suc many) zero within =
    let here : begin + 0 ≡ begin = omega arith in
    omega (arith, ap f here, greatest_from (max 0 (f begin)) (map f (range_with_len (begin + 1) many)))
greatest_is f begin (suc many) (suc j) within =
    let next : begin + suc j ≡ begin + 1 + j = omega arith in
    omega (arith, ap f next, greatest_is f (begin + 1) many j (omega arith), greatest_from (max 0 (f begin)) (map f (range_with_len (begin + 1) many)))

-- and no more than what none of them is more than
pub greatest_least : (f : ℕ → ℕ) (begin many most : ℕ) → ((j : ℕ) → j < many → f (begin + j) ≤ most) → greatest_of (map f (range_with_len begin many)) ≤ most
greatest_least f begin zero most all = omega arith
greatest_least f begin (suc many) most all =
    let here : begin + 0 ≡ begin = omega arith in
    let rest = greatest_least f (begin + 1) many most
    (λ j within. let next : begin + suc j ≡ begin + 1 + j = omega arith in omega (arith, ap f next, all (suc j) (omega arith)))
    in
    omega (arith, ap f here, all 0 (omega arith), rest, greatest_from (max 0 (f begin)) (map f (range_with_len (begin + 1) many)))

-- ---- the groups of a range

module _ (d : Dimension) (chain : IsChain d) (at size low high : ℕ) (over : AreOver d at size low high) where
  pub in_order : low ≤ high
  in_order = no_later d chain low high at (at + (size - 1)) (omega arith) over.low over.high

  -- no number of a chunk is the greatest number
  pub chunk_small : high < greatest
  chunk_small = omega (arith, at_most_start d chain high over.high.chunk, over.high.from, over.fits, over.some)

  module _ (k : ℕ) (some : 0 < k) where
    pub groups_in_order : low / k ≤ high / k
    groups_in_order = (le-div_iff_mul-le some).1 (omega (arith, div-mul-le_self low k, in_order))

    -- each of them takes some of it
    pub takes : (t : ℕ) → low / k ≤ t → t ≤ high / k → TakesSome (grouped d k) at size t
    takes t from to =
        let begins : t * k ≤ high = omega (arith, mul-le-mul_right {m = t} {n = high / k} k to, div-mul-le_self high k) in
        let has = earlier_has d chain (t * k) high begins over.high.chunk in
        let is = last_in_group d k chain t has in
        let reach : low ≤ t * k + (k - 1) = omega (arith, lt-div-mul-add {a = low} some, mul-le-mul_right {m = low / k} {n = t} k from) in
        let (_, ends) = in_chain d chain low (last d k t) (is.no_later low (omega (arith, reach)) over.low.chunk) is.has in
        let (starts, _) = in_chain d chain (t * k) high begins over.high.chunk in
        (has, omega (arith, ends, starts, over.low.below, over.high.from, over.some, (grouped_chain d k chain some).not_empty t has))

    pub taking : RangeTakes (grouped d k) at size (low / k) (high / k - low / k + 1)
    taking t from below = takes t from (omega (arith, groups_in_order, below))

    -- a group takes no less than each of its chunks
    pub takes_more : (c : ℕ) → low ≤ c → c ≤ high → taken (grouped d 1) at size c ≤ taken (grouped d k) at size (c / k)
    takes_more c from to =
        let one : c * 1 ≡ c = omega arith in
        let has = earlier_has d chain c high to over.high.chunk in
        let begins = div-mul-le_self c k in
        let first = earlier_has d chain (c / k * k) c begins has in
        let is = last_in_group d k chain (c / k) first in
        let (starts, _) = in_chain d chain (c / k * k) c begins has in
        let (_, ends) = in_chain d chain c (last d k (c / k)) (is.no_later c (omega (arith, lt-div-mul-add {a = c} some)) has) is.has in
        rw one (omega (arith, starts, ends))

record TakesAll (side : Side) (k : ℕ) : Type 0 where
  start : taken_from (grouped side.target k) side.at 0 ≡ taken_from side.target side.at side.low
  end : min ((grouped side.target k).end 0) (side.at + side.size) ≡ min (side.target.end side.high) (side.at + side.size)

module _ (side : Side) (chain : IsChain side.target) (over : AreOver side.target side.at side.size side.low side.high) where
  -- the groups of one chunk are the shortest
  pub one_is_least : (k : ℕ) → 0 < k → largest_by side 1 ≤ largest_by side k
  one_is_least k some =
      greatest_least (of_group indices side.source (grouped side.target 1) side.first side.at side.size) (side.low / 1) (groups_met side 1) (largest_by side k) each where
        ones : (n : ℕ) → n / 1 ≡ n
        ones n = omega (arith, div-mul-le_self n 1, lt-div-mul-add {a = n} {b = 1} (omega arith))

        each : (j : ℕ) → j < groups_met side 1 → taken (grouped side.target 1) side.at side.size (side.low / 1 + j) ≤ largest_by side k
        each j within =
            let low = ones side.low in
            let high = ones side.high in
            let c = side.low / 1 + j in
            let order = in_order side.target chain side.at side.size side.low side.high over in
            let up : side.low / k ≤ c / k = (le-div_iff_mul-le some).1 (omega (arith, div-mul-le_self side.low k, low)) in
            let to : c / k ≤ side.high / k = (le-div_iff_mul-le some).1 (omega (arith, div-mul-le_self c k, high, within, order)) in
            let here : side.low / k + (c / k - side.low / k) ≡ c / k = omega (arith, up) in
            let more = takes_more side.target chain side.at side.size side.low side.high over k some c (omega (arith, low)) (omega (arith, within, low, high, order)) in
            let is = greatest_is (of_group indices side.source (grouped side.target k) side.first side.at side.size) (side.low / k) (groups_met side k)
            (c / k - side.low / k) (omega (arith, up, to))
            in
            omega (arith, more, is, ap (taken (grouped side.target k) side.at side.size) here)

  -- one group takes all of the range
  takes_all : (k : ℕ) → side.high < k → TakesAll side k
  takes_all k more =
      let none : side.low / k ≡ 0 = div-eq_of_lt (omega (arith, in_order side.target chain side.at side.size side.low side.high over)) in
      let takes = takes side.target chain side.at side.size side.low side.high over k (omega arith) 0 (omega (arith, none)) (omega arith) in
      let here = reaching side.target k side.at side.size side.low side.high 0 chain over.some over.low over.high takes in
      let first : first_in k side.low 0 ≡ side.low = omega arith in
      let end : last_in k side.high 0 ≡ side.high = omega arith in
      record {
        start = here.start ∙ ap (taken_from side.target side.at) first;
        end = here.end ∙ ap (λ c. min (side.target.end c) (side.at + side.size)) end;
      }

  -- groups of more chunks than there are cost what the group of all chunks does
  pub beyond : (count : Count) (k : ℕ) → side.high < k → by_groups count side k ≡ by_groups count side (side.high + 1)
  beyond count k more =
      let low = in_order side.target chain side.at side.size side.low side.high over in
      let here = takes_all k more in
      let there = takes_all (side.high + 1) (omega arith) in
      rw (
        div-eq_of_lt {n = side.low} {m = k} (omega (arith, low)),
        div-eq_of_lt more,
        div-eq_of_lt {n = side.low} {m = side.high + 1} (omega (arith, low)),
        div-eq_of_lt {n = side.high} {m = side.high + 1} (omega arith),
      )
      (ap₂ (λ before many. count side.source (side.first + (before - side.at)) many ∷ [])
      (here.start ∙ sym there.start) (omega (arith, here.start, here.end, there.start, there.end)))

-- the longest of some groups takes some
pub longest_takes : (side : Side) (k : ℕ) → RangeTakes (grouped side.target k) side.at side.size (side.low / k) (groups_met side k) → 0 < largest_by side k
longest_takes side k taking =
    let (_, some) = taking (side.low / k) (omega arith) (omega arith) in
    let here : side.low / k + 0 ≡ side.low / k = omega arith in
    let is = greatest_is (of_group indices side.source (grouped side.target k) side.first side.at side.size) (side.low / k) (groups_met side k) 0 (omega arith) in
    omega (arith, some, is, ap (taken (grouped side.target k) side.at side.size) here)

-- ---- what is found of groups

-- the numbers of groups are those of so many chunks
pub found_taking : (d : Dimension) (k at size low high group end before groups : ℕ) → IsChain d → 0 < k → AreOver d at size low high
    → at + size ≤ d.array_size → group ≡ low / k → end ≡ high / k → before ≡ end - group → groups ≡ min (before + 1) greatest
    → AreTaking k at size low high group groups d
found_taking d k at size low high group end before groups chain some over within group_is end_is before_is groups_is =
    let many : groups ≡ high / k - low / k + 1 = omega (arith, group_is, end_is, before_is, groups_is, div-le_self high k, chunk_small d chain at size low high over) in
    rw (group_is, many) (record {
      over = over;
      within = within;
      take = taking d chain at size low high over k some;
      groups_fit = omega (arith, groups_in_order d chain at size low high over k some, div-le_self high k, chunk_small d chain at size low high over);
    })

pub found_size : (side : Side) (group groups : ℕ) (s : Size) (sums : Sums) → IsChain side.target → AreOver side.target side.at side.size side.low side.high
    → group ≡ side.low / each_of s → groups ≡ min (side.high / each_of s - side.low / each_of s + 1) greatest
    → AreSums (each_of s) side.at side.size group groups side.first side.target side.source sums
    → s.largest ≡ sums.largest → s.chunks ≡ sums.chunks → s.elements ≡ sums.elements → IsSize side s
found_size side group groups s sums chain over group_is groups_is are largest chunks elements =
    let k = each_of s in
    let many : groups ≡ groups_met side k =
    omega (arith, groups_is, div-le_self side.high k, chunk_small side.target chain side.at side.size side.low side.high over)
    in
    let here = rw (group_is, many) at are in
    let takes = taking side.target chain side.at side.size side.low side.high over k s.each.ok in
    record {
      some = omega (arith, largest, here.largest, longest_takes side k takes);
      largest = largest ∙ here.largest;
      chunks = chunks ∙ here.chunks;
      elements = elements ∙ here.elements;
    }

-- ---- the sizes that are kept

more_kept : {X : Type 0} (P : X → Type 0) (before : List X) (x : X) → AllByRecursion P before → P x → AllByRecursion P (before ++ x ∷ [])
more_kept P [] x all here = (here, tt)
more_kept P (y ∷ before) x all here = (all.0, more_kept P before x all.1 here)

-- a size that was kept still is
still : (before after : List Size) (size s : Size) → Keeps before size after → Contains before s → Contains after s
still before after size s keeps among =
    ⊎_elim (λ put. rw put (Contains-append_left before (size ∷ []) s among)) (λ (same, _). rw same among) keeps

module _ (side : Side) where
  itself : (s : Size) → IsSize side s → Beats side (each_of s) s
  itself s is = record { largest = omega (arith, is.largest); chunks = omega (arith, is.chunks); elements = omega (arith, is.elements) }

  -- a size that is put behind others, or one that is no worse, beats groups of its number of chunks
  kept_beats : (before after : List Size) (size : Size) → IsSize side size → Keeps before size after → IsBeaten side after (each_of size)
  kept_beats before after size is keeps =
      ⊎_elim (λ put. (size, rw put (Contains-append_right before (size ∷ []) size (0, omega arith, refl)), itself size is))
      (λ (same, (one, among, no_worse)). (
        one,
        rw same among,
        record {
          largest = omega (arith, is.largest, no_worse.largest);
          chunks = omega (arith, is.chunks, no_worse.chunks);
          elements = omega (arith, is.elements, no_worse.elements);
        },
      )) keeps

  all_kept : (before after : List Size) (size : Size) → AllByRecursion (IsSize side) before → IsSize side size → Keeps before size after
      → AllByRecursion (IsSize side) after
  all_kept before after size all is keeps =
      ⊎_elim (λ put. rw put (more_kept (IsSize side) before size all is)) (λ (same, _). rw same all) keeps

  least_kept : (before after : List Size) (size : Size) → StartsWithLeast side before → Keeps before size after → StartsWithLeast side after
  least_kept before after size starts keeps =
      ⊎_elim (λ put. record {
        first_size = starts.first_size;
        others = starts.others ++ size ∷ [];
        are = put ∙ ap (λ sizes. sizes ++ size ∷ []) starts.are;
        one = starts.one;
        least = starts.least;
      }) (λ (same, _). record {
        first_size = starts.first_size;
        others = starts.others;
        are = same ∙ starts.are;
        one = starts.one;
        least = starts.least;
      }) keeps

  few_kept : (before after : List Size) (size : Size) → Keeps before size after → length after ≤ length before + 1
  few_kept before after size keeps =
      ⊎_elim (λ put. omega (arith, ap length put ∙ length-append before (size ∷ []))) (λ (same, _). omega (arith, ap length same)) keeps

  pub none_to : AreSizesTo side 0 []
  none_to = record { are = tt; least = λ none. absurd (omega arith); few = omega arith; all = λ k some none. absurd (omega arith) }

  module _ (chain : IsChain side.target) (over : AreOver side.target side.at side.size side.low side.high) where
    pub one_more_to : (most : ℕ) (before after : List Size) (size : Size) → AreSizesTo side most before → IsSize side size → each_of size ≡ most + 1
        → Keeps before size after → AreSizesTo side (most + 1) after
    one_more_to most before after size so_far is each keeps = record {
      are = all_kept before after size so_far.are is keeps;
      least = λ some. ⊎_elim (λ (more : 0 < most). least_kept before after size (so_far.least more) keeps)
          (λ (none : most ≤ 0). first none before so_far.few keeps) (cases_lt 0 most);
      few = omega (arith, so_far.few, few_kept before after size keeps);
      all = λ k some within.
          ⊎_elim (λ (earlier : k < most + 1).
          let (s, among, beats) = so_far.all k some (omega arith) in (s, still before after size s keeps among, beats))
          (λ (le : most + 1 ≤ k).
          let same : each_of size ≡ k = omega (arith, each) in
          subst (IsBeaten side after) same (kept_beats before after size is keeps)) (cases_lt k (most + 1));
    } where
      first : most ≤ 0 → (before : List Size) → length before ≤ most → Keeps before size after → StartsWithLeast side after
      first none [] few keeps =
          ⊎_elim (λ put. record {
            first_size = size;
            others = [];
            are = put;
            one = omega (arith, each);
            least = λ k some.
                let one : each_of size ≡ 1 = omega (arith, each) in
                omega (arith, is.largest, ap (largest_by side) one, one_is_least side chain over k some);
          }) (λ (_, (one, (j, within, _), _)). absurd (omega arith)) keeps
      first none (s ∷ before) few keeps = absurd (omega arith)

    -- from those up to a number follow all, if the number is that of all chunks
    pub all_sizes : (are_all : Bool) (last : ℕ) (sizes : List Size) → (IsTrue are_all → last ≡ side.high) → AreSizesTo side (last + 1) sizes
        → AreSizes are_all side sizes
    all_sizes are_all last sizes is_last to = record {
      tried = record { are = to.are; least = to.least (omega arith) };
      all = λ all k some.
          let high = is_last all in
          ⊎_elim (λ (more : side.high + 1 < k).
          let (s, among, beats) = to.all (side.high + 1) (omega arith) (omega (arith, high)) in (
            s,
            among,
            record {
              largest = omega (arith, beats.largest, ap greatest_of (beyond side chain over indices k (omega arith)));
              chunks = omega (arith, beats.chunks, ap sum (beyond side chain over met k (omega arith)));
              elements = omega (arith, beats.elements, ap sum (beyond side chain over whole k (omega arith)));
            },
          ))
          (λ (le : k ≤ side.high + 1). to.all k some (omega (arith, high))) (cases_lt (side.high + 1) k);
    }

    pub one_more : (are_all : Bool) (before after : List Size) (size : Size) → AreSizes are_all side before → IsSize side size → Keeps before size after
        → (¬ IsTrue are_all) → AreSizes are_all side after
    one_more are_all before after size so_far is keeps not = record {
      tried = record { are = all_kept before after size so_far.tried.are is keeps; least = least_kept before after size so_far.tried.least keeps };
      all = λ all. absurd (not all);
    }
