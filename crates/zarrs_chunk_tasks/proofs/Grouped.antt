-- Groups of the chunks of a chain are the chunks of a chain, and each holds what its chunks hold.
use Rattle.std.proofs.Common.{◌≡◌, ◌↔◌, ◌∙◌, ℕ, zero, suc, ◌+◌, ◌-◌, ◌*◌, ◌/◌, ◌<◌, ◌≤◌, IsTrue, List, [], ◌∷◌, length, refl, ap, subst, sym, true, false}
use Rattle.std.proofs.Common.{⊎_elim, add-one, arith}
use Rattle.std.proofs.Math.Nat.{div-eq_of_lt-le, div-mul-le_self, lt-div-mul-add, mul-le-mul_right, suc-mul}
use Rattle.std.proofs.lemmas.Bool.{cases_Bool, cases_lt, true≢false}
use Rattle.std.proofs.lemmas.Grind.{div_ceil_times}
use Rattle.std.specs.Int.{div_ceil}
use Rattle.std.specs.List.{AllByRecursion}
use Rattle.zarrs_chunk_base.specs.Dimension.{Dimension, Holds, InBox, IsChain}
use Rattle.zarrs_chunks.proofs.Chains.{earlier_has, in_chain}
use Rattle.zarrs_chunks.proofs.Meeting.{lies_between}
use Rattle.zarrs_chunk_tasks.specs.Groups.{InGroup, LiesInGroup}
use Rattle.zarrs_chunk_tasks.specs.seen.Grouped.{all_grouped, grouped, last_of}

-- ---- the chunks of a group

-- the chunks of a group are k numbers from t * k on
pub joined_from : (k t c : ℕ) → 0 < k → c / k ≡ t → (t * k ≤ c) × (c < t * k + k)
joined_from k t c some joined =
    (subst (λ q. q * k ≤ c) joined (div-mul-le_self c k), subst (λ q. c < q * k + k) joined (lt-div-mul-add {a = c} some))

pub next_group : (t k : ℕ) → (t + 1) * k ≡ t * k + k
next_group t k = rw (add-one t) (suc-mul t k)

pub are_joined : (k t c : ℕ) → t * k ≤ c → c < t * k + k → c / k ≡ t
are_joined k t c low high = div-eq_of_lt-le k low (let next = next_group t k in omega arith)

-- a chunk is the last one that there is of some
pub record IsLast (d : Dimension) (behind chunk last : ℕ) : Type 0 where
  pub from : chunk ≤ last
  pub up_to : last ≤ chunk + behind
  pub has : IsTrue (d.has_chunk last)
  pub no_later : (c : ℕ) → c ≤ chunk + behind → IsTrue (d.has_chunk c) → c ≤ last

last_is : (d : Dimension) → IsChain d → (behind chunk : ℕ) → IsTrue (d.has_chunk chunk) → IsLast d behind chunk (last_of d behind chunk)
last_is d chain zero chunk has = record { from = omega arith; up_to = omega arith; has = has; no_later = λ c within is. omega arith }
last_is d chain (suc behind) chunk has =
    ⊎_elim
    (λ (next : d.has_chunk (suc chunk) ≡ true).
    let rest = last_is d chain behind (suc chunk) next in
    rw next (record {
      from = omega (arith, rest.from);
      up_to = omega (arith, rest.up_to);
      has = rest.has;
      no_later = λ c within is. rest.no_later c (omega arith) is;
    }))
    (λ (none : d.has_chunk (suc chunk) ≡ false).
    rw none (record {
      from = omega arith;
      up_to = omega arith;
      has = has;
      no_later = λ c within is.
          ⊎_elim (λ (past : chunk < c). absurd (true≢false (sym (earlier_has d chain (suc chunk) c (omega arith) is) ∙ none))) (λ (le : c ≤ chunk). le)
          (cases_lt chunk c);
    }))
    (cases_Bool (d.has_chunk (suc chunk)))

-- the last chunk of a group
abbrev pub last : Dimension → (k t : ℕ) → ℕ
last d k t = last_of d (k - 1) (t * k)

pub last_in_group : (d : Dimension) (k : ℕ) → IsChain d → (t : ℕ) → IsTrue (d.has_chunk (t * k)) → IsLast d (k - 1) (t * k) (last d k t)
last_in_group d k chain t has = last_is d chain (k - 1) (t * k) has

module _ (d : Dimension) (k : ℕ) (chain : IsChain d) (some : 0 < k) where
  -- a group holds what its chunks hold
  pub holds_its_chunks : (t i : ℕ) → LiesInGroup d k t i ↔ Holds (grouped d k) t i
  holds_its_chunks t i = (
    λ lies.
        let c = lies.chunk in
        let (low, high) = joined_from k t c some lies.joined in
        let has = earlier_has d chain (t * k) c low lies.holds.chunk in
        let is = last_in_group d k chain t has in
        let (starts, _) = in_chain d chain (t * k) c low lies.holds.chunk in
        let (_, ends) = in_chain d chain c (last d k t) (is.no_later c (omega arith) lies.holds.chunk) is.has in
        record { chunk = has; from = omega (arith, lies.holds.from); below = omega (arith, lies.holds.below) },
    λ holds.
        let is = last_in_group d k chain t holds.chunk in
        let span : last d k t ≡ t * k + (last d k t - t * k) = omega (arith, is.from) in
        let (c, after, before, here) = lies_between d chain (t * k) (last d k t - t * k) i (subst (λ m. IsTrue (d.has_chunk m)) span is.has) holds.from
        (subst (λ m. i < d.end m) span holds.below)
        in
        record { chunk = c; holds = here; joined = are_joined k t c after (omega (arith, is.up_to, is.from)) },
  )

  -- and what is grouped of a chain is one
  pub grouped_chain : IsChain (grouped d k)
  grouped_chain = record {
    from_zero = λ has. let first : 0 * k ≡ 0 = omega arith in
        omega (arith, ap d.start first, chain.from_zero (subst (λ c. IsTrue (d.has_chunk c)) first has));
    not_empty = λ t has.
        let is = last_in_group d k chain t has in
        omega (arith, chain.not_empty (t * k) has, (in_chain d chain (t * k) (last d k t) is.from is.has).1);
    no_gap = λ t has.
        let next = next_group t k in
        let first = earlier_has d chain (t * k) ((t + 1) * k) (omega arith) has in
        let is = last_in_group d k chain t first in
        let before = t * k + (k - 1) in
        let follows : (t + 1) * k ≡ before + 1 = omega arith in
        let gap = chain.no_gap before (subst (λ c. IsTrue (d.has_chunk c)) follows has) in
        let end : last d k t ≡ before = omega (arith, is.up_to, is.no_later before (omega arith) gap.0) in
        (first, omega (arith, ap d.start follows, ap d.end end, gap.1));
    counted = λ t below. chain.counted (t * k) (counts t below);
    reaches = λ i below.
        let (c, counted, here) = chain.reaches i below in
        let begins = div-mul-le_self c k in
        (c / k, few (c / k) (omega arith), (holds_its_chunks (c / k) i).0 (record { chunk = c; holds = here; joined = refl }));
  } where
    count : ℕ
    count = div_ceil d.grid_size k

    counts : (t : ℕ) → t < count → t * k < d.grid_size
    counts t below =
        let next = next_group t k in
        omega (arith, (div_ceil_times d.grid_size k some).1, mul-le-mul_right {m = t + 1} {n = count} k (omega arith))

    few : (t : ℕ) → t * k < d.grid_size → t < count
    few t counted =
        ⊎_elim (λ (below : t < count). below)
        (λ (past : count ≤ t). absurd (omega (arith, mul-le-mul_right k past, (div_ceil_times d.grid_size k some).0, counted))) (cases_lt t count)

-- ---- along each dimension

pub all_chains : (ds : List Dimension) (each : List ℕ) → AllByRecursion IsChain ds → AllByRecursion (λ k. 0 < k) each
    → AllByRecursion IsChain (all_grouped ds each)
all_chains [] each chains some = tt
all_chains (d ∷ ds) [] chains some = tt
all_chains (d ∷ ds) (k ∷ each) chains some = (grouped_chain d k chains.0 some.0, all_chains ds each chains.1 some.1)

pub as_many_grouped : (ds : List Dimension) (each : List ℕ) → length each ≡ length ds → length (all_grouped ds each) ≡ length ds
as_many_grouped [] [] many = refl
as_many_grouped (d ∷ ds) (k ∷ each) many = ap suc (as_many_grouped ds each (omega arith))
as_many_grouped _ _ many = absurd (omega arith)

-- a group holds an element if it does so as a chunk
pub in_group_is : (ds : List Dimension) (each group index : List ℕ) → AllByRecursion IsChain ds → AllByRecursion (λ k. 0 < k) each
    → length each ≡ length ds → InGroup ds each group index ↔ InBox (all_grouped ds each) group index
in_group_is [] [] [] [] chains some many = (λ h. h, λ h. h)
in_group_is [] [] [] (_ ∷ _) chains some many = (λ h. absurd h, λ h. absurd h)
in_group_is [] [] (_ ∷ _) index chains some many = (λ h. absurd h, λ h. absurd h)
in_group_is (d ∷ ds) (k ∷ each) [] index chains some many = (λ h. absurd h, λ h. absurd h)
in_group_is (d ∷ ds) (k ∷ each) (t ∷ group) [] chains some many = (λ h. absurd h, λ h. absurd h)
in_group_is (d ∷ ds) (k ∷ each) (t ∷ group) (i ∷ index) chains some many =
    let here = holds_its_chunks d k chains.0 some.0 t i in
    let rest = in_group_is ds each group index chains.1 some.1 (omega arith) in
    (λ h. (here.0 h.0, rest.0 h.1), λ h. (here.1 h.0, rest.1 h.1))
in_group_is _ _ _ _ chains some many = absurd (omega arith)
