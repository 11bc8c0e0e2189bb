-- Numbers that are written one dimension after another.
use Rattle.std.proofs.Common.{◌≡◌, ◌≢◌, ◌∙◌, ℕ, ◌+◌, ◌<◌, ◌≤◌, List, ap, arith, below_more, get_or, length, slice_set, sym, ⊎_elim}
use Rattle.std.proofs.lemmas.Bool.{cases_lt}
use Rattle.std.proofs.lemmas.List.{get_or-map, get_or-set_other, get_or-set_same}
use Rattle.zarrs_chunk_prepared.specs.declared.axis.PreparedAxis.{PreparedAxis}
use Rattle.zarrs_chunk_prepared.specs.seen.Axis.{table_of}
use Rattle.zarrs_chunk_prepared.specs.seen.PreparedGrid.{no_table, table_at}

-- the numbers of a dimension that was looked up
pub table_is : (axes : List PreparedAxis) (k : ℕ) (axis : PreparedAxis) → k < length axes → axis ≡ get_or axes k axis → table_at axes k ≡ table_of axis
table_is axes k axis within is = get_or-map table_of axes k axis no_table within ∙ ap table_of (sym is)

-- what holds of the numbers so far, and of one more
pub one_more : (P : ℕ → ℕ → Type 0) (n x : ℕ) (numbers : List ℕ) → n < length numbers → ((k : ℕ) → k < n → P k (get_or numbers k 0)) → P n x
    → (k : ℕ) → k < n + 1 → P k (get_or (slice_set numbers n x) k 0)
one_more P n x numbers room so_far here =
    below_more (λ k. P k (get_or (slice_set numbers n x) k 0)) n
    (λ k before. rw (get_or-set_other numbers n k x 0 (λ same. absurd (omega arith))) (so_far k before)) (rw (get_or-set_same numbers n x 0 room) here)

-- the same of two kinds of numbers that have room
pub two_more : (P : ℕ → ℕ → ℕ → Type 0) (n x y : ℕ) (numbers others : List ℕ) → n < length numbers → n < length others
    → ((k : ℕ) → k < n → P k (get_or numbers k 0) (get_or others k 0)) → P n x y
    → (k : ℕ) → k < n + 1 → P k (get_or (slice_set numbers n x) k 0) (get_or (slice_set others n y) k 0)
two_more P n x y numbers others room others_room so_far here =
    below_more (λ k. P k (get_or (slice_set numbers n x) k 0) (get_or (slice_set others n y) k 0)) n
    (λ k before.
    let other : k ≢ n = λ same. absurd (omega arith) in
    rw (get_or-set_other numbers n k x 0 other, get_or-set_other others n k y 0 other) (so_far k before))
    (rw (get_or-set_same numbers n x 0 room, get_or-set_same others n y 0 others_room) here)

-- the same where the second kind has room for some only
pub both_more : (P : ℕ → ℕ → ℕ → Type 0) (n x y : ℕ) (numbers others after : List ℕ) → n < length numbers
    → (n < length others → after ≡ slice_set others n y) → (length others ≤ n → after ≡ others)
    → ((k : ℕ) → k < n → k < length others → P k (get_or numbers k 0) (get_or others k 0)) → P n x y
    → (k : ℕ) → k < n + 1 → k < length after → P k (get_or (slice_set numbers n x) k 0) (get_or after k 0)
both_more P n x y numbers others after room written kept so_far here k less within =
    ⊎_elim
    (λ (has : n < length others).
    rw (written has) (two_more P n x y numbers others room has (λ j before. so_far j before (omega arith)) here k less))
    (λ (none : length others ≤ n).
    let long : k < length others = omega (arith, ap length (kept none)) in
    rw (kept none, get_or-set_other numbers n k x 0 (λ same. absurd (omega arith))) (so_far k (omega arith) long))
    (cases_lt n (length others))
