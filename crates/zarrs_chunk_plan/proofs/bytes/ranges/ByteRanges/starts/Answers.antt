use Rattle.zarrs_chunk_plan.proofs.Common.{◌≡◌, ◌∙◌, ◌≤◌, ℕ, IfOk, IfSome, List, MatchOption, None, Option, Result, Some, Ok, Err, Vec, Global, ap}
use Rattle.zarrs_chunk_plan.proofs.Common.{arith, length, rules, sym, nil_from_length, AllocError, begins}
use Rattle.zarrs_chunk_plan.specs.Bytes.{HasPast}
use Rattle.zarrs_chunk_plan.proofs.bytes.RangeStarts.{begins_length}
use Rattle.zarrs_chunk_plan.proofs.bytes.ranges.ByteRanges.starts.Goals as goal

-- numbers that are those of a short list are few
so_many : (r : Result (Option (Vec ℕ Global)) AllocError) (numbers : List ℕ) (most : ℕ) → length numbers ≤ most
    → IfOk r (λ found. MatchOption found (HasPast numbers) (λ v. v.items ≡ numbers)) → IfOk r (λ found. IfSome found (λ v. length v.items ≤ most))
so_many (Ok (Some v)) numbers most few is = let same = ap length is in omega arith
so_many (Ok None) numbers most few is = tt
so_many (Err error) numbers most few is = tt

pub returns-then-many-eq0-clause-starts : goal.returns-then-many-eq0-clause-starts
returns-then-many-eq0-clause-starts c =
    let ranges = c.args.self.now in
    let long = begins_length ranges.first ranges.counts.items ranges.strides.items (search rules) in
    let many = rw c.deref.ensures.value at c.saturating_product-many.ensures in
    let none = c.if-many-eq0.true in
    c.new.ensures.items ∙ sym (nil_from_length (begins ranges.first ranges.counts.items ranges.strides.items) (omega arith))

pub returns-clause-few : goal.returns-clause-few
returns-clause-few c =
    let ranges = c.args.self.now in
    let long = begins_length ranges.first ranges.counts.items ranges.strides.items (search rules) in
    let many = rw c.deref.ensures.value at c.saturating_product-many.ensures in
    let few = c.if-many-most.false in
    let fits = c.if-many.false in
    so_many c.some_starts.result (begins ranges.first ranges.counts.items ranges.strides.items) c.args.most (omega arith)
    (rw (c.deref-2.ensures.value, c.deref-3.ensures.value) at c.some_starts.ensures)
