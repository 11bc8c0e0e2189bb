-- If the longest chunks of both arrays cut a region into few pieces, few chunks of an intermediate array hold some of it.
use Rattle.std.proofs.Common.{◌≡◌, ◌∙◌, ℕ, ◌+◌, ◌-◌, ◌*◌, ◌<◌, ◌≤◌, ◌⊎◌, List, [], ◌∷◌, Contains, length, min, replicate, subst, sym, arith, ⊎_elim, mul_comm}
use Rattle.std.proofs.lemmas.Bool.{cases_lt}
use Rattle.std.proofs.lemmas.List.{length-replicate}
use Rattle.std.specs.List.{AllByRecursion}
use Rattle.zarrs_chunk_base.specs.ArraySubset.{AreWithin, Box, IsBox, IsEmptyBox, ends, lasts}
use Rattle.zarrs_chunk_base.specs.Dimension.{Dimension, Holds, InBox}
use Rattle.zarrs_chunk_base.proofs.InEach.{length_numbers}
use Rattle.zarrs_chunk_axes.specs.EqualEdges.{AreEqualEdges, IsEqualEdges}
use Rattle.zarrs_chunks.proofs.Covers.{head_some, tail_some}
use Rattle.zarrs_chunk_parts.specs.Plan.{Covers}
use Rattle.zarrs_chunk_plan.specs.Counts.{product}
use Rattle.zarrs_chunk_plan.specs.ArrayBoxes.{array_box}
use Rattle.zarrs_chunk_plan.specs.Region.{moved}
use Rattle.zarrs_chunk_plan.proofs.Plans.{not_empty_if_inside}
use Rattle.zarrs_chunk_tasks.specs.Cheapest.{most_choices, most_sizes}
use Rattle.zarrs_chunk_tasks.specs.Edges.{AreFewPieces, AreTriedEdges, IsTriedEdge, IsTriedShape, most_pieces, most_shapes, pieces_by, rounded_up, sums}
use Rattle.zarrs_chunk_tasks.proofs.GroupCounts.{first_within}
use Rattle.zarrs_chunk_tasks.proofs.LeastCost.{times}
use Rattle.zarrs_chunk_tasks.proofs.TriedEdges.{same_longest, up_to}

-- a product that isn't 0 is no less than its first factor
no_less : (unit many : ℕ) → 0 < unit * many → unit ≤ unit * many
no_less unit many some =
    ⊎_elim (λ (more : 0 < many). let up = times unit unit 1 many (omega arith) (omega arith) in omega (arith, up))
    (λ (none : many ≤ 0). let zero_is = mul_comm unit many in let up = times many 0 unit unit none (omega arith) in absurd (omega (arith, some, zero_is, up)))
    (cases_lt 0 many)

-- a tried edge is no shorter than its unit
no_shorter : (size unit edge : ℕ) → unit ≤ size → 0 < edge → IsTriedEdge size unit edge → unit ≤ edge
no_shorter size unit edge within some tried =
    let many = rounded_up (rounded_up size unit) tried.pieces in
    let is = tried.edge_is in
    let up = no_less unit many (omega (arith, some, is)) in
    omega (arith, within, is, up)

-- a chunk of a tried edge that begins in the dimension has a number below that of the units
reached_by : (size unit edge last : ℕ) → unit ≤ size → 0 < edge → last * edge < size → IsTriedEdge size unit edge → last < rounded_up size unit
reached_by size unit edge last within some begins tried =
    let longer = no_shorter size unit edge within some tried in
    ⊎_elim (λ (below : last < rounded_up size unit). below)
    (λ (le : rounded_up size unit ≤ last).
    ⊎_elim (λ (any : 0 < unit).
    let up = up_to size unit any in
    let far = times (rounded_up size unit) last unit edge le longer in
    absurd (omega (arith, up, far, begins)))
    (λ (none : unit ≤ 0). absurd (no_unit none)) (cases_lt 0 unit)) (cases_lt last (rounded_up size unit))
  where
    no_unit : unit ≤ 0 → ⊥
    no_unit none =
        let many = rounded_up (rounded_up size unit) tried.pieces in
        let is = tried.edge_is in
        let low = times unit 0 many many none (omega arith) in
        omega (arith, is, low, some)

-- the last index of a box that isn't empty
last_within : (start shape : List ℕ) → length start ≡ length shape → (¬ Contains shape 0) → AreWithin start shape (lasts start shape)
last_within [] [] e some = tt
last_within (a ∷ start) (n ∷ shape) e some =
    let here = head_some n shape some in
    (omega arith, omega arith, last_within start shape (omega arith) (tail_some n shape some))
last_within _ _ e some = absurd (omega arith)

-- along one dimension
ends_along : (d : Dimension) (size edge r w first many index : ℕ) → IsEqualEdges d size edge
    → (IsTriedEdge size (min r size) edge ⊎ IsTriedEdge size (min w size) edge) → Holds d (first + (many - 1)) index → index < size → 0 < many
    → rounded_up size (min r size) ≤ most_pieces → rounded_up size (min w size) ≤ most_pieces
    → (first + many ≤ most_sizes) × (first + many ≤ rounded_up size (min r size) + rounded_up size (min w size))
ends_along d size edge r w first many index equal tried holds below some few_read few_written =
    let last = first + (many - 1) in
    let start = equal.start last in
    let end = equal.end last in
    let from = holds.from in
    let to = holds.below in
    let any = some_edge edge (last + 1) (omega (arith, end, to)) in
    let begins : last * edge < size = omega (arith, start, from, below) in
    ⊎_elim
    (λ by_read.
    let up = reached_by size (min r size) edge last (omega arith) any begins by_read in (omega (arith, up, few_read, some), omega (arith, up, some)))
    (λ by_written.
    let up = reached_by size (min w size) edge last (omega arith) any begins by_written in (omega (arith, up, few_written, some), omega (arith, up, some)))
    tried
  where
    some_edge : (edge chunks : ℕ) → 0 < chunks * edge → 0 < edge
    some_edge edge chunks reach =
        ⊎_elim (λ (any : 0 < edge). any)
        (λ (none : edge ≤ 0). let up = times chunks chunks edge 0 (omega arith) none in absurd (omega (arith, reach, up))) (cases_lt 0 edge)

-- along each dimension
ends_few : (ds : List Dimension) (sizes edges read written first many index : List ℕ) → AreEqualEdges ds sizes edges
    → AreTriedEdges sizes read written edges → InBox ds (lasts first many) index → AreWithin (replicate (length ds) 0) sizes index → (¬ Contains many 0)
    → AllByRecursion (λ n. n ≤ most_pieces) (pieces_by sizes read) → AllByRecursion (λ n. n ≤ most_pieces) (pieces_by sizes written)
    → AllByRecursion (λ n. n ≤ most_sizes) (ends first many)
    × (product (ends first many) ≤ product (sums (pieces_by sizes read) (pieces_by sizes written)))
ends_few [] [] [] [] [] (_ ∷ _) (_ ∷ _) index equal tried last within some few_read few_written = absurd last
ends_few [] [] [] [] [] [] many index equal tried last within some few_read few_written = (tt, omega arith)
ends_few [] [] [] [] [] (_ ∷ _) [] index equal tried last within some few_read few_written = (tt, omega arith)
ends_few (d ∷ ds) (n ∷ sizes) (edge ∷ edges) (r ∷ read) (w ∷ written) (c ∷ first) (m ∷ many) (i ∷ index) equal tried last within some few_read few_written =
    let up = within.1 in
    let here = ends_along d n edge r w c m i equal.0 tried.0 last.0 (omega (arith, up)) (head_some m many some) few_read.0 few_written.0 in
    let rest = ends_few ds sizes edges read written first many index equal.1 tried.1 last.1 within.2 (tail_some m many some) few_read.1 few_written.1 in (
      (here.0, rest.0),
      times (c + m) (rounded_up n (min r n) + rounded_up n (min w n)) (product (ends first many))
          (product (sums (pieces_by sizes read) (pieces_by sizes written))) here.1 rest.1,
    )
ends_few (_ ∷ _) (_ ∷ _) (_ ∷ _) (_ ∷ _) (_ ∷ _) (_ ∷ _) (_ ∷ _) [] equal tried last within some few_read few_written = absurd last
ends_few (_ ∷ _) (_ ∷ _) (_ ∷ _) (_ ∷ _) (_ ∷ _) [] many index equal tried last within some few_read few_written = absurd last
ends_few (_ ∷ _) (_ ∷ _) (_ ∷ _) (_ ∷ _) (_ ∷ _) (_ ∷ _) [] index equal tried last within some few_read few_written = absurd last
ends_few _ _ _ _ _ first many index equal tried last within some few_read few_written = absurd (first_of (assumption))

few_enough : (choices together : ℕ) → choices ≤ together → together ≤ most_shapes → choices ≤ most_choices
few_enough choices together less few = omega arith

-- the chunks of an intermediate array of a tried shape are few, where the pieces are
pub few_between : (source target : List Dimension) (region : Box) (at : List ℕ) (between : List Dimension) (shape : List ℕ) (cover : Box)
    → (¬ IsEmptyBox region) → IsBox region → IsBox (moved at region) → AreFewPieces source target region at → IsTriedShape source target region at shape
    → AreEqualEdges between region.shape shape → Covers between (moved (array_box between).start region) cover
    → AllByRecursion (λ n. n ≤ most_sizes) (ends cover.start cover.shape) × (product (ends cover.start cover.shape) ≤ most_choices)
few_between source target region at between shape cover some is_box is_moved few tried equal covers =
    let begin = replicate (length between) 0 in
    let long = length-replicate (length between) 0 ∙ sym (length_numbers IsEqualEdges between region.shape shape equal) in
    let origin = first_within begin region.shape long some in
    let (home, holds) = covers.homes begin origin in
    let inside = (covers.named home).1 (begin, holds, origin) in
    let any = not_empty_if_inside cover.start cover.shape home inside in
    let last = last_within cover.start cover.shape covers.is_box.lengths any in
    let (index, in_last, within) = (covers.named (lasts cover.start cover.shape)).0 last in
    let read_is = same_longest source region few.read tried.read is_box some few.is_read tried.is_read in
    let written_is = same_longest target (moved at region) few.written tried.written is_moved some few.is_written tried.is_written in
    let few_read = subst (λ (read : List ℕ). AllByRecursion (λ n. n ≤ most_pieces) (pieces_by region.shape read)) read_is few.few_read in
    let few_written = subst (λ (written : List ℕ). AllByRecursion (λ n. n ≤ most_pieces) (pieces_by region.shape written)) written_is few.few_written in
    let together =
    subst (λ (written : List ℕ). product (sums (pieces_by region.shape tried.read) (pieces_by region.shape written)) ≤ most_shapes) written_is
    (subst (λ (read : List ℕ). product (sums (pieces_by region.shape read) (pieces_by region.shape few.written)) ≤ most_shapes) read_is few.few_together)
    in
    let found =
    ends_few between region.shape shape tried.read tried.written cover.start cover.shape index equal tried.edges in_last within any few_read few_written
    in
    (found.0, few_enough _ _ found.1 together)
