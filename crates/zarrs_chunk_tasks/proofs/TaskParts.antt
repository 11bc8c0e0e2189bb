-- The parts that a task reads and writes.
use Rattle.std.proofs.Common.{◌≡◌, ◌∙◌, ◌/◌, ℕ, IsTrue, List, [], ◌∷◌, Contains, length, map, refl, ap, ap₂, subst, sym, arith}
use Rattle.std.proofs.lemmas.Slice.Zip.{AllZip-long}
use Rattle.std.specs.List.{AllByRecursion, AllZip, sum}
use Rattle.zarrs_chunk_base.specs.ArraySubset.{Box, IsBox, IsInside}
use Rattle.zarrs_chunk_base.specs.Dimension.{Dimension, HasEdge, InBox, IsChain, IsShape}
use Rattle.zarrs_chunk_base.proofs.InEach.{same_values}
use Rattle.zarrs_chunk_axes.specs.InBounds.{AreBelow}
use Rattle.zarrs_chunks.specs.Walks.{chunks_in, counted_from}
use Rattle.zarrs_chunks.proofs.ChunksInBoxes.{are_those_inside, length_below, lie_within}
use Rattle.zarrs_chunk_parts.specs.Plan.{HasElement, IsPart, IsPlan}
use Rattle.zarrs_chunk_parts.specs.declared.part.Part.{Part}
use Rattle.zarrs_chunk_plan.specs.Counts.{product}
use Rattle.zarrs_chunk_plan.specs.ArrayBoxes.{array_box}
use Rattle.zarrs_chunk_plan.proofs.SameBoxes.{chunks_of_same}
use Rattle.zarrs_chunk_plan.proofs.Plans.{all_long, chunk_of, counted_once, has_common, length_counted, some_part, source_of}
use Rattle.zarrs_chunk_plan.proofs.Rechunkings.{in_array}
use Rattle.zarrs_chunk_tasks.specs.Counts.{AreMet, parts_met}
use Rattle.zarrs_chunk_tasks.specs.Groups.{InGroup}
use Rattle.zarrs_chunk_tasks.specs.Tasks.{AreTasksByTarget, GoesByBuffer, IsTask, Moves}
use Rattle.zarrs_chunk_tasks.specs.declared.task.Task.{Task}
use Rattle.zarrs_chunk_tasks.proofs.TaskLaws.{same_chunk}

-- a part has an element at the place of the buffer that lies as far after its first place as the element after the box's first one
at_place : {ds : List Dimension} {IsKey : List ℕ → List ℕ → Type 0} {b : Box} {parts : List Part} (plan : IsPlan ds IsKey b parts) (part : Part)
    → Contains parts part → (index place behind : List ℕ) (has : HasElement b part index place) → length behind ≡ length b.start
    → index ≡ counted_from b.start behind → counted_from part.in_selection.start has.steps ≡ behind
at_place {b = b} plan part among index place behind has behind_long is =
    let (chunk, _, is_part) = chunk_of plan part among in
    let long = all_long is_part index (has_common is_part has) in
    let steps = length_below part.in_chunk.shape has.steps has.below in
    counted_once b.start (counted_from part.in_selection.start has.steps) behind
    (omega (arith, length_counted part.in_selection.start has.steps (omega (arith, long.3, long.4, steps)), long.1, long.4)) behind_long
    (sym has.index_is ∙ is)

pub by_buffer : {source target : List Dimension} {IsSourceKey IsTargetKey : List ℕ → List ℕ → Type 0} (task : Task) (from into : List Part)
    → IsBox task.source → IsBox task.target → task.source.shape ≡ task.target.shape → IsPlan source IsSourceKey task.source from
    → IsPlan target IsTargetKey task.target into → (index to : List ℕ) → Moves task index to → GoesByBuffer task from into index to
by_buffer task from into is_source is_target one_shape plan written index to goes =
    let behind = goes.behind in
    let below = goes.below in
    let also_below = subst (λ shape. AreBelow shape behind) one_shape below in
    let many = length_below task.source.shape behind below in
    let also_many = length_below task.target.shape behind also_below in
    let inside = subst (IsInside task.source) (sym goes.from) (lie_within task.source.start task.source.shape behind is_source.lengths below) in
    let also_inside = subst (IsInside task.target) (sym goes.into) (lie_within task.target.start task.target.shape behind is_target.lengths also_below) in
    let (read, among, (place, has)) = some_part plan index inside in
    let (write, also_among, (to_place, also_has)) = some_part written to also_inside in
    record {
      read = read;
      among_read = among;
      place = place;
      reads = has;
      write = write;
      among_written = also_among;
      to_place = to_place;
      writes = also_has;
      in_buffer = at_place plan read among index place behind has (omega (arith, many, is_source.lengths)) goes.from
          ∙ sym (at_place written write also_among to to_place behind also_has (omega (arith, also_many, is_target.lengths)) goes.into);
    }

-- ---- whole parts

in_the_group : (ds : List Dimension) (each chunk group index also : List ℕ) → AllByRecursion IsChain ds → InBox ds chunk index → InGroup ds each group index
    → InBox ds chunk also → InGroup ds each group also
in_the_group [] [] [] [] [] [] chains box in_group also_box = tt
in_the_group (d ∷ ds) (k ∷ each) (c ∷ chunk) (t ∷ group) (i ∷ index) (j ∷ also) chains box in_group also_box =
    let same = same_chunk d chains.0 in_group.0.chunk c i in_group.0.holds box.0 in (
      record { chunk = c; holds = also_box.0; joined = subst (λ m. m / k ≡ t) same in_group.0.joined },
      in_the_group ds each chunk group index also chains.1 box.1 in_group.1 also_box.1,
    )
in_the_group _ _ _ _ _ _ chains box in_group also_box = absurd assumption

pub writes_whole : (ds : List Dimension) (IsKey : List ℕ → List ℕ → Type 0) (each : List ℕ) (tasks : List Task) → AllByRecursion IsChain ds
    → AreTasksByTarget ds each (array_box ds) (array_box ds).start tasks → (task : Task) → Contains tasks task → (parts : List Part)
    → IsPlan ds IsKey task.target parts → (part : Part) → Contains parts part → IsTrue part.whole
writes_whole ds IsKey each tasks chains are task among parts plan part in_parts =
    let (group, _, is) = source_of (IsTask ds each (array_box ds) (array_box ds).start (array_box ds).start) (chunks_in are.groups) tasks are.are_tasks task among in
    let (chunk, counted, is_part) = chunk_of plan part in_parts in
    let (index, box, inside) = (plan.is_cover.named chunk).0 ((are_those_inside plan.cover plan.is_cover.is_box chunk).0 counted) in
    let (_, in_group) = (is.buffer.elements index).0 (subst (λ b. IsInside b index) is.target inside) in
    is_part.whole.1
    (λ other holds below.
    subst (λ b. IsInside b other) (sym is.target)
    ((is.buffer.elements other).1 ((in_array ds other).0 below, in_the_group ds each chunk group index other chains box in_group holds)))

-- ---- what parts have

same_edges : (d : Dimension) (c n m : ℕ) → HasEdge d c n → HasEdge d c m → n ≡ m
same_edges d c n m one other = omega (arith, one.edge, other.edge)

shapes_are : (ds : List Dimension) (IsKey : List ℕ → List ℕ → Type 0) (b : Box) (chunks shapes : List (List ℕ)) (parts : List Part)
    → AllZip (IsShape ds) chunks shapes → AllZip (IsPart ds IsKey b) chunks parts → map product shapes ≡ map (λ (part : Part). product part.shape.items) parts
shapes_are ds IsKey b [] [] [] are are_parts = refl
shapes_are ds IsKey b (chunk ∷ chunks) (shape ∷ shapes) (part ∷ parts) are are_parts =
    ap₂ (λ n ns. n ∷ ns) (ap product (same_values HasEdge same_edges ds chunk shape part.shape.items are.0 are_parts.0.shape))
    (shapes_are ds IsKey b chunks shapes parts are.1 are_parts.1)
shapes_are ds IsKey b _ _ _ are are_parts = absurd assumption

-- what is met of a box is what its plan reads
pub met_by_parts : (ds : List Dimension) (IsKey : List ℕ → List ℕ → Type 0) (b : Box) (met : ℕ × ℕ) (parts : List Part) → AreMet ds b met
    → IsPlan ds IsKey b parts → met ≡ parts_met parts
met_by_parts ds IsKey b (many, elements) parts are plan =
    let same = chunks_of_same are.cover plan.cover are.is_cover.is_box plan.is_cover.is_box
    (λ chunk. (
      λ inside. (plan.is_cover.named chunk).1 ((are.is_cover.named chunk).0 inside),
      λ inside. (are.is_cover.named chunk).1 ((plan.is_cover.named chunk).0 inside),
    ))
    in
    let shapes = subst (λ chunks. AllZip (IsShape ds) chunks are.shapes) same are.are_shapes in
    ap₂ (λ n m. (n, m)) (sym are.chunks ∙ ap length same ∙ sym (AllZip-long (IsPart ds IsKey b) (chunks_in plan.cover) parts plan.are_parts))
    (sym are.elements ∙ ap sum (shapes_are ds IsKey b (chunks_in plan.cover) are.shapes parts shapes plan.are_parts))
