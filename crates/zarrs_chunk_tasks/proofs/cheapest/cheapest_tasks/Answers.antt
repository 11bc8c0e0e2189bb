use Rattle.std.proofs.Common.{◌≡◌, ◌∙◌, ap, arith, length, max, refl, sym}
use Rattle.std.specs.Int.NonZero.{non_zero_u64_get}
use Rattle.std.proofs.lemmas.List.{length-map, length-replicate}
use Rattle.zarrs_chunk_base.specs.Dimension.{Dimension, array_sizes}
use Rattle.zarrs_chunk_plan.proofs.MovedBoxes.{within_starts}
use Rattle.zarrs_chunk_tasks.specs.seen.Choices.{rows_of}
use Rattle.zarrs_chunk_tasks.proofs.ChosenTasks.{all_of_replicate, choice_is, exact_if_few, fits_in_room}
use Rattle.zarrs_chunk_tasks.proofs.TaskLaws.{as_many_dimensions}
use Rattle.zarrs_chunk_tasks.proofs.TriedSizes.{are_tried, some_rows}
use Rattle.zarrs_chunk_tasks.proofs.cheapest.cheapest_tasks.Goals as goal

pub returns-in_default-clause-empty : goal.returns-in_default-clause-empty
returns-in_default-clause-empty g c = λ empty. record {
  long =
      ap length ((c.in_ok-vec.ensures {u = tt}).items_if_clones_equal (λ y same. same)) ∙ length-replicate _ _
      ∙ within_starts c.args.at.now c.args.region.now.shape (array_sizes (g.H.ChunkGridTraits.dimensions c.args.target.now)) (c.in_ok-moved.ensures {u = tt}).lies.in_target
      ∙ length-map (g.H.ChunkGridTraits.dimensions c.args.target.now) (λ (d : Dimension). d.array_size)
      ∙ sym (as_many_dimensions (g.G.ChunkGridTraits.dimensions c.args.source.now) (g.H.ChunkGridTraits.dimensions c.args.target.now) c.args.region.now c.args.at.now
      (array_sizes (g.G.ChunkGridTraits.dimensions c.args.source.now)) (record { lengths = refl; can = (c.in_ok-moved.ensures {u = tt}).lies }));
  ones =
      rw ((c.in_ok-vec.ensures {u = tt}).items_if_clones_equal (λ y same. same))
      (all_of_replicate (λ one. non_zero_u64_get one ≡ 1) _ _ refl);
  cost = refl;
  is_exact = refl;
}

pub cheapest_choice-requires : goal.cheapest_choice-requires
cheapest_choice-requires g c =
    let tried = rw c.in-Some.is at (c.in_ok-tried.ensures {u = tt}).some in
    rw c.deref.ensures.value (some_rows _ _ (are_tried c.in-Some.tried.is_exact _ _ tried.are_sizes))

pub returns-clause-choice : goal.returns-clause-choice
returns-clause-choice g c = λ some.
    let source = g.G.ChunkGridTraits.dimensions c.args.source.now in
    let target = g.H.ChunkGridTraits.dimensions c.args.target.now in
    let region = c.args.region.now in
    let at = c.args.at.now in
    let moved_is = (c.in_ok-moved.ensures {u = tt}).value in
    let tried = rw (c.in-Some.is, c.start.ensures.value, moved_is) at (c.in_ok-tried.ensures {u = tt}).some in
    let (read, is_read, read_is) = c.in_ok-read.ensures {u = tt} in
    let (written, is_written, written_is) = rw moved_is at (c.in_ok-written.ensures {u = tt}) in
    let largest = max read written in
    let rows = rows_of c.in-Some.tried.rows.items in
    record {
      largest = largest;
      is_largest = record { read = read; is_read = is_read; written = written; is_written = is_written; greater = refl };
      choice =
          choice_is source target region at (c.in_ok-moved.ensures {u = tt}).lies (g.met.G.ChunkGridTraits.chained c.args.source.now)
          (g.met.H.ChunkGridTraits.chained c.args.target.now) c.is_a_box.ensures (c.in_ok-moved.ensures {u = tt}).is_box tried.some tried.cover tried.is_cover
          c.in-Some.tried.is_exact rows tried.long tried.are_sizes c.saturating_sub-room.result c.args.read_elements largest c.args.max_elements
          (fits_in_room c.args.max_elements read written _ _ c.saturating_sub-room.result (omega (arith, c.ranges.max_elements.fits)) read_is written_is
          (omega (arith, c.saturating_sub-room.ensures, c.max.ensures)))
          c.in_ok-found.found c.outermost_first.result (rw c.deref.ensures.value at (c.in_ok-found.ensures {u = tt}))
          c.outermost_first.ensures.none c.outermost_first.ensures.some;
    }

pub returns-clause-exact : goal.returns-clause-exact
returns-clause-exact g c = λ some.
    let target = g.H.ChunkGridTraits.dimensions c.args.target.now in
    let tried = rw (c.in-Some.is, c.start.ensures.value, (c.in_ok-moved.ensures {u = tt}).value) at (c.in_ok-tried.ensures {u = tt}).some in
    exact_if_few target c.args.region.now c.args.at.now (g.met.H.ChunkGridTraits.chained c.args.target.now) (c.in_ok-moved.ensures {u = tt}).is_box tried.some
    tried.cover tried.is_cover c.in_ok-found.found c.outermost_first.result c.in-Some.tried.is_exact c.outermost_first.ensures.none
    c.outermost_first.ensures.some tried.few
