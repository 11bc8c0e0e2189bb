-- What many of the proofs import, in one place.
pub use Rattle.std.proofs.Common.{Bool, Contains, Err, Global, IfOk, IfSome, IsTrue, List, MatchOption, None, Ok, Option, Result, Some, Vec, [], ap}
pub use Rattle.std.proofs.Common.{append-nil, append_assoc, ap₂, arith, drop, false, fold, get_or, inl, inr, length, length-append, map, max, min}
pub use Rattle.std.proofs.Common.{refl, replicate, rules, set, slice_index_or, subst, suc, sym, take, tests, true, true≢false, zero, zip, ℕ, ⊎_elim}
pub use Rattle.std.proofs.Common.{◌%◌, ◌*◌, ◌++◌, ◌+◌, ◌-◌, ◌/◌, ◌<◌, ◌==◌, ◌^◌, ◌↔◌, ◌∙◌, ◌∷◌, ◌≡◌, ◌≢◌, ◌≤◌, ◌⊎◌}
pub use Rattle.std.proofs.Math.Nat.{div-add-mod, div-eq_of_lt, mod-lt, mul-le-mul_right, mul-zero, mul_assoc, mul_comm}
pub use Rattle.std.proofs.Math.Seq.{drop-cons, drop-nil, take-length}
pub use Rattle.std.proofs.lemmas.Bool.{cases_lt, le-ltb, lt-ltb}
pub use Rattle.std.proofs.lemmas.Iterator.{YieldsList-from_slice, YieldsList-from_zip}
pub use Rattle.std.proofs.lemmas.Iterator.Consumers.{YieldsList-at}
pub use Rattle.std.proofs.lemmas.List.{drop-map, length-drop, length-map, length-replicate, map-append, nil_from_length, reverse-append, take_all}
pub use Rattle.std.proofs.lemmas.List.{take_more}
pub use Rattle.std.proofs.lemmas.List.Elements.{Contains-append_cases, Contains-append_left, Contains-append_right, Contains-get_or}
pub use Rattle.std.proofs.lemmas.List.Sums.{sum_by-cons}
pub use Rattle.std.proofs.lemmas.Nat.{row_fits}
pub use Rattle.std.proofs.lemmas.Option.{get_or_from_slice_get, same_Some, slice_get_within}
pub use Rattle.std.proofs.lemmas.Slice.Zip.{AllZip-long}
pub use Rattle.std.specs.Int.{bit_at}
pub use Rattle.std.specs.Int.NonZero.{non_zero_u64_get}
pub use Rattle.std.specs.Iterator.{Drains}
pub use Rattle.std.specs.List.{AllByRecursion, AllPairs, AllZip, flat_map, range_with_len, slice_get, sum}
pub use Rattle.std.specs.declared.alloc.AllocError.{AllocError}
pub use Rattle.zarrs_chunk_axes.specs.Along.{Along, IsRange}
pub use Rattle.zarrs_chunk_axes.specs.EqualEdges.{IsEqualEdges}
pub use Rattle.zarrs_chunk_axes.specs.InBounds.{AreBelow}
pub use Rattle.zarrs_chunk_axes.specs.RowMajor.{rows}
unfoldable pub use Rattle.zarrs_chunk_axes.specs.RowMajor.{row_major}
pub use Rattle.zarrs_chunk_base.proofs.Boxes.{fits, within_lengths}
pub use Rattle.zarrs_chunk_base.proofs.InEach.{length_values}
pub use Rattle.zarrs_chunk_base.specs.ArraySubset.{AreWithin, Box, IsBox, IsEmptyBox, IsInside, ends, lasts, zero_box}
pub use Rattle.zarrs_chunk_base.specs.Dimension.{Dimension, Holds, InBox, InEach, IsChain, IsPlace, IsShape, array_sizes}
pub use Rattle.zarrs_chunk_base.specs.Greatest.{AllFit, greatest}
pub use Rattle.zarrs_chunk_parts.specs.Plan.{HasElement, IsCommon, IsPart, IsPlan, Meets}
pub use Rattle.zarrs_chunk_parts.specs.declared.part.Part.{Part}
pub use Rattle.zarrs_chunk_plan.specs.Bytes.{begins, in_order}
unfoldable pub use Rattle.zarrs_chunk_plan.specs.Counted.{counted}
pub use Rattle.zarrs_chunk_plan.specs.Counts.{AreMany, product}
pub use Rattle.zarrs_chunk_plan.specs.ArrayBoxes.{all_chunks_box, array_box}
pub use Rattle.zarrs_chunk_plan.specs.Region.{CanBeMoved, EndWithin, moved, shifted}
pub use Rattle.zarrs_chunk_plan.specs.Resize.{AreResized, HasElementOf, IsChange, IsChanged, IsKept, IsUsed}
pub use Rattle.zarrs_chunk_plan.specs.Shares.{before_share, between}
pub use Rattle.zarrs_chunk_plan.specs.declared.resize.plan.Change.{Change}
pub use Rattle.zarrs_chunk_plan.specs.seen.Between.{rank}
pub use Rattle.zarrs_chunk_plan.specs.seen.Changes.{changes_to_come}
pub use Rattle.zarrs_chunk_plan.specs.seen.Outside.{chunks_of_boxes, pairwise_min}
pub use Rattle.zarrs_chunk_plan.specs.seen.Parts.{HasKeys}
pub use Rattle.zarrs_chunk_plan.specs.seen.Sources.{TakesSome, counters, counters_from, met_along, met_by}
pub use Rattle.zarrs_chunk_plan.specs.seen.Sources.{met_in, taken, taken_from}
unfoldable pub use Rattle.zarrs_chunk_plan.specs.seen.Sources.{met}
unfoldable pub use Rattle.zarrs_chunk_plan.specs.seen.StoredChunks.{is_stored}
pub use Rattle.zarrs_chunk_plan.specs.seen.Used.{HoldsSome, UsesFirst}
pub use Rattle.zarrs_chunks.proofs.Chains.{earlier_has, no_later, same_box}
pub use Rattle.zarrs_chunks.proofs.ChunksInBoxes.{are_those_inside, chunks_once, inside_fits, length_below, lie_within, made_of, offset_of, source_of}
pub use Rattle.zarrs_chunks.proofs.Covers.{head_some, tail_some}
pub use Rattle.zarrs_chunks.proofs.FittingChunks.{counted_home}
pub use Rattle.zarrs_chunks.proofs.Meeting.{cover_meets}
pub use Rattle.zarrs_chunks.specs.Subsets.{IsCover}
pub use Rattle.zarrs_chunks.specs.Walks.{chunks_in, counted_from}
