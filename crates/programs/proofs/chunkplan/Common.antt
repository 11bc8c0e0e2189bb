-- What many of the proofs import, in one place.
pub use Rattle.documents.proofs.Readings.{both, later, stops_or, stops_told}
pub use Rattle.documents.specs.Reading.{gives, optional, then, told}
pub use Rattle.documents.specs.StorageMetadata.{StorageMetadata, stored_of}
pub use Rattle.documents.specs.declared.document_fault.DocumentFault.{DocumentFault}
pub use Rattle.json.specs.Print.{begins, ends, print, separator}
pub use Rattle.json.specs.Token.{Token, begin_array, begin_object, boolean, end_array, end_object, key, number, string}
pub use Rattle.json.specs.Tree.{items_tokens, json_tokens, members_tokens}
pub use Rattle.programs.specs.chunkplan.CountsLine.{IsCountsLine, IsStagesLine, flag_text, shape_text}
pub use Rattle.programs.specs.chunkplan.Document.{AsksForLinesOfCopy, Copying, Document, RangesWanted, Selection, Task, TaskChoice, Wanted, all_elements, box_in}
pub use Rattle.programs.specs.chunkplan.Document.{choice_by, choice_in, choice_of, copy_to, copying_in, copying_of, counts_wanted, document_in, document_of, flag_in, form_in}
pub use Rattle.programs.specs.chunkplan.Document.{into_box, into_chunks, line_order_in, lines_wanted, object_of, of_array, ranges_asked_of, ranges_by}
pub use Rattle.programs.specs.chunkplan.Document.{of_region, ranges_in, read_of, rechunking_in, region_in, resize_to, selection_of}
pub use Rattle.programs.specs.chunkplan.Document.{RegionWanted, target_stored_in, task_by, task_in, task_of, wanted_in, wanted_of}
pub use Rattle.programs.specs.chunkplan.Keys.{AreUnexpected, AreKeys, AsStoreKey, HasKeysBehind, IsFirstNoText, IsKeyOfTarget, IsMissingText, IsThere, TellsDone}
pub use Rattle.programs.specs.chunkplan.Keys.{behind, behind_first, closed_length, empty_line, first_line, unexpected_json, unexpected_lines, here}
pub use Rattle.programs.specs.chunkplan.Keys.{key_line, no_line, unended}
pub use Rattle.programs.specs.chunkplan.Line.{box_json, change_line, count_json, line_of, lines_from}
pub use Rattle.programs.specs.chunkplan.Line.{numbers_items, numbers_json, overlap_json, part_json, items_of, task_json, task_line, task_lines, range_items, resize_lines}
pub use Rattle.programs.specs.chunkplan.MemberRules.{Fit, Rule, excludes, is_broken, needs, rule_of}
pub use Rattle.programs.specs.chunkplan.RunFault.{is_not_json, of_create, of_document, of_refusal, of_stream, of_target}
pub use Rattle.programs.specs.chunkplan.seen.Added.{Adds}
pub use Rattle.programs.specs.chunkplan.seen.Digits.{AreDigits, HasText, is_text, no_text, value, value_with}
pub use Rattle.programs.specs.chunkplan.seen.Pieces.{comma_before, ranges_tokens}
pub use Rattle.programs.specs.chunkplan.seen.Pieces.{begin_of_task, begin_task_tokens, end_of_task, item_text, middle_of_task, middle_task_tokens, text_as, whole_if_tokens}
pub use Rattle.zarrs_chunk_tasks.specs.declared.order.Order.{Order}
pub use Rattle.zarrs_chunk_tasks.specs.declared.order.Order.TheVariants.{Source, Target}
pub use Rattle.programs.specs.declared.chunkplan.run_fault.RunFault.{RunFault}
pub use Rattle.programs.specs.declared.chunkplan.run_fault.RunFault.TheVariants.{KeyNotText, KeysOfLongDocument, Memory, NotJson, Read}
pub use Rattle.programs.specs.declared.chunkplan.run_fault.RunFault.TheVariants.{SubsetDimensionality, TooManyForKeys, Uncovered, Write}
pub use Rattle.serde_json.specs.Data.{Data}
pub use Rattle.serde_json.specs.Find.{get}
pub use Rattle.serde_json.specs.View.{view}
pub use Rattle.std.proofs.Common.{Bool, Contains, Err, IfOk, IfSome, IsErrAnd, IsFalse, IsSome, IsSomeAnd, IsTrue, List, MatchResult, None, Ok, OnOk}
pub use Rattle.std.proofs.Common.{Option, Result, Some, Vec, [], ap, append-nil, append_assoc, ap₂, arith, bytes_eq, codes, cond, decimal, drop, eqb}
pub use Rattle.std.proofs.Common.{eqb-true, false, false-eqb, get_or, inl, inr, length, length-append, map, option_map, refl, rules, slice_get}
pub use Rattle.std.proofs.Common.{slice_index_or, subst, suc, sym, take, take_all, true, true≢false, zero, ℕ, ⊎_elim, ◌%◌, ◌&&◌, ◌*◌, ◌++◌, ◌+◌, ◌/◌}
pub use Rattle.std.proofs.Common.{◌<◌, ◌==◌, ◌^◌, ◌↔◌, ◌∙◌, ◌∷◌, ◌≡◌, ◌≢◌, ◌≤◌, ◌⊎◌}
pub use Rattle.std.proofs.lemmas.Bool.{cases_lt, le-leb, lt-leb}
pub use Rattle.std.proofs.lemmas.List.{drop_more, length-replicate, map-append, map-id, nil_from_length, take_more}
pub use Rattle.std.proofs.lemmas.List.Elements.{All-contains, All-from_recursion, Contains-append_cases, Contains-append_left, Contains-append_right}
pub use Rattle.std.proofs.lemmas.List.Elements.{Contains-push, Contains-push_cases}
pub use Rattle.std.proofs.lemmas.Option.{same_Some, slice_get_within}
pub use Rattle.std.proofs.lemmas.Result.{MatchResult-weaker, err_from_is_err_and}
pub use Rattle.std.proofs.lemmas.Slice.Zip.{AllZip-long, AllZip-right}
pub use Rattle.std.specs.Int.NonZero.{non_zero_u64_get}
pub use Rattle.std.specs.Io.BufRead.{drop_through, take_through}
pub use Rattle.std.specs.List.{AllByRecursion, AllZip, fold}
pub use Rattle.std.specs.declared.alloc.AllocError.{AllocError}
pub use Rattle.streams.proofs.Known.{for_known}
pub use Rattle.streams.proofs.LineBytes.{both_parts, nothing_left}
pub use Rattle.streams.proofs.Sent.{sends_longer, sends_more, sends_nothing}
pub use Rattle.streams.specs.OneLine.{unbroken}
pub use Rattle.streams.specs.Watched.{IsReadFailure, has_failed, watched}
pub use Rattle.streams.specs.declared.stream_fault.StreamFault.{StreamFault}
pub use Rattle.streams.specs.seen.Lines.{left}
pub use Rattle.streams.specs.seen.Sent.{Output, written}
pub use Rattle.zarrs_chunk_base.specs.ArraySubset.{Box, IsBox, IsEmptyBox, IsInside}
pub use Rattle.zarrs_chunk_base.specs.Dimension.{Dimension, IsChain}
pub use Rattle.zarrs_chunk_base.specs.Json.{edge_of, list_of, pair_of, size_of}
pub use Rattle.zarrs_chunk_base.specs.Refusal.{OrMemory, TellsLengths}
pub use Rattle.zarrs_chunk_keys.specs.declared.chunk_key_encoding.named.ChunkKeyEncoding.{ChunkKeyEncoding}
pub use Rattle.zarrs_chunk_parts.specs.Plan.{IsPart, IsPlan, Meets}
pub use Rattle.zarrs_chunk_parts.specs.declared.part.Part.{Part}
pub use Rattle.zarrs_chunk_plan.proofs.ByNumber.{counted_cases}
pub use Rattle.zarrs_chunk_plan.proofs.MovedBoxes.{within_starts}
pub use Rattle.zarrs_chunk_plan.proofs.SomePlan.{have_parts, plan_over}
pub use Rattle.zarrs_chunk_plan.proofs.SomeResizes.{ChangesHaveCome, IsChangeOf, asked_are_used, changes_ahead, first_change, last_change}
pub use Rattle.zarrs_chunk_plan.proofs.SomeResizes.{one_more_change}
pub use Rattle.zarrs_chunk_plan.proofs.Walked.{HaveCome, at_first, at_last, one_more, plan_of}
pub use Rattle.zarrs_chunk_plan.specs.Counted.{counted}
pub use Rattle.zarrs_chunk_plan.specs.Counts.{AreReadCounts, product}
pub use Rattle.zarrs_chunk_plan.specs.ArrayBoxes.{array_box}
pub use Rattle.zarrs_chunk_plan.specs.Region.{moved}
pub use Rattle.zarrs_chunk_plan.specs.Shares.{before_share, share_of}
pub use Rattle.zarrs_chunk_plan.specs.StoredChunks.{IsListed, IsOfArray}
pub use Rattle.zarrs_chunk_plan.specs.declared.copy.stored_chunks.StoredChunks.{StoredChunks}
pub use Rattle.zarrs_chunk_plan.specs.declared.read.walk.Parts.{Parts}
pub use Rattle.zarrs_chunk_plan.specs.declared.shares.share.Share.{Share}
pub use Rattle.zarrs_chunk_plan.specs.seen.Changes.{all_changes, changes_to_come}
pub use Rattle.zarrs_chunk_plan.specs.seen.Parts.{ArePartsToCome, HasKeys, IsAbout, all_chunks, chunks_to_come}
pub use Rattle.zarrs_chunk_plan.specs.seen.StoredChunks.{Knows}
pub use Rattle.zarrs_chunk_tasks.specs.Tasks.{TaskPlan}
pub use Rattle.zarrs_chunks.specs.declared.chunk_grid.named.ChunkGrid.{ChunkGrid}
pub use Rattle.zarrs_chunks.specs.seen.Grids.{chained_in, grid_in, kind_in}
