-- What many of the definitions and the contracts import, in one place. Operators each file takes from std itself.
pub use Rattle.documents.specs.Document.{in_form_or, optional_in}
pub use Rattle.documents.specs.Reading.{IsRead, IsReadOr, gives, made_of, optional, then, told}
pub use Rattle.documents.specs.StorageMetadata.{StorageMetadata, array_of, stored_of}
pub use Rattle.documents.specs.declared.document_fault.DocumentFault.{DocumentFault}
pub use Rattle.json.specs.Json.{Items, Json, Members, array, item, member, no_items, no_members, null, number, object, string}
pub use Rattle.json.specs.Print.{print}
pub use Rattle.json.specs.Token.{Token, begin_array, begin_object, boolean, end_array, end_object, key}
pub use Rattle.json.specs.Tree.{json_tokens, members_tokens}
pub use Rattle.programs.specs.declared.chunkplan.known_members.UnknownMember.{UnknownMember}
pub use Rattle.zarrs_chunk_tasks.specs.declared.order.Order.{Order}
pub use Rattle.zarrs_chunk_tasks.specs.declared.order.Order.TheVariants.{Source, Target}
pub use Rattle.programs.specs.declared.chunkplan.run_fault.RunFault.{RunFault}
pub use Rattle.programs.specs.declared.chunkplan.run_fault.RunFault.TheVariants.{AtDimensionality, ChunksDimensionality, Encoding, Grid, KeyNotText}
pub use Rattle.programs.specs.declared.chunkplan.run_fault.RunFault.TheVariants.{KeysOfLongDocument, Memory, Metadata, Missing, NoSuchStage}
pub use Rattle.programs.specs.declared.chunkplan.run_fault.RunFault.TheVariants.{NoTasksFit, NotJson, NotObject, PastArray, PastTarget, Read}
pub use Rattle.programs.specs.declared.chunkplan.run_fault.RunFault.TheVariants.{ResizedGrid, SeveralStages, SubsetDimensionality, TargetDimensionality}
pub use Rattle.programs.specs.declared.chunkplan.run_fault.RunFault.TheVariants.{TargetEncoding, TargetGrid, TaskChunks, TooManyForKeys, TooManyToChoose, TooManyToCount, Uncovered}
pub use Rattle.programs.specs.declared.chunkplan.run_fault.RunFault.TheVariants.{Unknown, UnknownOfTarget, Write, WrongValue}
pub use Rattle.serde_json.specs.Data.{Data, depth}
pub use Rattle.serde_json.specs.Find.{as_bool, as_object, as_str, get}
pub use Rattle.serde_json.specs.View.{view}
pub use Rattle.std.specs.Int.NonZero.{non_zero_u64_get}
pub use Rattle.std.specs.List.{AllByRecursion, slice_get}
pub use Rattle.std.specs.Prelude.{Bool, Contains, Err, IfErr, IfOk, IfSome, IsFalse, IsOkAnd, IsSome, IsTrue, List, MatchOption, MatchResult, None}
pub use Rattle.std.specs.Prelude.{Ok, OnOk, Option, Result, Some, Vec, [], bytes_eq, codes, cond, decimal, false, is_some, length, map}
pub use Rattle.std.specs.Prelude.{nat_le, nat_lt, not, option_and_then, option_map, pred, replicate, string_bytes, suc, take, true, unwrap_or, zero, ℕ}
pub use Rattle.std.specs.Str.{IsUtf8}
pub use Rattle.std.specs.declared.alloc.Global.{Global}
pub use Rattle.streams.specs.Watched.{has_failed, watched}
pub use Rattle.streams.specs.seen.Lines.{left}
pub use Rattle.streams.specs.seen.Sent.{written}
pub use Rattle.zarrs_chunk_base.specs.ArraySubset.{Box, IsBox, IsEmptyBox, IsInside, lasts}
pub use Rattle.zarrs_chunk_base.specs.Dimension.{Dimension, array_sizes}
pub use Rattle.zarrs_chunk_base.specs.Greatest.{AllFit}
pub use Rattle.zarrs_chunk_base.specs.Json.{IsJsonOf, edge_of, list_of, pair_of, size_of}
pub use Rattle.zarrs_chunk_base.specs.StoreKey.{EndsInSlash}
pub use Rattle.zarrs_chunk_keys.specs.ChunkKey.{IsKey, default_keys}
pub use Rattle.zarrs_chunk_keys.specs.Numeral.{IsNumeral}
pub use Rattle.zarrs_chunk_keys.specs.seen.Encodings.{encoding_in}
pub use Rattle.zarrs_chunk_parts.specs.declared.part.Part.{Part}
pub use Rattle.zarrs_chunk_plan.specs.Counted.{counted}
pub use Rattle.zarrs_chunk_plan.specs.Counts.{AreReadCounts, product}
pub use Rattle.zarrs_chunk_plan.specs.ArrayBoxes.{AreElementsOf, array_box}
pub use Rattle.zarrs_chunk_plan.specs.Region.{IsRegionFault, moved}
pub use Rattle.zarrs_chunk_plan.specs.Resize.{AreResized, IsUsed}
pub use Rattle.zarrs_chunk_plan.specs.Shares.{before_share, share_of}
pub use Rattle.zarrs_chunk_plan.specs.declared.bytes.ranges.MemoryOrder.{MemoryOrder}
pub use Rattle.zarrs_chunk_plan.specs.declared.copy.region_error.RegionError.{RegionError}
pub use Rattle.zarrs_chunk_plan.specs.declared.counts.ReadCounts.{ReadCounts}
pub use Rattle.zarrs_chunk_plan.specs.declared.resize.plan.ChunkChange.{ChunkChange}
pub use Rattle.zarrs_chunk_plan.specs.declared.shares.share.Share.{Share}
pub use Rattle.zarrs_chunk_questions.specs.Order.{order_in, order_text}
pub use Rattle.zarrs_chunk_tasks.specs.Counts.{in_all}
pub use Rattle.zarrs_chunk_tasks.specs.Tasks.{TaskPlan}
pub use Rattle.zarrs_chunk_tasks.specs.declared.counts.CountsAlong.{CountsAlong}
pub use Rattle.zarrs_chunk_tasks.specs.declared.task.Task.{Task as CopyTask}
pub use Rattle.zarrs_chunk_tasks.specs.declared.tasks_error.TasksError.{TasksError}
pub use Rattle.zarrs_chunks.specs.GridKinds.{IsGrid, IsGridFault, grid_kind, regular}
pub use Rattle.zarrs_chunks.specs.seen.Grids.{grid_in}
