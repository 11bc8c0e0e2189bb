-- What values of the program stand for that hold a question, or why there is none.
use Rattle.std.specs.Prelude.{◌≡◌, ℕ, map, option_map, Result, Ok, Err, Vec, MatchResult, string_bytes}
use Rattle.std.specs.Int.NonZero.{non_zero_u64_get}
use Rattle.std.specs.declared.alloc.Global.{Global}
use Rattle.serde_json.specs.View.{view}
use Rattle.zarrs_chunk_base.specs.Refusal.{OrMemory}
use Rattle.zarrs_chunk_base.specs.declared.refusal.Refusal.{Refusal}
use Rattle.zarrs_chunk_plan.specs.declared.shares.share.Share.{Share}
use Rattle.zarrs_chunk_questions.specs.Question as question
use Rattle.zarrs_chunk_questions.specs.Reading.{Fault, Reading, missing, no_call, not_json, not_object, wrong_value}
use Rattle.zarrs_chunk_questions.specs.declared.asked.Asked.{Asked}
use Rattle.zarrs_chunk_questions.specs.declared.asked.Asked.TheVariants as asked
use Rattle.zarrs_chunk_questions.specs.declared.asked.CopyAsked.{CopyAsked}
use Rattle.zarrs_chunk_questions.specs.declared.asked.Items.{Items}
use Rattle.zarrs_chunk_questions.specs.declared.asked.TargetArray.{TargetArray}
use Rattle.zarrs_chunk_questions.specs.declared.bytes.BytesAsked.{BytesAsked}
use Rattle.zarrs_chunk_questions.specs.declared.question.Question.{Question}
use Rattle.zarrs_chunk_questions.specs.declared.question.Question.TheVariants as asks
use Rattle.zarrs_chunk_questions.specs.declared.unreadable.Unreadable.{Unreadable}
use Rattle.zarrs_chunk_questions.specs.declared.unreadable.Unreadable.TheVariants.{Missing, NoCall, NotJson, NotObject, WrongValue}

abbrev pub fault_of : Unreadable → Fault
fault_of NotJson = not_json
fault_of NotObject = not_object
fault_of (Missing field) = missing field.now
fault_of (WrongValue field) = wrong_value field.now
fault_of (NoCall name) = no_call (string_bytes name)

-- what was read is what the definition says; or there was no memory
abbrev pub IsRead : {X Y : Type 0} → (X → Y) → Reading Y → Result X (Refusal Unreadable) → Type 0
IsRead seen reading result = MatchResult result (λ x. reading ≡ Ok (seen x)) (OrMemory (λ fault. reading ≡ Err (fault_of fault)))

abbrev pub lists_of : Vec ℕ Global × Vec ℕ Global → question.Lists
lists_of both = (both.0.items, both.1.items)

abbrev pub items_of : Items → question.Items
items_of items = record { most = items.most; first = items.first }

abbrev pub target_of : TargetArray → question.TargetArray
target_of target = record {
  shape = option_map (λ shape. shape.items) target.shape;
  chunk_grid = view target.chunk_grid.now;
  chunk_key_encoding = view target.chunk_key_encoding.now;
}

abbrev pub copy_asked_of : CopyAsked → question.CopyAsked
copy_asked_of copy = record {
  target = target_of copy.target;
  subset = option_map lists_of copy.subset;
  at = option_map (λ at. at.items) copy.at;
  task_chunks = option_map (λ each. map non_zero_u64_get each.items) copy.task_chunks;
  order = copy.order;
}

abbrev pub bytes_of : BytesAsked → question.BytesAsked
bytes_of asked = record {
  edges = asked.edges.items;
  elements = lists_of asked.elements;
  item = non_zero_u64_get asked.item_size;
  order = asked.order;
}

abbrev pub share_of : Share → question.ShareAsked
share_of share = (share.number, share.of)

abbrev pub asked_of : Asked → question.Asked
asked_of (asked.OfGrid call) = question.of_grid call
asked_of (asked.OfNumbers call numbers) = question.of_numbers call numbers.items
asked_of (asked.OfBox call lists) = question.of_box call (lists_of lists)
asked_of (asked.OfWalk walk items) = question.of_walk walk (items_of items)
asked_of (asked.Runs dimension) = question.runs dimension
asked_of (asked.Counted index) = question.counted index.items
asked_of (asked.Located encoding index) = question.located (view encoding.now) index.items
asked_of (asked.Parts encoding items lists) = question.parts (view encoding.now) (items_of items) (lists_of lists)
asked_of (asked.Tasks encoding copy items) = question.tasks (view encoding.now) (copy_asked_of copy) (items_of items)
asked_of (asked.TaskCounts encoding copy share) = question.task_counts (view encoding.now) (copy_asked_of copy) (share_of share)
asked_of (asked.ChangedChunks resize) = question.changed_chunks resize.items

abbrev pub question_of : Question → question.Question
question_of (asks.OfArray shape chunk_grid asked) = question.of_array shape.items (view chunk_grid.now) (asked_of asked)
question_of (asks.Encode encoding chunk) = question.encode (view encoding.now) chunk.items
question_of (asks.Decode encoding key dimensionality) = question.decode (view encoding.now) (string_bytes key) dimensionality
question_of (asks.Bytes asked) = question.byte_ranges (bytes_of asked)
