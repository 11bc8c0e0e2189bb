-- What a line's tree asks.
-- Source: Zarr V3 core, array metadata, for `shape`, `chunk_grid` and `chunk_key_encoding`; the other members are this library's own.
use Rattle.std.specs.Prelude.{◌≡◌, ℕ, List, bytes_eq, codes, cond, nat_lt, Option, Some, None, Ok, Err, option_and_then, unwrap_or}
use Rattle.std.specs.Option.{ok_or}
use Rattle.serde_json.specs.Data.{Data}
use Rattle.serde_json.specs.Find.{as_object, as_str, get}
use Rattle.zarrs_chunk_base.specs.Json.{edge_of, list_of, pair_of, size_of}
use Rattle.zarrs_chunk_plan.specs.declared.bytes.ranges.MemoryOrder.{MemoryOrder}
use Rattle.zarrs_chunk_plan.specs.declared.bytes.ranges.MemoryOrder.TheVariants.{C}
use Rattle.zarrs_chunk_tasks.specs.declared.order.Order.{Order}
use Rattle.zarrs_chunk_tasks.specs.declared.order.Order.TheVariants.{Source, Target}
use Rattle.zarrs_chunk_questions.specs.Calls.{IsNamed}
use Rattle.zarrs_chunk_questions.specs.Order.{order_in}
use Rattle.zarrs_chunk_questions.specs.Reading.{Reading, in_form, missing, no_call, not_object, optional_in, optional_value, required, required_in, then}
use Rattle.zarrs_chunk_questions.specs.Reading.{wrong_value}
use Rattle.zarrs_chunk_questions.specs.declared.call.Call.{Call}
use Rattle.zarrs_chunk_questions.specs.declared.call.Call.TheVariants as call
use Rattle.zarrs_chunk_questions.specs.declared.call.OfArray.{OfArray}
use Rattle.zarrs_chunk_questions.specs.declared.call.OfArray.TheVariants as array
use Rattle.zarrs_chunk_questions.specs.declared.call.OfBox.{OfBox}
use Rattle.zarrs_chunk_questions.specs.declared.call.OfGrid.{OfGrid}
use Rattle.zarrs_chunk_questions.specs.declared.call.OfNumbers.{OfNumbers}
use Rattle.zarrs_chunk_questions.specs.declared.call.WalkOf.{WalkOf}

-- a box, as its start and its shape say it
abbrev pub Lists : Type 0
Lists = List ℕ × List ℕ

-- which items of a walk: how many at most, and the number of the first, where it doesn't begin at its beginning
pub record Items : Type 0 where
  pub most : ℕ
  pub first : Option ℕ

-- the array that elements are copied to: its shape, if one is given, and the trees of a grid's and an encoding's metadata
pub record TargetArray : Type 0 where
  pub shape : Option (List ℕ)
  pub chunk_grid : Data
  pub chunk_key_encoding : Data

-- A copy: the target; a box of the array's elements, and the index in the target's array that it begins at; how many neighbouring chunks a task takes.
-- The order names the array whose chunks these are. All but the target and the order may be missing.
pub record CopyAsked : Type 0 where
  pub target : TargetArray
  pub subset : Option Lists
  pub at : Option (List ℕ)
  pub task_chunks : Option (List ℕ)
  pub order : Order

-- a share of the tasks: its number, counted from 0, and how many shares there are
abbrev pub ShareAsked : Type 0
ShareAsked = ℕ × ℕ

-- what is asked of a chunk's bytes: the chunk's edges, a box of its elements, how many bytes an element has, and in which order they are stored
pub record BytesAsked : Type 0 where
  pub edges : List ℕ
  pub elements : Lists
  pub item : ℕ
  pub order : MemoryOrder

-- what an array's grid is asked, by some calls with the tree of an encoding's metadata
pub data Asked : Type 0 where
  of_grid : OfGrid → Asked
  of_numbers : OfNumbers → (numbers : List ℕ) → Asked
  of_box : OfBox → (b : Lists) → Asked
  of_walk : WalkOf → (items : Items) → Asked
  runs : (dimension : ℕ) → Asked
  counted : (index : List ℕ) → Asked
  located : (encoding : Data) (index : List ℕ) → Asked
  parts : (encoding : Data) (items : Items) (b : Lists) → Asked
  tasks : (encoding : Data) (copy : CopyAsked) (items : Items) → Asked
  task_counts : (encoding : Data) (copy : CopyAsked) (share : ShareAsked) → Asked
  changed_chunks : (resize : List ℕ) → Asked

-- what is asked: of the grid of an array with this shape, of which the tree is the metadata; the key of a chunk; the chunk of a key; or of a chunk's
-- bytes
pub data Question : Type 0 where
  of_array : (shape : List ℕ) (chunk_grid : Data) (asked : Asked) → Question
  encode : (encoding : Data) (chunk : List ℕ) → Question
  decode : (encoding : Data) (key : List ℕ) (dimensionality : ℕ) → Question
  byte_ranges : (asked : BytesAsked) → Question

-- the items that are asked for, if some items of a walk, of a plan or of tasks are
abbrev pub items_asked : Question → Option Items
items_asked (of_array shape chunk_grid (of_walk walk items)) = Some items
items_asked (of_array shape chunk_grid (parts encoding items b)) = Some items
items_asked (of_array shape chunk_grid (tasks encoding copy items)) = Some items
items_asked _ = None

-- ---- how it is read, and the first fault of a tree that asks nothing

abbrev pub numbers_in : Data → Reading (List ℕ)
numbers_in = required_in (list_of size_of) (codes "of")

abbrev pub lists_in : List ℕ → Data → Reading Lists
lists_in = required_in (pair_of (list_of size_of))

abbrev pub items_in : Data → Reading Items
items_in d =
    then (required_in size_of (codes "items") d) (λ most.
    then (optional_in size_of (codes "first") d) (λ first.
    Ok (record { most = most; first = first })))

-- a member of the target, which a fault calls by its path
abbrev pub of_target : (field path : List ℕ) → Data → Reading Data
of_target field path target = ok_or (get field target) (missing path)

-- the target, which is an object
abbrev pub target_object_in : Data → Reading Data
target_object_in d = then (required (codes "target") d) (λ target. then (in_form as_object (codes "target") target) (λ _. Ok target))

-- its shape, if it has one
abbrev pub target_shape_in : Data → Reading (Option (List ℕ))
target_shape_in target = optional_value (list_of size_of) (codes "target.shape") (get (codes "shape") target)

abbrev pub target_in : Data → Reading TargetArray
target_in d =
    then (target_object_in d) (λ target.
    then (target_shape_in target) (λ sizes.
    then (of_target (codes "chunk_grid") (codes "target.chunk_grid") target) (λ grid.
    then (of_target (codes "chunk_key_encoding") (codes "target.chunk_key_encoding") target) (λ encoding.
    Ok (record { shape = sizes; chunk_grid = grid; chunk_key_encoding = encoding })))))

-- the array that a text names
abbrev pub named_order : List ℕ → Option Order
named_order text = cond (bytes_eq text (codes "target")) (Some Target) (cond (bytes_eq text (codes "source")) (Some Source) None)

-- the array whose chunks tasks take: the target if the member is missing
abbrev pub task_order_in : Data → Reading Order
task_order_in d =
    then (optional_in (λ text. option_and_then named_order (as_str text)) (codes "order") d) (λ order.
    Ok (unwrap_or order Target))

-- what is copied to a target, and by which tasks
abbrev pub copy_in : TargetArray → Data → Reading CopyAsked
copy_in target d =
    then (optional_in (pair_of (list_of size_of)) (codes "subset") d) (λ subset.
    then (optional_in (list_of size_of) (codes "at") d) (λ at.
    then (optional_in (list_of edge_of) (codes "task_chunks") d) (λ each.
    then (task_order_in d) (λ order.
    Ok (record { target = target; subset = subset; at = at; task_chunks = each; order = order })))))

-- the one share that has all, if no share is given; a share's number is below how many there are
abbrev pub one_of : Option ShareAsked → Reading ShareAsked
one_of None = Ok (0, 1)
one_of (Some share) = cond (nat_lt share.0 share.1) (Ok share) (Err (wrong_value (codes "share")))

abbrev pub share_in : Data → Reading ShareAsked
share_in d = then (optional_in (pair_of size_of) (codes "share") d) one_of

abbrev pub encoding_in : Data → Reading Data
encoding_in = required (codes "chunk_key_encoding")

-- what a call of an array's grid reads
abbrev pub asked_in : OfArray → Data → Reading Asked
asked_in (array.OfGrid c) d = Ok (of_grid c)
asked_in (array.OfNumbers c) d = then (numbers_in d) (λ numbers. Ok (of_numbers c numbers))
asked_in (array.OfBox c) d = then (lists_in (codes "of") d) (λ b. Ok (of_box c b))
asked_in (array.OfWalk c) d = then (items_in d) (λ items. Ok (of_walk c items))
asked_in array.Runs d = then (required_in size_of (codes "of") d) (λ dimension. Ok (runs dimension))
asked_in array.ChunkIndicesCounted d = then (numbers_in d) (λ index. Ok (counted index))
asked_in array.Locate d = then (encoding_in d) (λ encoding. then (numbers_in d) (λ index. Ok (located encoding index)))
asked_in array.Parts d =
    then (encoding_in d) (λ encoding.
    then (items_in d) (λ items.
    then (lists_in (codes "of") d) (λ b.
    Ok (parts encoding items b))))
asked_in array.Tasks d =
    then (encoding_in d) (λ encoding.
    then (target_in d) (λ target.
    then (items_in d) (λ items.
    then (copy_in target d) (λ copy.
    Ok (tasks encoding copy items)))))
asked_in array.TaskCounts d =
    then (encoding_in d) (λ encoding.
    then (target_in d) (λ target.
    then (share_in d) (λ share.
    then (copy_in target d) (λ copy.
    Ok (task_counts encoding copy share)))))
asked_in array.ChangedChunks d = then (required_in (list_of size_of) (codes "resize") d) (λ resize. Ok (changed_chunks resize))

-- the text of a member, if it has one
abbrev pub text_in : List ℕ → Data → Option (List ℕ)
text_in field d = option_and_then as_str (get field d)

-- what is asked of it by the call that this text names, if it names one
abbrev pub asked_by : (text : List ℕ) → Option OfArray → Data → Reading Asked
asked_by text (Some c) d = asked_in c d
asked_by text None d = Err (no_call text)

abbrev pub of_array_in : Option OfArray → Data → Reading Question
of_array_in named d =
    then (required (codes "shape") d) (λ shape.
    then (required (codes "chunk_grid") d) (λ grid.
    then (required (codes "call") d) (λ text.
    then (in_form (list_of size_of) (codes "shape") shape) (λ sizes.
    then (in_form as_str (codes "call") text) (λ name.
    then (asked_by name named d) (λ asked.
    Ok (of_array sizes grid asked)))))))

abbrev pub encode_in : Data → Reading Question
encode_in d = then (encoding_in d) (λ encoding. then (numbers_in d) (λ chunk. Ok (encode encoding chunk)))

abbrev pub decode_in : Data → Reading Question
decode_in d =
    then (encoding_in d) (λ encoding.
    then (required_in as_str (codes "of") d) (λ key.
    then (required_in size_of (codes "dimensionality") d) (λ dimensionality.
    Ok (decode encoding key dimensionality))))

-- the order in which a chunk is stored: `C`, where none is given
abbrev pub order_or_c : Data → Reading MemoryOrder
order_or_c d = then (optional_in order_in (codes "memory_order") d) (λ given. Ok (unwrap_or given C))

abbrev pub bytes_in : Data → Reading BytesAsked
bytes_in d =
    then (required_in (list_of size_of) (codes "chunk_shape") d) (λ edges.
    then (lists_in (codes "of") d) (λ elements.
    then (required_in edge_of (codes "item_size") d) (λ item.
    then (order_or_c d) (λ order.
    Ok (record { edges = edges; elements = elements; item = item; order = order })))))

abbrev pub byte_ranges_in : Data → Reading Question
byte_ranges_in d = then (bytes_in d) (λ asked. Ok (byte_ranges asked))

-- by the call that the object names
abbrev pub named_in : Option Call → Data → Reading Question
named_in (Some call.Encode) d = encode_in d
named_in (Some call.Decode) d = decode_in d
named_in (Some call.ByteRanges) d = byte_ranges_in d
named_in (Some (call.OfArray c)) d = of_array_in (Some c) d
named_in None d = of_array_in None d

-- the question that a tree asks, or its first fault
abbrev pub IsReading : Data → Reading Question → Type 0
IsReading d reading =
    (named : Option Call) × IsNamed (text_in (codes "call") d) named
    × (reading ≡ then (ok_or (as_object d) not_object) (λ _. named_in named d))
