-- The lines of a plan: compact JSON, an object a line. Characters that break a line for some reader are escaped.
-- Source: RFC 8259, and JSON Lines; the members are this program's own.
use Rattle.std.specs.Prelude.{◌∷◌, ◌++◌}
use Rattle.programs.specs.chunkplan.Common.{ℕ, suc, Bool, true, false, List, [], length, codes, cond, decimal, nat_le, Option, Some, None, Json, null, number, string}
use Rattle.programs.specs.chunkplan.Common.{array, object, Items, no_items, item, Members, no_members, member, print, json_tokens, Box, counted}
use Rattle.programs.specs.chunkplan.Common.{before_share, share_of, MemoryOrder, Part, ChunkChange, Share, order_text, TaskPlan}
use Rattle.json.specs.Json.{boolean}
use Rattle.zarrs_chunk_plan.specs.Bytes.{begins}
use Rattle.zarrs_chunk_plan.specs.Strided.{Strided, ranges_of}
use Rattle.zarrs_chunk_plan.specs.declared.resize.plan.Change.{Change}
use Rattle.zarrs_chunk_plan.specs.declared.resize.plan.Change.TheVariants.{Create, Delete, Keep, Rewrite}
use Rattle.zarrs_chunk_plan.specs.declared.resize.plan.ChunkContents.{ChunkContents}
use Rattle.programs.specs.chunkplan.Document.{RangesWanted}
use Rattle.streams.specs.OneLine.{line_of as one_line}

-- a list of numbers
abbrev pub numbers_items : List ℕ → Items
numbers_items [] = no_items
numbers_items (n ∷ numbers) = item (number (decimal n)) (numbers_items numbers)

abbrev pub numbers_json : List ℕ → Json
numbers_json numbers = array (numbers_items numbers)

-- a box: its start and its shape
abbrev pub box_json : Box → Json
box_json b = array (item (numbers_json b.start) (item (numbers_json b.shape) no_items))

-- how many there are, and null where no number tells it
abbrev pub count_json : Option ℕ → Json
count_json (Some count) = number (decimal count)
count_json None = null

-- the line of a value
abbrev pub line_of : Json → List ℕ
line_of json = one_line (print (json_tokens json))

-- The lines of a list, each by its number: they are counted from a first number on.
abbrev pub lines_from : {X : Type 0} → (ℕ → X → List ℕ) → ℕ → List X → List ℕ
lines_from line first [] = []
lines_from line first (x ∷ xs) = line first x ++ lines_from line (suc first) xs

-- ---- a read

-- byte ranges, each as where it begins and how long it is
abbrev pub range_items : (length : ℕ) → (starts : List ℕ) → Items
range_items long [] = no_items
range_items long (start ∷ starts) = item (numbers_json (start ∷ long ∷ [])) (range_items long starts)

-- the list of them, where they are at most so many, and else null
abbrev pub list_json : (most length : ℕ) → (starts : List ℕ) → Json
list_json most long starts = cond (nat_le (length starts) most) (array (range_items long starts)) null

-- byte ranges in their strided form, the list of them, and the order in which a chunk's elements are stored; null for `None`
abbrev pub strided_json : (most : ℕ) → MemoryOrder → Option Strided → Json
strided_json most order (Some s) =
    object (member (codes "counts") (numbers_json s.counts)
    (member (codes "first") (number (decimal s.first))
    (member (codes "length") (number (decimal s.length))
    (member (codes "list") (list_json most s.length (begins s.first s.counts s.strides))
    (member (codes "memory_order") (string (order_text order))
    (member (codes "strides") (numbers_json s.strides) no_members))))))
strided_json most order None = null

-- the byte ranges of a part's box in its chunk, as they are wanted
abbrev pub part_ranges_json : RangesWanted → Part → Json
part_ranges_json wanted part =
    strided_json wanted.most wanted.order (ranges_of wanted.item wanted.order part.shape.items part.in_chunk.start part.in_chunk.shape)

-- a member for them, where they are wanted, before others
abbrev pub with_ranges : Option RangesWanted → Part → Members → Members
with_ranges None part others = others
with_ranges (Some wanted) part others = member (codes "ranges") (part_ranges_json wanted part) others

-- a part of a read: its chunk, the two boxes, the key, which line of how many it is, its byte ranges if they are wanted, the chunk's shape, and
-- whether all that the chunk has of the array is read
abbrev pub part_json : (at of : Option ℕ) → Option RangesWanted → Part → Json
part_json at of wanted part =
    object (member (codes "chunk") (numbers_json part.chunk.items)
    (member (codes "in_chunk") (box_json part.in_chunk)
    (member (codes "in_selection") (box_json part.in_selection)
    (member (codes "key") (string part.key)
    (member (codes "number") (count_json at)
    (member (codes "of") (count_json of)
    (with_ranges wanted part
    (member (codes "shape") (numbers_json part.shape.items)
    (member (codes "whole") (boolean part.whole) no_members)))))))))

-- The lines of a share of a read, of which these are all parts: each by its number among all.
abbrev pub read_lines : Option RangesWanted → Share → List Part → List ℕ
read_lines wanted share parts =
    lines_from (λ n part. line_of (part_json (counted n) (counted (length parts)) wanted part))
    (before_share share.number share.of (length parts)) (share_of share parts)

-- ---- tasks

-- of what a task writes, whether the part is all that its chunk has of the array, so that the chunk needn't be read first
abbrev pub whole_if : (written : Bool) → Part → Members
whole_if true part = member (codes "whole") (boolean part.whole) no_members
whole_if false part = no_members

-- the items of a list, one for each part
abbrev pub items_of : (Part → Json) → List Part → Items
items_of json [] = no_items
items_of json (part ∷ parts) = item (json part) (items_of json parts)

-- what a chunk and the buffer of a task share: the chunk, the box in the buffer, the box in the chunk, and the chunk's key and shape
abbrev pub overlap_json : (written : Bool) → Part → Json
overlap_json written part =
    object (member (codes "chunk") (numbers_json part.chunk.items)
    (member (codes "in_buffer") (box_json part.in_selection)
    (member (codes "in_chunk") (box_json part.in_chunk)
    (member (codes "key") (string part.key)
    (member (codes "shape") (numbers_json part.shape.items) (whole_if written part))))))

-- a task: the shape of its buffer, what is read into it, which task of how many it is, and what is written from it
abbrev pub task_json : (at of : Option ℕ) → TaskPlan → Json
task_json at of plan =
    object (member (codes "buffer") (numbers_json plan.0.source.shape)
    (member (codes "from") (array (items_of (overlap_json false) plan.1.0))
    (member (codes "number") (count_json at)
    (member (codes "of") (count_json of)
    (member (codes "to") (array (items_of (overlap_json true) plan.1.1)) no_members)))))

abbrev pub task_line : (at of : Option ℕ) → TaskPlan → List ℕ
task_line at of plan = line_of (task_json at of plan)

-- the lines of a share of the tasks, of which these are all
abbrev pub task_lines : Share → List TaskPlan → List ℕ
task_lines share plans =
    lines_from (λ n. task_line (counted n) (counted (length plans))) (before_share share.number share.of (length plans)) (share_of share plans)

-- ---- a resize

-- what a chunk holds of the array, as a box of it, and the chunk's shape; null, where that is nothing
abbrev pub held_json : Option ChunkContents → Json
held_json (Some held) = box_json held.elements
held_json None = null

abbrev pub held_shape_json : Option ChunkContents → Json
held_shape_json (Some held) = numbers_json held.shape.items
held_shape_json None = null

-- what becomes of a chunk, in a word
abbrev pub change_word : Change → List ℕ
change_word Keep = codes "keep"
change_word Rewrite = codes "rewrite"
change_word Delete = codes "delete"
change_word Create = codes "create"

-- the change of a chunk: its numbers, its key, what it is to hold, which line of how many it is, what it held, and what becomes of it
abbrev pub change_json : (at of : Option ℕ) → ChunkChange → Json
change_json at of change =
    object (member (codes "chunk") (numbers_json change.chunk.items)
    (member (codes "key") (string change.key)
    (member (codes "now") (held_json change.after)
    (member (codes "now_shape") (held_shape_json change.after)
    (member (codes "number") (count_json at)
    (member (codes "of") (count_json of)
    (member (codes "was") (held_json change.before)
    (member (codes "was_shape") (held_shape_json change.before)
    (member (codes "what") (string (change_word change.what)) no_members)))))))))

abbrev pub change_line : (at of : Option ℕ) → ChunkChange → List ℕ
change_line at of change = line_of (change_json at of change)

-- the lines of a resize, of which these are all changes
abbrev pub resize_lines : List ChunkChange → List ℕ
resize_lines changes = lines_from (λ n. change_line (counted n) (counted (length changes))) 0 changes
