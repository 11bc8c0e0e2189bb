-- The order in which a chunk's elements are stored, as a question or a document gives it.
-- Source: Zarr V2, `order`, for the texts.
use Rattle.std.specs.Prelude.{ℕ, if◌then◌else◌, List, Option, Some, None, bytes_eq, codes, option_and_then}
use Rattle.serde_json.specs.Data.{Data, string}
use Rattle.serde_json.specs.Find.{as_str}
use Rattle.zarrs_chunk_plan.specs.declared.bytes.ranges.MemoryOrder.{MemoryOrder}
use Rattle.zarrs_chunk_plan.specs.declared.bytes.ranges.MemoryOrder.TheVariants.{C, F}

-- the text of an order, the order that a text says, and how it is written
abbrev pub order_text : MemoryOrder → List ℕ
order_text C = codes "C"
order_text F = codes "F"

abbrev pub order_in : Data → Option MemoryOrder
order_in d = option_and_then (λ text. if bytes_eq text (order_text C) then Some C
    else (if bytes_eq text (order_text F) then Some F else None)) (as_str d)

abbrev pub order_tree : MemoryOrder → Data
order_tree order = string (order_text order)
