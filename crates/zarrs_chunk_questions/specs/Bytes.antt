-- The answer to `byte_ranges`: which bytes of an uncompressed chunk hold the elements of a box.
-- Sources: Zarr V3 core, `bytes` codec; the form of the answer is this library's own.
use Rattle.std.specs.Prelude.{◌≡◌, Option, codes, length, option_map}
use Rattle.serde_json.specs.Data.{Data, member, no_members, object}
use Rattle.zarrs_chunk_base.specs.ArraySubset.{IsBox}
use Rattle.zarrs_chunk_base.specs.Json.{size_tree}
use Rattle.zarrs_chunk_plan.specs.Bytes.{FindsRanges}
use Rattle.zarrs_chunk_plan.specs.Strided.{form_of, ranges_of}
use Rattle.zarrs_chunk_plan.specs.declared.bytes.ranges.ByteRanges.{ByteRanges}
use Rattle.zarrs_chunk_questions.specs.Question.{BytesAsked}
use Rattle.zarrs_chunk_questions.specs.Trees.{box_of, numbers_tree, or_null}

abbrev pub ranges_tree : ByteRanges → Data
ranges_tree ranges =
    object (member (codes "counts") (numbers_tree ranges.counts.items)
    (member (codes "first") (size_tree ranges.first)
    (member (codes "length") (size_tree ranges.length)
    (member (codes "strides") (numbers_tree ranges.strides.items) no_members))))

-- The answer to `byte_ranges`: the ranges of a box with as many dimensions as the chunk; null, if the box doesn't lie in the chunk or no number counts
-- the chunk's bytes.
pub record IsBytesAnswer (asked : BytesAsked) (t : Data) : Type 0 where
  pub is_box : IsBox (box_of asked.elements)
  pub lengths : length asked.elements.0 ≡ length asked.edges
  pub found : Option ByteRanges
  pub finds : FindsRanges asked.item asked.order asked.edges asked.elements.0 asked.elements.1 found
  pub form : option_map form_of found ≡ ranges_of asked.item asked.order asked.edges asked.elements.0 asked.elements.1
  pub same : t ≡ or_null ranges_tree found
