-- How much the tasks of a copy read and write. Each count is a product of numbers, one a dimension.
-- Source: this library's own.
use Rattle.std.specs.Prelude.{◌≡◌, ℕ, List, fold, length, map, max}
use Rattle.std.specs.List.{AllZip, sum}
use Rattle.zarrs_chunk_base.specs.ArraySubset.{Box}
use Rattle.zarrs_chunk_base.specs.Dimension.{Dimension, IsShape}
use Rattle.zarrs_chunks.specs.Walks.{chunks_in}
use Rattle.zarrs_chunk_parts.specs.Plan.{Covers}
use Rattle.zarrs_chunk_parts.specs.declared.part.Part.{Part}
use Rattle.zarrs_chunk_plan.specs.Counts.{product}
use Rattle.zarrs_chunk_tasks.specs.declared.count.Count.{Count}
use Rattle.zarrs_chunk_tasks.specs.declared.count.Count.TheVariants.{ChunksRead, ChunksWritten, ElementsDecoded, LargestTask, Tasks}
use Rattle.zarrs_chunk_tasks.specs.declared.counts.CountsAlong.{CountsAlong}
use Rattle.zarrs_chunk_tasks.specs.declared.task.Task.{Task}

-- the greatest number of 128 bits
abbrev pub greatest_of_128 : ℕ
greatest_of_128 = 340282366920938463463374607431768211455

-- How many chunks hold some of a box of elements, and how many elements these chunks have, each whole.
pub record AreMet (ds : List Dimension) (b : Box) (met : ℕ × ℕ) : Type 0 where
  pub cover : Box
  pub is_cover : Covers ds b cover
  pub chunks : length (chunks_in cover) ≡ met.0
  pub shapes : List (List ℕ)
  pub are_shapes : AllZip (IsShape ds) (chunks_in cover) shapes
  pub elements : sum (map product shapes) ≡ met.1

-- The same of the parts of a plan: how many there are, and how many elements their chunks have.
abbrev pub parts_met : List Part → ℕ × ℕ
parts_met parts = (length parts, sum (map (λ (part : Part). product part.shape.items) parts))

-- a count along one dimension, by its name
abbrev pub count_along : Count → CountsAlong → ℕ
count_along ChunksRead along = along.chunks_read
count_along ChunksWritten along = along.chunks_written
count_along ElementsDecoded along = along.elements_decoded
count_along LargestTask along = along.largest_task
count_along Tasks along = along.tasks

-- a count of all dimensions together
abbrev pub in_all : (CountsAlong → ℕ) → List CountsAlong → ℕ
in_all count along = product (map count along)

-- The counts of tasks from one array to another. A chunk that several tasks read, or write, counts in each.
pub record AreTaskCounts (source target : List Dimension) (all : List Task) (along : List CountsAlong) : Type 0 where
  pub tasks : in_all (λ counts. counts.tasks) along ≡ length all
  pub largest_task : in_all (λ counts. counts.largest_task) along ≡ fold max 0 (map (λ (task : Task). product task.source.shape) all)
  pub reads : List (ℕ × ℕ)
  pub are_reads : AllZip (λ (task : Task). AreMet source task.source) all reads
  pub chunks_read : in_all (λ counts. counts.chunks_read) along ≡ sum (map (λ read. read.0) reads)
  pub elements_decoded : in_all (λ counts. counts.elements_decoded) along ≡ sum (map (λ read. read.1) reads)
  pub writes : List (ℕ × ℕ)
  pub are_writes : AllZip (λ (task : Task). AreMet target task.target) all writes
  pub chunks_written : in_all (λ counts. counts.chunks_written) along ≡ sum (map (λ write. write.0) writes)

-- the counts of no tasks: each is 0
pub record AreNone (counts : CountsAlong) : Type 0 where
  pub tasks : counts.tasks ≡ 0
  pub largest_task : counts.largest_task ≡ 0
  pub chunks_read : counts.chunks_read ≡ 0
  pub elements_decoded : counts.elements_decoded ≡ 0
  pub chunks_written : counts.chunks_written ≡ 0
