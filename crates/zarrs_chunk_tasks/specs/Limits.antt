-- How few chunks tasks can read.
-- Source: this library's own.
use Rattle.std.specs.Prelude.{ℕ, ◌+◌, ◌-◌, ◌*◌, ◌<◌, ◌≤◌, List, [], ◌∷◌, max}
use Rattle.zarrs_chunk_base.specs.Dimension.{Dimension, Holds}
use Rattle.zarrs_chunk_plan.specs.Counts.{product}
use Rattle.zarrs_chunk_tasks.specs.Counts.{AreTaskCounts, in_all}
use Rattle.zarrs_chunk_tasks.specs.declared.counts.CountsAlong.{CountsAlong}
use Rattle.zarrs_chunk_tasks.specs.declared.task.Task.{Task}

-- no chunk has more than `part` indices of a range
abbrev pub HasAtMost : (part : ℕ) → Dimension → (start size : ℕ) → Type 0
HasAtMost part d start size = (c i j : ℕ) → Holds d c i → Holds d c j → start ≤ i → i ≤ j → j < start + size → j < i + part

-- some chunk has `part` indices of it, one after another
pub record HasPart (part : ℕ) (d : Dimension) (start size : ℕ) : Type 0 where
  pub chunk : ℕ
  pub index : ℕ
  pub first : Holds d chunk index
  pub last : Holds d chunk (index + (part - 1))
  pub from : start ≤ index
  pub up_to : index + part ≤ start + size

-- what a dimension and a part of a range are to each other holds along each dimension
abbrev pub OfParts : ((part : ℕ) → Dimension → (start size : ℕ) → Type 0) → List Dimension → (parts start shape : List ℕ) → Type 0
OfParts R [] [] [] [] = Unit {0}
OfParts R (d ∷ ds) (p ∷ parts) (a ∷ start) (n ∷ shape) = R p d a n × OfParts R ds parts start shape
OfParts R _ _ _ _ = ⊥

-- the product of the larger parts
abbrev pub product_of_larger : (parts others : List ℕ) → ℕ
product_of_larger (p ∷ parts) (q ∷ others) = max p q * product_of_larger parts others
product_of_larger _ _ = 1

-- Tasks read no fewer chunks than their buffers allow. The elements that are copied, times the larger parts, are no more than the chunks that are read, times
-- the parts of the source's chunks, times the largest buffer.
pub record ReadNoFewer (source target : List Dimension) (shape parts others : List ℕ) (tasks : List Task) : Type 0 where
  pub counts : List CountsAlong
  pub are_counts : AreTaskCounts source target tasks counts
  pub no_fewer : product shape * product_of_larger parts others
      ≤ in_all (λ along. along.chunks_read) counts * product parts * in_all (λ along. along.largest_task) counts
