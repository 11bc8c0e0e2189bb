-- The line of the counts of a read, and the line of the counts of all stages of a copy by tasks.
-- Source: RFC 8259; the members, in the order of their names, are this program's own.
use Rattle.std.specs.Prelude.{◌≡◌, ◌++◌, ◌∷◌}
use Rattle.programs.specs.chunkplan.Common.{ℕ, Bool, true, false, List, [], Option, Some, None, codes, print, json_tokens, IsNumeral}
use Rattle.programs.specs.chunkplan.Common.{product, ReadCounts, CountsAlong, in_all}
use Rattle.std.specs.List.{AllZip, flat_map}
use Rattle.programs.specs.chunkplan.Line.{numbers_json}
use Rattle.programs.specs.chunkplan.Stages.{AreStageCounts, Stage, Stages}

-- the line of the counts of a read
pub record IsCountsLine (counts : ReadCounts) (line : List ℕ) : Type 0 where
  pub chunks_read : List ℕ
  pub elements_moved : List ℕ
  pub is_chunks_read : IsNumeral (product counts.chunks_read.items) chunks_read
  pub is_elements_moved : IsNumeral (product counts.elements_moved.items) elements_moved
  pub is : line ≡ codes "{\"chunks_read\":" ++ chunks_read ++ codes ",\"elements_moved\":" ++ elements_moved ++ codes "}\n"

-- ---- stages

-- a list of numbers, or `null` without one
abbrev pub shape_text : Option (List ℕ) → List ℕ
shape_text (Some shape) = print (json_tokens (numbers_json shape))
shape_text None = codes "null"

-- a flag, or `null` without one
abbrev pub flag_text : Option Bool → List ℕ
flag_text (Some true) = codes "true"
flag_text (Some false) = codes "false"
flag_text None = codes "null"

-- an object with the counts of a stage
pub record IsStageObject (stage : Stage) (counts : List CountsAlong) (object : List ℕ) : Type 0 where
  pub chunks_read : List ℕ
  pub chunks_written : List ℕ
  pub elements_decoded : List ℕ
  pub elements_moved : List ℕ
  pub largest_task : List ℕ
  pub tasks : List ℕ
  pub is_chunks_read : IsNumeral (in_all (λ along. along.chunks_read) counts) chunks_read
  pub is_chunks_written : IsNumeral (in_all (λ along. along.chunks_written) counts) chunks_written
  pub is_elements_decoded : IsNumeral (in_all (λ along. along.elements_decoded) counts) elements_decoded
  pub is_elements_moved : IsNumeral (product stage.region.shape) elements_moved
  pub is_largest_task : IsNumeral (in_all (λ along. along.largest_task) counts) largest_task
  pub is_tasks : IsNumeral (in_all (λ along. along.tasks) counts) tasks
  pub is : object ≡ codes "{\"chunks_read\":" ++ chunks_read ++ codes ",\"chunks_written\":" ++ chunks_written
      ++ codes ",\"elements_decoded\":" ++ elements_decoded ++ codes ",\"elements_moved\":" ++ elements_moved
      ++ codes ",\"intermediate\":" ++ shape_text stage.intermediate ++ codes ",\"largest_task\":" ++ largest_task
      ++ codes ",\"task_chunks\":" ++ shape_text (Some stage.each) ++ codes ",\"tasks\":" ++ tasks ++ codes "}"

-- the object of the counts of a stage's tasks
abbrev pub IsCountedStage : Stage → (object : List ℕ) → Type 0
IsCountedStage stage object = (counts : List CountsAlong) × AreStageCounts stage counts × IsStageObject stage counts object

-- texts as the items of a list: a comma stands before each but the first
abbrev pub with_commas : List (List ℕ) → List ℕ
with_commas = flat_map (λ text. codes "," ++ text)

abbrev pub listed : List (List ℕ) → List ℕ
listed [] = []
listed (text ∷ texts) = text ++ with_commas texts

-- the line of all stages: whether they are exact, and the object of each
pub record IsStagesLine (stages : Stages) (line : List ℕ) : Type 0 where
  pub objects : List (List ℕ)
  pub are_objects : AllZip IsCountedStage stages.1 objects
  pub is : line ≡ codes "{\"exact\":" ++ flag_text stages.0 ++ codes ",\"stages\":[" ++ listed objects ++ codes "]}\n"
