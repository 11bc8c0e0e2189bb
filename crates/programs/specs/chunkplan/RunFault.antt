-- The faults of what the programs share, as a run of this program tells them.
use Rattle.programs.specs.chunkplan.Common.{Bool, true, false, RegionError, DocumentFault, RunFault, AtDimensionality, Encoding, Grid, Memory}
use Rattle.programs.specs.chunkplan.Common.{Metadata, Missing, NotJson, NotObject, PastArray, PastTarget, Read, SubsetDimensionality}
use Rattle.programs.specs.chunkplan.Common.{TargetDimensionality, TargetEncoding, TargetGrid, TaskChunks, TasksError, Write, WrongValue}
use Rattle.zarrs_chunk_base.specs.declared.refusal.Refusal.{Refusal}
use Rattle.documents.specs.declared.storage_metadata.CreateFault.{CreateFault}
use Rattle.streams.specs.declared.stream_fault.StreamFault.{StreamFault}
use Rattle.zarrs_chunk_base.specs.declared.refusal.Refusal.TheVariants as refusal
use Rattle.zarrs_chunk_plan.specs.declared.copy.region_error.RegionError.TheVariants as region
use Rattle.documents.specs.declared.document_fault.DocumentFault.TheVariants as document
use Rattle.documents.specs.declared.storage_metadata.CreateFault.TheVariants as create
use Rattle.streams.specs.declared.stream_fault.StreamFault.TheVariants as stream
use Rattle.zarrs_chunk_tasks.specs.declared.tasks_error.TasksError.TheVariants as tasks

-- the fault is that the input is no text of JSON
abbrev pub is_not_json : RunFault → Bool
is_not_json NotJson = true
is_not_json _ = false

abbrev pub of_stream : StreamFault → RunFault
of_stream stream.Read = Read
of_stream stream.Write = Write
of_stream stream.Memory = Memory

abbrev pub of_document : DocumentFault → RunFault
of_document document.NotJson = NotJson
of_document document.NotObject = NotObject
of_document (document.Missing name) = Missing name
of_document (document.WrongValue name) = WrongValue name
of_document (document.Metadata name error) = Metadata name error
of_document document.Memory = Memory

abbrev pub of_create : CreateFault → RunFault
of_create (create.Grid error) = Grid error
of_create (create.Encoding error) = Encoding error
of_create create.Memory = Memory

-- so of a target
abbrev pub of_target : CreateFault → RunFault
of_target (create.Grid error) = TargetGrid error
of_target (create.Encoding error) = TargetEncoding error
of_target create.Memory = Memory

-- why a region can't be copied
abbrev pub of_region : RegionError → RunFault
of_region (region.Region error) = SubsetDimensionality error
of_region (region.Target error) = TargetDimensionality error
of_region (region.At error) = AtDimensionality error
of_region region.PastSource = PastArray
of_region region.PastTarget = PastTarget

-- why a copy has no tasks
abbrev pub of_tasks : TasksError → RunFault
of_tasks (tasks.TaskChunks error) = TaskChunks error
of_tasks (tasks.Region error) = of_region error

-- and why a call stops that may be refused
abbrev pub of_refusal : {E : Type 0} → (told : E → RunFault) → Refusal E → RunFault
of_refusal told (refusal.Refused error) = told error
of_refusal told (refusal.Memory _) = Memory
