-- The faults of what the programs share, as a run of this program tells them.
use Rattle.documents.specs.declared.document_fault.DocumentFault.{DocumentFault}
use Rattle.documents.specs.declared.document_fault.DocumentFault.TheVariants as document
use Rattle.documents.specs.declared.storage_metadata.CreateFault.{CreateFault}
use Rattle.documents.specs.declared.storage_metadata.CreateFault.TheVariants as create
use Rattle.streams.specs.declared.stream_fault.StreamFault.{StreamFault}
use Rattle.streams.specs.declared.stream_fault.StreamFault.TheVariants as stream
use Rattle.documents.specs.declared.chunkwhere.run_fault.RunFault.{RunFault}
use Rattle.documents.specs.declared.chunkwhere.run_fault.RunFault.TheVariants.{Encoding, Grid, Memory, Metadata, Missing, NotJson, NotObject, Read}
use Rattle.documents.specs.declared.chunkwhere.run_fault.RunFault.TheVariants.{Write, WrongValue}

abbrev pub of_stream : StreamFault → RunFault
of_stream stream.Read = Read
of_stream stream.Write = Write
of_stream stream.Memory = Memory

abbrev pub of_document : DocumentFault → RunFault
of_document document.NotJson = NotJson
of_document document.NotObject = NotObject
of_document (document.Missing name) = Missing name
of_document (document.WrongValue name) = WrongValue name
of_document (document.Metadata name error) = Metadata name error
of_document document.Memory = Memory

abbrev pub of_create : CreateFault → RunFault
of_create (create.Grid error) = Grid error
of_create (create.Encoding error) = Encoding error
of_create create.Memory = Memory
