use Rattle.programs.proofs.chunkplan.Common.{IsTrue, List, Part}
use Rattle.programs.specs.chunkplan.seen.Resume.{are_stored}
use Rattle.zarrs_chunk_questions.proofs.PartsAhead.{PartsHaveCome}
use Rattle.programs.proofs.chunkplan.task_lines.all_stored.Given as goal

-- all that came are stored
abbrev pub invariant-loop-part : goal.invariant-loop-part
invariant-loop-part l = (came : List Part) × PartsHaveCome l.fn.walk l.part-iterator came × IsTrue (are_stored l.fn.stored came)
