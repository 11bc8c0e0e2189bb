use Rattle.zarrs_chunk_questions.proofs.PartsAhead.{PartsHaveCome}
use Rattle.zarrs_chunk_questions.proofs.task_pages.parts_below.Given as goal

-- the parts so far are those of the chunks that came
abbrev pub invariant-loop-part : goal.invariant-loop-part
invariant-loop-part l = PartsHaveCome l.fn.walk l.part-iterator l.all.items
