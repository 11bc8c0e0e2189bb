use Rattle.programs.proofs.chunkplan.Common.{◌≡◌, ℕ, length, counted, option_map, written}
use Rattle.zarrs_chunk_tasks.specs.seen.Tasks.{all_groups}
use Rattle.programs.specs.chunkplan.seen.Opened.{dimensions_in, key_in}
use Rattle.programs.specs.chunkplan.seen.Resume.{line_unless_stored}
use Rattle.programs.specs.chunkplan.seen.Steps.{HasSent}
use Rattle.programs.proofs.chunkplan.Numbered.{Came}
use Rattle.zarrs_chunk_tasks.proofs.TasksBegun.{TasksHaveCome}
use Rattle.programs.proofs.chunkplan.task_lines.write_tasks.Given as goal

-- the next task has the number, and the lines of those that came were sent or are held back
abbrev pub invariant-loop-task : goal.invariant-loop-task
invariant-loop-task g l =
    (begin : ℕ) → l.fn.first ≡ counted begin → (n : ℕ) × (l.number ≡ counted n)
    × HasSent
    (Came (λ n. line_unless_stored (option_map (λ s. s.now) l.fn.stored) (counted n) (counted (length (all_groups l.fn.walk)))) begin (TasksHaveCome dimensions_in key_in l.fn.source l.fn.target l.fn.walk l.task-iterator) n)
    (written g.W.Write.contents l.initial.sink) (written g.W.Write.contents l.sink)
