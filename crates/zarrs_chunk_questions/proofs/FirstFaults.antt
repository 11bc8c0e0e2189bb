-- What is read of a tree, and the first fault.
use Rattle.std.proofs.Common.{◌≡◌, ℕ, true, Option, Result, Ok, Err, Vec, is_some, map, arith}
use Rattle.std.proofs.lemmas.List.{map-id}
use Rattle.std.specs.Option.{ok_or}
use Rattle.std.specs.declared.alloc.Global.{Global}
use Rattle.serde_json.specs.Data.{Data}
use Rattle.serde_json.specs.Find.{as_object}
use Rattle.zarrs_chunk_base.specs.declared.refusal.Refusal.{Refusal}
use Rattle.zarrs_chunk_questions.specs.Question.{Lists}
use Rattle.zarrs_chunk_questions.specs.Reading.{Fault, Reading, not_object, then}
use Rattle.zarrs_chunk_questions.specs.declared.unreadable.Unreadable.{Unreadable}
use Rattle.zarrs_chunk_questions.specs.seen.Read.{IsRead, lists_of}

-- where there is something, all is read that is read of it
goes_on : {X Y : Type 0} (found : Option X) (fault : Fault) (next : Reading Y) → true ≡ is_some found → next ≡ then (ok_or found fault) (λ _. next)
goes_on found fault next is = grind arith

-- as of an object
pub of_object : {Y : Type 0} (d : Data) (next : Reading Y) → true ≡ is_some (as_object d) → next ≡ then (ok_or (as_object d) not_object) (λ _. next)
of_object d next is = goes_on (as_object d) not_object next is

-- two lists are read as they are
pub read_lists : (reading : Reading Lists) (result : Result (Vec ℕ Global × Vec ℕ Global) (Refusal Unreadable))
    → IsRead (λ both. (map (λ n. n) both.0.items, map (λ n. n) both.1.items)) reading result → IsRead lists_of reading result
read_lists reading (Ok (start, shape)) is = rw (map-id start.items, map-id shape.items) at is
read_lists reading (Err refusal) is = is
