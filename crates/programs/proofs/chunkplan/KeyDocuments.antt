-- What a document before keys asks for.
use Rattle.programs.proofs.chunkplan.Common.{◌≡◌, ◌∙◌, ℕ, true, false, Contains, IsFalse, IsSome, List, Option, None, Some, Ok, codes, refl, arith}
use Rattle.programs.proofs.chunkplan.Common.{sym, true≢false, All-contains, All-from_recursion, same_Some, Data, get, Share, optional, StorageMetadata}
use Rattle.programs.proofs.chunkplan.Common.{AsksForLinesOfCopy, Copying, Document, Task, Wanted, copy_to, document_in, flag_in}
use Rattle.programs.proofs.chunkplan.Common.{lines_wanted, rechunking_in, region_in, task_in, wanted_in, HasKeysBehind, Fit}
use Rattle.programs.proofs.chunkplan.Common.{Rule, excludes, is_broken, needs}
use Rattle.programs.specs.chunkplan.MemberRules.{rules}

-- ---- what a document has that breaks no rule

kept : (d : Data) → Fit d → (rule : Rule) → Contains rules rule → IsFalse (is_broken d rule)
kept d fit rule among =
    let IsKept : Rule → Type 0 = λ rule. IsFalse (is_broken d rule) in All-contains IsKept rules rule (All-from_recursion IsKept rules fit) among

-- what a member needs
is_beside : (d : Data) → Fit d → (member other : List ℕ) → Contains rules (needs member other) → IsSome (get member d) → IsSome (get other d)
is_beside d fit member other among there = let unbroken = kept d fit (needs member other) among in grind arith

-- and nothing that it excludes
none_beside : (d : Data) → Fit d → (member other : List ℕ) → Contains rules (excludes member other) → IsSome (get member d) → get other d ≡ None
none_beside d fit member other among there = let unbroken = kept d fit (excludes member other) among in grind arith

none_before : (d : Data) → Fit d → (member other : List ℕ) → Contains rules (excludes member other) → IsSome (get other d) → get member d ≡ None
none_before d fit member other among there = let unbroken = kept d fit (excludes member other) among in grind arith

-- a flag that is true is there
flag_is_there : (d : Data) (field : List ℕ) → flag_in field d (Ok true) → IsSome (get field d)
flag_is_there d field is = grind arith

are_lines : (d : Data) (wanted : Wanted) → wanted_in d (Ok wanted) → get (codes "counts") d ≡ None → (share : Share) × (wanted ≡ lines_wanted share)
are_lines d wanted (counts, flag, by) none =
    let no : counts ≡ false = rw none at flag in
    let (share, _, same) = rw no at by in
    (share, same)

-- the task is a copy
abbrev IsCopy : Task → Type 0
IsCopy task = (stored : StorageMetadata) × (copied : Copying) × (task ≡ copy_to stored copied)

module _ (d : Data) (task : Task) where
  to_target : (target : Data) (subset : Option Data) → optional (rechunking_in d target) (region_in d target) subset (Ok task) → IsCopy task
  to_target target None (_, _, (stored, _, (choice, _, (chunks, _, same)))) = (stored, _, same)
  to_target target (Some subset) (_, _, (shape, _, (stored, _, (elements, _, (at, _, (choice, _, same)))))) = (stored, _, same)

  is_copy : (target : Option Data) → IsSome target → get (codes "resize") d ≡ None → task_in d target (Ok task) → IsCopy task
  is_copy (Some target) some no_resize (resize, resized, is) =
      let none : resize ≡ None = rw no_resize at resized in
      let (_, _, to) = rw none at is in
      to_target target (get (codes "subset") d) to
  is_copy None some no_resize is = absurd (true≢false (sym some))

pub copy_of_lines : (line : List ℕ) (document : Document) → document_in line (Ok document) → HasKeysBehind line → AsksForLinesOfCopy document
copy_of_lines line document (d, json, (_, (_, _, (_, _, fit)), (_, _, (wanted, are_wanted, (_, _, (_, _, (task, is_task, same)))))))
    (other, also, flag) =
    let one : other ≡ d = same_Some other d (sym also.1 ∙ json.0.1) in
    let some = flag_is_there d (codes "keys") (rw one at flag) in
    let target = is_beside d fit (codes "keys") (codes "target") (22, omega arith, refl) some in
    let no_resize = none_before d fit (codes "resize") (codes "keys") (7, omega arith, refl) some in
    rw same (
      are_lines d wanted are_wanted (none_beside d fit (codes "keys") (codes "counts") (23, omega arith, refl) some),
      is_copy d task (get (codes "target") d) target no_resize is_task,
    )
