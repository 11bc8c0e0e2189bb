-- What was taken out of a document leaves the other members.
use Rattle.programs.proofs.chunkplan.Common.{◌≡◌, ◌≢◌, ◌∙◌, ℕ, false, List, Option, None, Some, Result, Ok, Err, ap, arith, bytes_eq, codes, inl, inr}
use Rattle.programs.proofs.chunkplan.Common.{length, refl, subst, Data, get, Box, edge_of, list_of, size_of, gives, optional, then, told, StorageMetadata}
use Rattle.programs.proofs.chunkplan.Common.{DocumentFault, RangesWanted, Task, TaskChoice, choice_by, choice_in, copy_to, copying_in, into_box, of_array, ranges_by, ranges_in}
use Rattle.programs.proofs.chunkplan.Common.{rechunking_in, box_in, flag_in, object_of, of_region, read_of, region_in, target_stored_in, task_by, task_in}
use Rattle.programs.proofs.chunkplan.Common.{of_document, RunFault}
use Rattle.std.proofs.lemmas.Bool.Decides.{not_from_Decides}
use Rattle.std.proofs.lemmas.Slice.Eq.{bytes_eq-Decides}
use Rattle.documents.specs.Document.{optional_in, shape_in}
use Rattle.programs.specs.chunkplan.Document.{box_of, of_type}

module _ (d left : Data)
    (others : (name : List ℕ) → name ≢ codes "chunk_grid" → name ≢ codes "chunk_key_encoding" → name ≢ codes "target"
    → get name left ≡ get name d) where
  kept : (name : List ℕ) → bytes_eq name (codes "chunk_grid") ≡ false → bytes_eq name (codes "chunk_key_encoding") ≡ false
      → bytes_eq name (codes "target") ≡ false → get name left ≡ get name d
  kept name grid encoding target = others name (differs _ grid) (differs _ encoding) (differs _ target) where
    differs : (other : List ℕ) → bytes_eq name other ≡ false → name ≢ other
    differs other = not_from_Decides (bytes_eq name other) (bytes_eq-Decides name other)

  -- what a reading is of the one object, it is of the other
  abbrev Moves : {X F : Type 0} → (Data → Result X F → Type 0) → Type 0
  Moves {X} {F} reading = (r : Result X F) → reading left r → reading d r

  then_moves : {X Y F : Type 0} (first : Data → Result X F → Type 0) (next : Data → X → Result Y F → Type 0) → Moves first
      → ((x : X) → Moves (λ d. next d x)) → Moves (λ d. then (first d) (next d))
  then_moves first next here there (Ok y) (x, is, rest) = (x, here (Ok x) is, there x (Ok y) rest)
  then_moves first next here there (Err fault) (inl is) = inl (here (Err fault) is)
  then_moves first next here there (Err fault) (inr (x, is, rest)) = inr (x, here (Ok x) is, there x (Err fault) rest)

  told_moves : {X F G : Type 0} (by : F → G) (reading : Data → Result X F → Type 0) → Moves reading → Moves (λ d. told by (reading d))
  told_moves by reading here (Ok x) is = here (Ok x) is
  told_moves by reading here (Err fault) (first, is, same) = (first, here (Err first) is, same)

  -- ---- byte ranges

  ranges_by_left : (item : Option ℕ) (r : Result (Option RangesWanted) DocumentFault) → ranges_by left item r → ranges_by d item r
  ranges_by_left None r is = is
  ranges_by_left (Some item) (Ok ranges) is = rw (kept (codes "memory_order") refl refl refl, kept (codes "max_ranges") refl refl refl) at is
  ranges_by_left (Some item) (Err fault) is = rw (kept (codes "memory_order") refl refl refl, kept (codes "max_ranges") refl refl refl) at is

  ranges_left : Moves ranges_in
  ranges_left = then_moves (optional_in edge_of (codes "item_size")) ranges_by (λ r is. rw (kept (codes "item_size") refl refl refl) at is) ranges_by_left

  -- ---- what is asked for with a target

  choice_by_left : (most : Option ℕ) (r : Result TaskChoice DocumentFault) → choice_by left most r → choice_by d most r
  choice_by_left (Some most) (Ok choice) is = rw (kept (codes "read_elements") refl refl refl, kept (codes "stage") refl refl refl) at is
  choice_by_left (Some most) (Err fault) is = rw (kept (codes "read_elements") refl refl refl, kept (codes "stage") refl refl refl) at is
  choice_by_left None (Ok choice) is = rw (kept (codes "task_chunks") refl refl refl, kept (codes "order") refl refl refl) at is
  choice_by_left None (Err fault) is = rw (kept (codes "task_chunks") refl refl refl, kept (codes "order") refl refl refl) at is

  choice_left : Moves choice_in
  choice_left =
      then_moves (optional_in size_of (codes "max_elements")) choice_by (λ r is. rw (kept (codes "max_elements") refl refl refl) at is) choice_by_left

  array_left : (target : Data) (r : Result (Unit {0}) RunFault) → of_array left target r → of_array d target r
  array_left target (Ok done) is = rw (kept (codes "shape") refl refl refl, kept (codes "data_type") refl refl refl) at is
  array_left target (Err fault) is = rw (kept (codes "shape") refl refl refl, kept (codes "data_type") refl refl refl) at is

  rechunking_left : (target : Data) → Moves (λ d. rechunking_in d target)
  rechunking_left target =
      then_moves (λ d. of_array d target) (λ d _. of_stored d) (array_left target)
      (λ _. then_moves (λ _. told of_document (target_stored_in target)) (λ d stored. of_choice stored d) (λ r is. is)
      (λ stored. then_moves (λ d. told of_document (choice_in d)) (λ d choice. of_chunks stored choice d) (told_moves of_document choice_in choice_left)
      (λ choice. then_moves (box_in (codes "chunks")) (λ _. last stored choice) (λ r is. rw (kept (codes "chunks") refl refl refl) at is) (λ chunks r is. is))))
    where
      last : (stored : StorageMetadata) → TaskChoice → Option Box → Result Task RunFault → Type 0
      last stored choice chunks = gives (copy_to stored (record { choice = choice; selection = into_box chunks }))

      of_chunks : (stored : StorageMetadata) → TaskChoice → Data → Result Task RunFault → Type 0
      of_chunks stored choice d = then (box_in (codes "chunks") d) (last stored choice)

      of_choice : (stored : StorageMetadata) → Data → Result Task RunFault → Type 0
      of_choice stored d = then (told of_document (choice_in d)) (λ choice. of_chunks stored choice d)

      of_stored : Data → Result Task RunFault → Type 0
      of_stored d = then (told of_document (target_stored_in target)) (λ stored. of_choice stored d)

  region_left : (target subset : Data) → Moves (λ d. region_in d target subset)
  region_left target subset =
      then_moves (λ d. of_type d target) (λ d _. of_shape d) type_left
      (λ _. then_moves (λ _. told of_document (shape_in (codes "target.shape") target)) (λ d shape. of_stored shape d) (λ r is. is)
      (λ shape. then_moves (λ _. told of_document (target_stored_in target)) (λ d stored. of_elements shape stored d) (λ r is. is)
      (λ stored. then_moves (λ _. box_of (codes "subset") subset) (λ d elements. of_index shape stored elements d) (λ r is. is)
      (λ elements. then_moves (λ d. told of_document (optional_in (list_of size_of) (codes "at") d)) (λ d at. of_choice shape stored elements at d)
      (told_moves of_document (optional_in (list_of size_of) (codes "at")) (λ r is. rw (kept (codes "at") refl refl refl) at is))
      (λ at. then_moves (λ d. told of_document (choice_in d)) (λ _. last shape stored elements at) (told_moves of_document choice_in choice_left)
      (λ choice r is. is))))))
    where
      last : (shape : List ℕ) (stored : StorageMetadata) (elements : Box) (at : Option (List ℕ)) → TaskChoice → Result Task RunFault → Type 0
      last shape stored elements at choice =
          gives (copy_to stored (record { choice = choice; selection = of_region (record { shape = shape; elements = elements; at = at }) }))

      of_choice : (shape : List ℕ) (stored : StorageMetadata) (elements : Box) (at : Option (List ℕ)) → Data → Result Task RunFault → Type 0
      of_choice shape stored elements at d = then (told of_document (choice_in d)) (last shape stored elements at)

      of_index : (shape : List ℕ) (stored : StorageMetadata) (elements : Box) → Data → Result Task RunFault → Type 0
      of_index shape stored elements d =
          then (told of_document (optional_in (list_of size_of) (codes "at") d)) (λ at. of_choice shape stored elements at d)

      of_elements : (shape : List ℕ) (stored : StorageMetadata) → Data → Result Task RunFault → Type 0
      of_elements shape stored d = then (box_of (codes "subset") subset) (λ elements. of_index shape stored elements d)

      of_stored : (shape : List ℕ) → Data → Result Task RunFault → Type 0
      of_stored shape d = then (told of_document (target_stored_in target)) (λ stored. of_elements shape stored d)

      of_shape : Data → Result Task RunFault → Type 0
      of_shape d = then (told of_document (shape_in (codes "target.shape") target)) (λ shape. of_stored shape d)

      type_left : (r : Result (Unit {0}) RunFault) → of_type left target r → of_type d target r
      type_left (Ok done) is = rw (kept (codes "data_type") refl refl refl) at is
      type_left (Err fault) is = rw (kept (codes "data_type") refl refl refl) at is

  to_left : (target : Data) (subset : Option Data) (r : Result Task RunFault) → optional (rechunking_in left target) (region_in left target) subset r
      → optional (rechunking_in d target) (region_in d target) subset r
  to_left target None r is = rechunking_left target r is
  to_left target (Some subset) r is = region_left target subset r is

  -- ---- what is asked for

  abbrev flagged : Option Box → Data → Result Task RunFault → Type 0
  flagged subset d = then (told of_document (flag_in (codes "clip") d)) (λ clip. then (told of_document (ranges_in d)) (λ ranges.
      gives (read_of subset clip ranges)))

  copying_left : (target : Option Data) → Moves (λ d. copying_in d target)
  copying_left None =
      then_moves (box_in (codes "subset")) (λ d subset. flagged subset d) (λ r is. rw (kept (codes "subset") refl refl refl) at is)
      (λ subset. then_moves (λ d. told of_document (flag_in (codes "clip") d))
      (λ d clip. then (told of_document (ranges_in d)) (λ ranges. gives (read_of subset clip ranges)))
      (told_moves of_document (flag_in (codes "clip")) (λ r is. rw (kept (codes "clip") refl refl refl) at is))
      (λ clip. then_moves (λ d. told of_document (ranges_in d)) (λ _ ranges. gives (read_of subset clip ranges))
      (told_moves of_document ranges_in ranges_left) (λ ranges r is. is)))
  copying_left (Some target) =
      then_moves (λ _. told of_document (object_of target)) (λ d _. optional (rechunking_in d target) (region_in d target) (get (codes "subset") d))
      (λ r is. is) (λ _ r is. to_left target (get (codes "subset") d) r (rw (kept (codes "subset") refl refl refl) at is))

  task_by_left : (target : Option Data) (resize : Option (List ℕ)) (r : Result Task RunFault) → task_by left target resize r
      → task_by d target resize r
  task_by_left target None r is = copying_left target r is
  task_by_left target (Some shape) (Ok task) is = rw (kept (codes "include_unchanged") refl refl refl) at is
  task_by_left target (Some shape) (Err fault) is = rw (kept (codes "include_unchanged") refl refl refl) at is

  task_left : (target : Option Data) → Moves (λ d. task_in d target)
  task_left target =
      then_moves (λ d. told of_document (optional_in (list_of size_of) (codes "resize") d)) (λ d. task_by d target)
      (told_moves of_document (optional_in (list_of size_of) (codes "resize")) (λ r is. rw (kept (codes "resize") refl refl refl) at is))
      (task_by_left target)

-- where the target was taken out after the two that say how the array is stored
pub left_of : (d between left : Data)
    → ((name : List ℕ) → name ≢ codes "chunk_grid" → name ≢ codes "chunk_key_encoding" → get name between ≡ get name d)
    → ((name : List ℕ) → name ≢ codes "target" → get name left ≡ get name between)
    → (target : Option Data) → target ≡ get (codes "target") between → (r : Result Task RunFault) → task_in left target r
    → task_in d (get (codes "target") d) r
left_of d between left first second target taken r is =
    let there : target ≡ get (codes "target") d =
    taken ∙ first (codes "target") (λ same. absurd (omega (arith, ap length same))) (λ same. absurd (omega (arith, ap length same))) in
    subst (λ to. task_in d to r) there
    (task_left d left (λ name grid encoding to. second name to ∙ first name grid encoding) target r is)
