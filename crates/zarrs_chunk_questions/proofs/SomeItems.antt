-- Some of the items of a list, of which there aren't too many.
use Rattle.std.proofs.Common.{◌≡◌, ◌≢◌, ◌∙◌, ◌≤◌, ◌+◌, ◌*◌, ◌-◌, ◌⊎◌, ℕ, IfOk, IfSome, List, MatchResult, Option, Some, Result, Ok, Err, ap, drop, inr, length, map}
use Rattle.std.proofs.Common.{min, refl, subst, take, arith}
use Rattle.std.proofs.lemmas.Nat.{mul-le}
use Rattle.std.proofs.lemmas.List.{length-drop, length-map, length-take}
use Rattle.std.proofs.lemmas.Slice.Zip.{AllZip-long}
use Rattle.std.specs.List.{AllByRecursion, AllZip}
use Rattle.serde_json.specs.Data.{Data}
use Rattle.serde_json.specs.View.{view}
use Rattle.serde_json.specs.declared.value.Value.{Value}
use Rattle.zarrs_chunk_base.specs.ArraySubset.{Box, IsBox, IsEmptyBox}
use Rattle.zarrs_chunk_base.specs.Dimension.{Dimension, IsChain}
use Rattle.zarrs_chunk_base.specs.Greatest.{greatest}
use Rattle.zarrs_chunk_base.specs.Grid.{Grid}
use Rattle.zarrs_chunk_base.specs.Refusal.{OrMemory}
use Rattle.zarrs_chunk_base.specs.declared.incompatible_dimensionality_error.IncompatibleDimensionalityError.{IncompatibleDimensionalityError}
use Rattle.zarrs_chunk_base.specs.declared.refusal.Refusal.{Refusal}
use Rattle.zarrs_chunk_base.specs.declared.refusal.Refusal.TheVariants.{Refused, Memory}
use Rattle.zarrs_chunk_keys.specs.ChunkKey.{Encoding, IsKey}
use Rattle.zarrs_chunk_keys.specs.KeyKinds.{IsEncodingIn}
use Rattle.zarrs_chunks.specs.Walks.{chunks_in}
use Rattle.zarrs_chunk_parts.specs.Plan.{IsPart, Meets}
use Rattle.zarrs_chunk_parts.specs.declared.part.Part.{Part}
use Rattle.zarrs_chunk_plan.specs.SomeParts.{AreSomeParts}
use Rattle.zarrs_chunk_plan.specs.declared.read.numbered_parts.SomeParts.{SomeParts}
use Rattle.zarrs_chunk_plan.specs.seen.Parts.{FindsCovered, FindsSome, HasKeys}
use Rattle.zarrs_chunk_plan.proofs.Plans.{full_or_narrow, meet_each}
use Rattle.zarrs_chunk_plan.proofs.SomePlan.{have_parts}
use Rattle.zarrs_chunk_questions.specs.Pages.{CanHaveParts, IsPartsAnswer, IsSomePartsAnswer, first_of, is_more, page_tree, parts_tree}
use Rattle.zarrs_chunk_questions.specs.Trees.{box_of}
use Rattle.zarrs_chunk_questions.specs.Pages.{part_tree}
use Rattle.zarrs_chunk_questions.specs.Question.{Items, Lists}
use Rattle.zarrs_chunk_questions.specs.Refused.{IsPartsRefusal, IsSomePartsRefusal}
use Rattle.zarrs_chunk_questions.specs.seen.Found.{TellsError}
use Rattle.zarrs_chunk_questions.specs.declared.line_fault.LineFault.{LineFault}
use Rattle.zarrs_chunk_questions.specs.seen.Lines.{IsGiven}
use Rattle.zarrs_chunk_questions.proofs.Lengths.{each_long, page_long, text_long}
use Rattle.zarrs_chunk_questions.proofs.Listed.{all_behind, all_taken}
use Rattle.zarrs_chunk_questions.proofs.LongPages.{AreLong, given_so, part_least, parts_long}

-- fewer than are too many are all that were wanted
pub all_wanted : {X Y : Type 0} (R : X → Y → Type 0) (xs : List X) (ys : List Y) (first most too_many in_all : ℕ) → in_all ≤ length xs
    → AllZip R (take (min (in_all - first) (min most too_many)) (drop first xs)) ys → length ys ≢ too_many
    → AllZip R (take (min (in_all - first) most) (drop first xs)) ys
all_wanted R xs ys first most too_many in_all within are few =
    let count = min (in_all - first) (min most too_many) in
    let long : length ys ≡ min count (length xs - first) =
    AllZip-long R _ ys are ∙ length-take count (drop first xs) ∙ ap (min count) (length-drop first xs) in
    let same : count ≡ min (in_all - first) most = omega arith in
    rw same at are

module _ (ds : List Dimension) (HasKey : List ℕ → List ℕ → Type 0) (b : Box) (first : ℕ) where
  -- what `some_parts` says of what it finds
  abbrev Found : (most : ℕ) → Result (Option SomeParts) (Refusal IncompatibleDimensionalityError) → Type 0
  Found most answer = IfOk answer (λ found. IfSome found (λ some. AreSomeParts ds HasKey b first most some.in_all some.parts.items))

  abbrev Covered : Result (Option SomeParts) (Refusal IncompatibleDimensionalityError) → Type 0
  Covered answer = (¬ IsEmptyBox b) ⊎ (length ds ≡ 0) → FindsCovered ds b answer

  can_have : (some : SomeParts) (answer : Result (Option SomeParts) (Refusal IncompatibleDimensionalityError)) → answer ≡ Ok (Some some)
      → Covered answer → CanHaveParts ds b
  can_have some answer found covered which = (subst (FindsCovered ds b) found (covered which)).0

  -- all parts that were wanted, where there aren't too many
  wanted_parts : (most too_many in_all : ℕ) (parts : List Part) → AreSomeParts ds HasKey b first (min most too_many) in_all parts
      → length parts ≢ too_many → AreSomeParts ds HasKey b first most in_all parts
  wanted_parts most too_many in_all parts are few =
      let counted : in_all ≡ min (length (chunks_in are.cover)) greatest = are.counted in
      let within : in_all ≤ length (chunks_in are.cover) = omega arith in
      record {
        cover = are.cover;
        is_cover = are.is_cover;
        counted = are.counted;
        are_parts = all_wanted (IsPart ds HasKey b) (chunks_in are.cover) parts first most too_many in_all within are.are_parts few;
      }

  -- the page of the parts that were made
  pub parts_page : (wanted most too_many count : ℕ) (some : SomeParts) (answer : Result (Option SomeParts) (Refusal IncompatibleDimensionalityError))
      (trees : List Value) (t : Data) → answer ≡ Ok (Some some) → Covered answer → Found wanted answer
      → wanted ≡ min most too_many → map view trees ≡ map part_tree some.parts.items → count ≡ length some.parts.items → count ≢ too_many
      → t ≡ page_tree (map view trees) (is_more first count some.in_all) → IsPartsAnswer ds HasKey b first most t
  parts_page wanted most too_many count some answer trees t found covered may wants made counted few is =
      let told : Found (min most too_many) (Ok (Some some)) = rw (found, wants) at may in
      inr (
        can_have some answer found covered,
        some.in_all,
        some.parts.items,
        wanted_parts most too_many some.in_all some.parts.items told (rw counted at few),
        is ∙ ap (λ items. page_tree items (is_more first count some.in_all)) made
            ∙ ap (λ n. page_tree (map part_tree some.parts.items) (is_more first n some.in_all)) counted,
      )

  -- each part of some chunks is so long
  long_parts : (too_many in_all : ℕ) (parts : List Part) → AreLong (part_least ds) (map part_tree parts) → too_many ≤ length parts
      → too_many * part_least ds ≤ text_long (parts_tree first in_all parts)
  long_parts too_many in_all parts all enough =
      let trees = map part_tree parts in
      let each = each_long (part_least ds) trees all in
      let page = page_long trees (is_more first (length parts) in_all) in
      let mapped = length-map parts part_tree in
      let times = mul-le too_many (part_least ds) (length trees) (part_least ds) (omega arith) (omega arith) in
      omega arith

  -- where too many were made, all that were asked for exist, and the page is as long as they are
  pub long_page_of : AllByRecursion IsChain ds → HasKeys HasKey → IsBox b → (wanted most too_many : ℕ) (some : SomeParts)
      (answer : Result (Option SomeParts) (Refusal IncompatibleDimensionalityError)) → answer ≡ Ok (Some some) → Covered answer → Found wanted answer
      → wanted ≡ min most too_many → length some.parts.items ≡ too_many
      → (t : Data) × IsPartsAnswer ds HasKey b first most t × (too_many * part_least ds ≤ text_long t)
  long_page_of chains keys is_box wanted most too_many some answer found covered may wants many =
      let told : Found (min most too_many) (Ok (Some some)) = rw (found, wants) at may in
      let are : AreSomeParts ds HasKey b first (min most too_many) some.in_all some.parts.items = told in
      let all = chunks_in are.cover in
      let asked = take (min (some.in_all - first) most) (drop first all) in
      let meets = all_taken (Meets ds b) (min (some.in_all - first) most) (drop first all)
      (all_behind (Meets ds b) first all (meet_each are.is_cover))
      in
      let (parts, zipped) = have_parts ds HasKey chains keys b is_box asked meets in
      let long = AllZip-long (IsPart ds HasKey b) asked parts zipped in
      let was = AllZip-long (IsPart ds HasKey b) _ some.parts.items are.are_parts in
      let taken = length-take (min (some.in_all - first) most) (drop first all) in
      let also = length-take (min (some.in_all - first) (min most too_many)) (drop first all) in (
        parts_tree first some.in_all parts,
        inr (
          can_have some answer found covered,
          some.in_all,
          parts,
          record { cover = are.cover; is_cover = are.is_cover; counted = are.counted; are_parts = zipped },
          refl,
        ),
        long_parts too_many some.in_all parts (parts_long ds HasKey b asked parts zipped meets) (omega arith),
      )

-- and why there are none
pub no_parts : (ds : List Dimension) (b : Box) (answer : Result (Option SomeParts) (Refusal IncompatibleDimensionalityError)) (fault : LineFault)
    → (IsEmptyBox b → length ds ≢ 0 → FindsSome answer) → ((¬ IsEmptyBox b) ⊎ (length ds ≡ 0) → FindsCovered ds b answer)
    → TellsError answer fault → IsPartsRefusal ds b fault
no_parts ds b answer fault of_empty of_full (e, same, told) =
    let which = full_or_narrow ds b (λ empty wide. subst FindsSome same (of_empty empty wide)) in
    rw told (which, subst (FindsCovered ds b) same (of_full which))

-- of the box, the encoding and the items that a question asks of
pub parts_asked : (tree : Data) (items : Items) (lists : Lists) (grid : Grid) (encoding : Encoding) → IsEncodingIn tree encoding → (b : Box)
    → b ≡ box_of lists → IsBox b → (first most : ℕ) → first ≡ first_of items → most ≡ items.most
    → (result : Result (Option Value) (Refusal LineFault))
    → (room bytes : ℕ) → room + 1 ≤ bytes → MatchResult result (IsGiven bytes (IsPartsAnswer grid.dimensions (IsKey encoding) b first most))
    (OrMemory (IsPartsRefusal grid.dimensions b))
    → MatchResult result (IsGiven (room + 1) (IsSomePartsAnswer tree items lists grid)) (OrMemory (IsSomePartsRefusal tree lists grid))
parts_asked tree items lists grid encoding made b same is_box first most from wanted (Ok found) room bytes fewer is =
    given_so bytes (room + 1) _ _ found
    (λ t answer.
    let ds = grid.dimensions in
    let HasKey = IsKey encoding in
    let of_most = subst (λ n. IsPartsAnswer ds HasKey b first n t) wanted answer in
    let of_first = subst (λ n. IsPartsAnswer ds HasKey b n items.most t) from of_most in
    (encoding, made, subst IsBox same is_box, subst (λ x. IsPartsAnswer ds HasKey x (first_of items) items.most t) same of_first))
    fewer is
parts_asked tree items lists grid encoding made b same is_box first most from wanted (Err (Refused fault)) room bytes fewer is =
    inr (encoding, made, inr (subst IsBox same is_box, subst (λ x. IsPartsRefusal grid.dimensions x fault) same is))
parts_asked tree items lists grid encoding made b same is_box first most from wanted (Err (Memory _)) room bytes fewer is = tt
