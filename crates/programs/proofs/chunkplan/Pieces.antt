-- A line in the pieces in which it is sent is the line.
use Rattle.programs.proofs.chunkplan.Common.{◌≡◌, ◌∙◌, ℕ, zero, suc, ◌<◌, ◌≤◌, Bool, true, false, List, [], ◌∷◌, ◌++◌, codes, Option, None, Some}
use Rattle.programs.proofs.chunkplan.Common.{append_assoc, ap, ap₂, arith, refl, sym, ⊎_elim, fold, begins, ends, print, separator, Token}
use Rattle.programs.proofs.chunkplan.Common.{begin_array, begin_object, boolean, end_array, end_object, key, string, items_tokens, json_tokens}
use Rattle.programs.proofs.chunkplan.Common.{members_tokens, cases_lt, le-leb, lt-leb, Part, RangesWanted, box_json, count_json}
use Rattle.programs.proofs.chunkplan.Common.{lines_from, numbers_json, overlap_json, part_json, items_of, comma_before, item_text, begin_of_task, begin_task_tokens}
use Rattle.programs.proofs.chunkplan.Common.{end_of_task, middle_of_task, ranges_tokens, middle_task_tokens, task_json, task_line, whole_if_tokens, unbroken, TaskPlan}
use Rattle.std.proofs.lemmas.Grind.{fold-append}
use Rattle.json.specs.Json.{Json, null, boolean as boolean_json, number, string as string_json, array, object, Items, no_items, item, Members}
use Rattle.json.specs.Json.{no_members, member}
use Rattle.json.specs.Print.{print_from}
use Rattle.json.proofs.Printed.Tokens.{print_from-append}
use Rattle.zarrs_chunk_base.specs.Greatest.{greatest}
use Rattle.zarrs_chunk_plan.specs.Counted.{counted}
use Rattle.streams.proofs.OneLines.{unbroken-append}

-- whether a value has just ended behind these tokens
abbrev ended : Bool → List Token → Bool
ended = fold (λ _ t. ends t)

mutual
  json_ends : (b : Bool) (j : Json) → ended b (json_tokens j) ≡ true
  json_ends b null = refl
  json_ends b (boolean_json x) = refl
  json_ends b (number s) = refl
  json_ends b (string_json s) = refl
  json_ends b (array js) = items_end false js
  json_ends b (object ms) = members_end false ms

  items_end : (b : Bool) (js : Items) → ended b (items_tokens js) ≡ true
  items_end b no_items = refl
  items_end b (item j js) = fold-append (λ _ t. ends t) b (json_tokens j) (items_tokens js) ∙ items_end (ended b (json_tokens j)) js

  members_end : (b : Bool) (ms : Members) → ended b (members_tokens ms) ≡ true
  members_end b no_members = refl
  members_end b (member k j ms) =
      fold-append (λ _ t. ends t) false (json_tokens j) (members_tokens ms) ∙ members_end (ended false (json_tokens j)) ms

-- whether a source has come
abbrev some_came : ℕ → Bool
some_came zero = false
some_came (suc n) = true

comma_behind : (n : ℕ) → comma_before (counted (suc n)) ≡ codes ","
unfolding counted
comma_behind n =
    ⊎_elim (λ (past : greatest < suc n). rw (lt-leb (suc n) greatest past) refl)
    (λ (fits : suc n ≤ greatest). rw (le-leb (suc n) greatest fits) refl) (cases_lt greatest (suc n))

first_printed : (ts : List Token) (n : ℕ) → (t : Token) → (begins t ≡ true)
    → print_from (some_came n) (t ∷ ts) ≡ comma_before (counted n) ++ print (t ∷ ts)
unfolding print_from counted
first_printed ts zero t begins_value = refl
first_printed ts (suc n) t begins_value =
    rw begins_value (ap (λ comma. comma ++ print (t ∷ ts)) (sym (comma_behind n)))

-- behind these tokens no value has ended, where that is so behind others before them
begun_again : (b : Bool) (ts us : List Token) → ((c : Bool) → ended c us ≡ false) → ended b (ts ++ us) ≡ false
begun_again b ts us none = fold-append (λ _ t. ends t) b ts us ∙ none (ended b ts)

-- ---- pieces of the text, each with the characters escaped that break a line

-- the text ends with this byte
abbrev EndsWith : ℕ → List ℕ → Type 0
EndsWith last text = (front : List ℕ) × (text ≡ front ++ last ∷ [])

escaped_apart : (last : ℕ) → last < 128 → (xs ys : List ℕ) → EndsWith last xs → unbroken (xs ++ ys) ≡ unbroken xs ++ unbroken ys
escaped_apart last ascii xs ys (front, is) = rw is (unbroken-append front ys last ascii)

-- what is printed last is a bracket
ends_with_bracket : (ts : List Token) → EndsWith 91 (print (ts ++ begin_array ∷ []))
unfolding print_from
ends_with_bracket ts =
    let comma = separator (ended false ts) begin_array in
    (print ts ++ comma, print_from-append false ts (begin_array ∷ []) ∙ sym (append_assoc (print ts) comma (91 ∷ [])))

ends_with_brace : (ts : List Token) → EndsWith 125 (print (ts ++ end_object ∷ []))
unfolding print_from
ends_with_brace ts =
    let none = separator (ended false ts) end_object in
    (print ts ++ none, print_from-append false ts (end_object ∷ []) ∙ sym (append_assoc (print ts) none (125 ∷ [])))

last_brace : (ms : Members) → (ts : List Token) × (members_tokens ms ≡ ts ++ end_object ∷ [])
last_brace no_members = ([], refl)
last_brace (member k j ms) =
    let (ts, is) = last_brace ms in
    (key k ∷ (json_tokens j ++ ts), ap (λ us. key k ∷ us) (ap (λ us. json_tokens j ++ us) is ∙ sym (append_assoc (json_tokens j) ts (end_object ∷ []))))

object_ends : (json : Json) (ms : Members) → json ≡ object ms → EndsWith 125 (print (json_tokens json))
object_ends json ms same =
    let (ts, is) = last_brace ms in
    let (front, ends) = ends_with_brace (begin_object ∷ ts) in
    (front, ap (λ j. print (json_tokens j)) same ∙ ap (λ us. print (begin_object ∷ us)) is ∙ ends)

-- a comma before a text stays as it is
comma_stays : (at : Option ℕ) (text : List ℕ) → unbroken (comma_before at ++ text) ≡ comma_before at ++ unbroken text
comma_stays (Some zero) text = refl
comma_stays (Some (suc n)) text = unbroken-append [] text 44 (omega arith)
comma_stays None text = unbroken-append [] text 44 (omega arith)

-- the text of an item as it is printed
pub item_escaped : (json : Part → Json) (at : Option ℕ) (part : Part)
    → unbroken (comma_before at ++ print (json_tokens (json part))) ≡ item_text json at part
item_escaped json at part = comma_stays at (print (json_tokens (json part)))

-- ---- the items of a list

module _ (json : Part → Json) (is_object : (part : Part) → (ms : Members) × (json part ≡ object ms)) where
  -- an item, printed
  abbrev printed : Option ℕ → Part → List ℕ
  printed at part = comma_before at ++ print (json_tokens (json part))

  abbrev all_printed : ℕ → List Part → List ℕ
  all_printed = lines_from (λ n. printed (counted n))

  -- the items, as they are sent
  abbrev pub all_sent : ℕ → List Part → List ℕ
  all_sent = lines_from (λ n. item_text json (counted n))

  item_ends : (at : Option ℕ) (part : Part) → EndsWith 125 (printed at part)
  item_ends at part =
      let (ms, is) = is_object part in
      let (front, ends) = object_ends (json part) ms is in
      (comma_before at ++ front, ap (λ text. comma_before at ++ text) ends ∙ sym (append_assoc (comma_before at) front (125 ∷ [])))

  items_escaped : (n : ℕ) (parts : List Part) (rest : List ℕ) → unbroken (all_printed n parts ++ rest) ≡ all_sent n parts ++ unbroken rest
  items_escaped n [] rest = refl
  items_escaped n (part ∷ parts) rest =
      let one = printed (counted n) part in
      let others = all_printed (suc n) parts in
      ap unbroken (append_assoc one others rest)
      ∙ escaped_apart 125 (omega arith) one (others ++ rest) (item_ends (counted n) part)
      ∙ ap₂ (λ xs ys. xs ++ ys) (item_escaped json (counted n) part) (items_escaped (suc n) parts rest)
      ∙ sym (append_assoc (item_text json (counted n) part) _ _)

  item_printed : (n : ℕ) (part : Part) → print_from (some_came n) (json_tokens (json part)) ≡ printed (counted n) part
  item_printed n part =
      let (ms, is) = is_object part in
      ap (λ j. print_from (some_came n) (json_tokens j)) is ∙ first_printed _ n begin_object refl
      ∙ ap (λ j. comma_before (counted n) ++ print (json_tokens j)) (sym is)

  items_printed : (n : ℕ) (parts : List Part) (ts : List Token)
      → print_from (some_came n) (items_tokens (items_of json parts) ++ ts) ≡ all_printed n parts ++ print_from false (end_array ∷ ts)
  unfolding print_from
  items_printed zero [] ts = refl
  items_printed (suc n) [] ts = refl
  items_printed n (part ∷ others) ts =
      let js = json_tokens (json part) in
      let rest = items_tokens (items_of json others) in
      ap (print_from (some_came n)) (append_assoc js rest ts)
      ∙ print_from-append (some_came n) js (rest ++ ts)
      ∙ rw (json_ends (some_came n) (json part), item_printed n part)
      (ap (λ text. printed (counted n) part ++ text) (items_printed (suc n) others ts))
      ∙ sym (append_assoc (printed (counted n) part) _ _)

  -- a list behind tokens after which no value has ended, as text that is escaped
  list_sent : (first ts : List Token) (parts : List Part) → ended false first ≡ false → EndsWith 91 (print first)
      → unbroken (print (first ++ (items_tokens (items_of json parts) ++ ts)))
      ≡ unbroken (print first) ++ (all_sent 0 parts ++ unbroken (print_from false (end_array ∷ ts)))
  list_sent first ts parts begun bracket =
      let pieces = items_tokens (items_of json parts) in
      let last = print_from false (end_array ∷ ts) in
      ap unbroken
      (print_from-append false first (pieces ++ ts) ∙ ap (λ b. print first ++ print_from b (pieces ++ ts)) begun
      ∙ ap (λ text. print first ++ text) (items_printed 0 parts ts))
      ∙ escaped_apart 91 (omega arith) (print first) (all_printed 0 parts ++ last) bracket
      ∙ ap (λ text. unbroken (print first) ++ text) (items_escaped 0 parts last)

-- ---- the line of a task

overlaps_are_objects : (written : Bool) (part : Part) → (ms : Members) × (overlap_json written part ≡ object ms)
overlaps_are_objects written part = (_, refl)

module _ (buffer : List ℕ) (at all : Option ℕ) where
  begin_task_ends : EndsWith 91 (print (begin_task_tokens buffer))
  begin_task_ends =
      simp append_assoc at (ends_with_bracket (begin_object ∷ key (codes "buffer") ∷ (json_tokens (numbers_json buffer) ++ key (codes "from") ∷ [])))

  middle_task_ends : EndsWith 91 (print (middle_task_tokens at all))
  middle_task_ends =
      let number = json_tokens (count_json at) in
      let count = json_tokens (count_json all) in
      simp append_assoc at
      (ends_with_bracket (end_array ∷ key (codes "number") ∷ (number ++ key (codes "of") ∷ (count ++ key (codes "to") ∷ []))))

  begin_begun : ended false (begin_task_tokens buffer) ≡ false
  begin_begun = begun_again false (json_tokens (numbers_json buffer)) (key (codes "from") ∷ begin_array ∷ []) (λ _. refl)

  middle_begun : ended false (middle_task_tokens at all) ≡ false
  middle_begun =
      let count = json_tokens (count_json all) in
      let last : List Token = key (codes "to") ∷ begin_array ∷ [] in
      begun_again false (json_tokens (count_json at)) (key (codes "of") ∷ (count ++ last)) (λ _. begun_again false count last (λ _. refl))

  -- the line is what begins it, what is read, what stands between, what is written, and the end
  pub in_task : (plan : TaskPlan) → plan.0.source.shape ≡ buffer
      → task_line at all plan
      ≡ ((begin_of_task buffer ++ lines_from (λ n. item_text (overlap_json false) (counted n)) 0 plan.1.0)
      ++ (middle_of_task at all ++ lines_from (λ n. item_text (overlap_json true) (counted n)) 0 plan.1.1))
      ++ end_of_task
  in_task plan same =
      let reads = items_tokens (items_of (overlap_json false) plan.1.0) in
      let writes = items_tokens (items_of (overlap_json true) plan.1.1) in
      let number = json_tokens (count_json at) in
      let count = json_tokens (count_json all) in
      let last : List Token = end_object ∷ [] in
      let to : List Token = key (codes "to") ∷ begin_array ∷ [] in
      let of : List Token = key (codes "of") ∷ (count ++ to) in
      let behind : List Token = key (codes "number") ∷ (number ++ of) in
      let begin = begin_of_task buffer in
      let middle = middle_of_task at all in
      let read = lines_from (λ n. item_text (overlap_json false) (counted n)) 0 plan.1.0 in
      let written = lines_from (λ n. item_text (overlap_json true) (counted n)) 0 plan.1.1 in
      let end = unbroken (print (end_array ∷ last)) in
      let tokens : json_tokens (task_json at all plan) ≡ begin_task_tokens buffer ++ (reads ++ (behind ++ (writes ++ last))) =
      rw same
      (ap (λ ts. begin_object ∷ key (codes "buffer") ∷ ts)
      (ap (λ ts. json_tokens (numbers_json buffer) ++ key (codes "from") ∷ begin_array ∷ (reads ++ key (codes "number") ∷ ts))
      (ap (λ ts. number ++ key (codes "of") ∷ ts) (sym (append_assoc count to (writes ++ last))) ∙ sym (append_assoc number of (writes ++ last)))
      ∙ sym (append_assoc (json_tokens (numbers_json buffer)) (key (codes "from") ∷ begin_array ∷ []) (reads ++ (behind ++ (writes ++ last)))))) in
      let first = list_sent (overlap_json false) (overlaps_are_objects false) (begin_task_tokens buffer) (behind ++ (writes ++ last)) plan.1.0 begin_begun begin_task_ends in
      let second = list_sent (overlap_json true) (overlaps_are_objects true) (middle_task_tokens at all) last plan.1.1 middle_begun middle_task_ends in
      let whole : unbroken (print (json_tokens (task_json at all plan))) ≡ begin ++ (read ++ (middle ++ (written ++ end))) =
      ap (λ us. unbroken (print us)) tokens ∙ first ∙ ap (λ text. begin ++ (read ++ text)) second in
      ap (λ text. text ++ codes "\n") whole ∙ simp append_assoc refl

-- the tokens of a part of a read
pub part_tokens : (at of : Option ℕ) (wanted : Option RangesWanted) (part : Part) → json_tokens (part_json at of wanted part)
    ≡ begin_object ∷ key (codes "chunk") ∷ (json_tokens (numbers_json part.chunk.items)
    ++ key (codes "in_chunk") ∷ (json_tokens (box_json part.in_chunk)
    ++ key (codes "in_selection") ∷ (json_tokens (box_json part.in_selection)
    ++ key (codes "key") ∷ string part.key ∷ key (codes "number") ∷ (json_tokens (count_json at)
    ++ key (codes "of") ∷ (json_tokens (count_json of)
    ++ (ranges_tokens wanted part ++ key (codes "shape") ∷ (json_tokens (numbers_json part.shape.items)
    ++ key (codes "whole") ∷ boolean part.whole ∷ end_object ∷ [])))))))
part_tokens at of None part = refl
part_tokens at of (Some wanted) part = refl

-- the tokens of an overlap
pub overlap_tokens : (written : Bool) (part : Part) → json_tokens (overlap_json written part)
    ≡ begin_object ∷ key (codes "chunk") ∷ (json_tokens (numbers_json part.chunk.items)
    ++ key (codes "in_buffer") ∷ (json_tokens (box_json part.in_selection)
    ++ key (codes "in_chunk") ∷ (json_tokens (box_json part.in_chunk)
    ++ key (codes "key") ∷ string part.key ∷ key (codes "shape") ∷ (json_tokens (numbers_json part.shape.items)
    ++ (whole_if_tokens written part ++ end_object ∷ [])))))
overlap_tokens true part = refl
overlap_tokens false part = refl
