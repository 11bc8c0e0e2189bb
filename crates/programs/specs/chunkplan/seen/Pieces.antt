-- A line in the pieces in which it is sent.
use Rattle.std.specs.Prelude.{◌∷◌, ◌++◌}
use Rattle.programs.specs.chunkplan.Common.{ℕ, zero, suc, Bool, true, false, Json, List, [], codes, Option, None, Some, option_map, print, Token, begin_array, begin_object}
use Rattle.programs.specs.chunkplan.Common.{boolean, end_array, end_object, key, json_tokens, Part}
use Rattle.programs.specs.chunkplan.Document.{RangesWanted, ranges_asked_of}
use Rattle.programs.specs.chunkplan.Line.{count_json, line_of, numbers_json, overlap_json, part_json, part_ranges_json}
use Rattle.streams.specs.OneLine.{line_of as one_line, unbroken}
use Rattle.programs.specs.declared.chunkplan.line.Form.{Form}
use Rattle.programs.specs.declared.chunkplan.line.Form.TheVariants.{Line, Overlap}

-- a comma, but before the first
abbrev pub comma_before : Option ℕ → List ℕ
comma_before (Some zero) = []
comma_before _ = codes ","

-- the same of a number that is known
abbrev pub comma_but_first : ℕ → List ℕ
comma_but_first zero = []
comma_but_first (suc n) = codes ","

-- the text of an item of a list in a line, by its number
abbrev pub item_text : (Part → Json) → Option ℕ → Part → List ℕ
item_text json at part = comma_before at ++ unbroken (print (json_tokens (json part)))

-- the text of a part by its number: a line of a read, or an item in the line of a task
abbrev pub text_as : Form → Option ℕ → Part → List ℕ
text_as (Line of ranges) at part = line_of (part_json at of (option_map ranges_asked_of ranges) part)
text_as (Overlap written) at part = item_text (overlap_json written) at part

-- the tokens of the byte ranges of a part, where they are wanted
abbrev pub ranges_tokens : Option RangesWanted → Part → List Token
ranges_tokens None part = []
ranges_tokens (Some wanted) part = key (codes "ranges") ∷ json_tokens (part_ranges_json wanted part)

-- the tokens of the last member of an overlap, if it has one
abbrev pub whole_if_tokens : (written : Bool) → Part → List Token
whole_if_tokens true part = key (codes "whole") ∷ boolean part.whole ∷ []
whole_if_tokens false part = []

-- the tokens of the line of a task: those before what is read, those between that and what is written, and those after it
abbrev pub begin_task_tokens : (buffer : List ℕ) → List Token
begin_task_tokens buffer = begin_object ∷ key (codes "buffer") ∷ (json_tokens (numbers_json buffer) ++ key (codes "from") ∷ begin_array ∷ [])

abbrev pub middle_task_tokens : (at of : Option ℕ) → List Token
middle_task_tokens at of =
    end_array ∷ key (codes "number") ∷ (json_tokens (count_json at)
    ++ key (codes "of") ∷ (json_tokens (count_json of) ++ key (codes "to") ∷ begin_array ∷ []))

-- the texts of the line of a task, but for what it reads and writes
abbrev pub begin_of_task : (buffer : List ℕ) → List ℕ
begin_of_task buffer = unbroken (print (begin_task_tokens buffer))

abbrev pub middle_of_task : (at of : Option ℕ) → List ℕ
middle_of_task at of = unbroken (print (middle_task_tokens at of))

abbrev pub end_of_task : List ℕ
end_of_task = one_line (print (end_array ∷ end_object ∷ []))
