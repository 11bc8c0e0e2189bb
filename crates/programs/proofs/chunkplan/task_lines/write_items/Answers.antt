use Rattle.programs.proofs.chunkplan.Common.{◌≡◌, ℕ, List, [], ◌++◌, Result, Vec, refl, sym, AllocError, IsBox, ChunkGrid, ChunkKeyEncoding, Part, Parts}
use Rattle.programs.proofs.chunkplan.Common.{at_first, counted, lines_from, text_as}
use Rattle.std.specs.declared.alloc.Global.{Global}
use Rattle.programs.specs.chunkplan.seen.Opened.{CanGiveParts, PartsToCome, dimensions_in, key_in}
use Rattle.programs.specs.chunkplan.seen.Steps.{IsMade}
use Rattle.programs.specs.declared.chunkplan.line.Form.{Form}
use Rattle.zarrs_chunk_questions.proofs.PartsAhead.{parts_ahead}
use Rattle.programs.proofs.chunkplan.Behind.{Begins, Behind, ends_behind, stops_whole}
use Rattle.programs.proofs.chunkplan.Exits.{handed}
use Rattle.programs.proofs.chunkplan.Numbered.{IsTextOf, counted_first}
use Rattle.programs.proofs.chunkplan.task_lines.write_items.Goals as goal

module _ (before : Result (Vec ℕ Global) AllocError) (walk : Parts ChunkGrid ChunkKeyEncoding) (form : Form) where
  abbrev IsItems : List ℕ → Type 0
  IsItems = IsTextOf (λ n. text_as form (counted n)) 0 (PartsToCome walk)

  abbrev IsBoth : List ℕ → Type 0
  IsBoth text = (first : List ℕ) × (parts : List Part) × IsMade before first × PartsToCome walk parts
      × (text ≡ first ++ lines_from (λ n. text_as form (counted n)) 0 parts)

  first_begins : IsBox walk.array_subset → CanGiveParts walk → Begins (IsMade before) IsBoth
  first_begins is_box meet text made =
      let (parts, are) = parts_ahead walk is_box walk [] (at_first dimensions_in key_in walk walk [] refl refl meet) in
      (lines_from (λ n. text_as form (counted n)) 0 parts, (text, parts, made, are, refl))

  are_both : (text : List ℕ) → Behind (IsMade before) IsItems text → IsBoth text
  are_both text (first, items, made, (parts, are, lines), both) = (first, parts, made, are, rw (both, lines) refl)

pub returns-in_err-send_text : goal.returns-in_err-send_text
returns-in_err-send_text g c =
    rw (handed _ _ c.from_residual.ensures.1)
    (stops_whole _ _ (first_begins c.args.before c.args.walk c.args.form c.requires.is_box c.requires.meet) _ _ _ c.in_err-send_text.ensures)

pub returns : goal.returns
returns g c =
    ends_behind (IsMade c.args.before) (IsItems c.args.before c.args.walk c.args.form) _ _ _ _ c.in_ok-send_text.ensures
    (first_begins c.args.before c.args.walk c.args.form c.requires.is_box c.requires.meet) (are_both c.args.before c.args.walk c.args.form) _
    (c.write_parts.ensures 0 (sym counted_first))
