use Rattle.programs.proofs.chunkplan.Common.{◌≡◌, ◌∙◌, ℕ, suc, List, [], ◌∷◌, ◌++◌, Err, Ok, Result, ap, length, refl, sym, arith, AllZip-long}
use Rattle.programs.proofs.chunkplan.Common.{AllZip, counted, all_changes, changes_to_come, IsChangeOf, changes_ahead, first_change, last_change}
use Rattle.programs.proofs.chunkplan.Common.{one_more_change, chained_in, change_line, lines_from, resize_lines, Output, written, RunFault, Memory}
use Rattle.programs.proofs.chunkplan.Common.{sends_nothing}
use Rattle.zarrs_chunk_plan.specs.declared.resize.plan.ChunkChange.{ChunkChange}
use Rattle.programs.specs.chunkplan.seen.Opened.{dimensions_in, key_in}
use Rattle.programs.specs.chunkplan.seen.Steps.{StepLeaves}
use Rattle.zarrs_chunk_questions.proofs.PartsAhead.{keys_in}
use Rattle.programs.proofs.chunkplan.Exits.{handed}
use Rattle.programs.proofs.chunkplan.Numbered.{IsLineOf, IsTextOf, counted_first, way_ends, way_goes_on, way_memory, way_stops}
use Rattle.programs.proofs.chunkplan.Steps.{made_text, text_follows}
use Rattle.programs.proofs.chunkplan.copying.write_changes.Goals as goal

-- the line of a change, of as many as these chunks are
abbrev line_of_one : List (List ℕ) → ℕ → ChunkChange → List ℕ
line_of_one all n = change_line (counted n) (counted (length all))

-- a change for each of these chunks, in lines
in_lines : (R : List ℕ → ChunkChange → Type 0) (all chunks : List (List ℕ)) → all ≡ chunks → (r : Result (Unit {0}) RunFault) (before after : Output)
    → StepLeaves (IsTextOf (line_of_one all) 0 (AllZip R chunks)) (λ _. ⊥) r before after
    → StepLeaves (λ text. (changes : List ChunkChange) × AllZip R chunks changes × (text ≡ resize_lines changes)) (λ _. ⊥) r before after
in_lines R all chunks same r before after =
    text_follows _ _ (λ _. ⊥)
    (λ text (changes, are, lines). (
      changes,
      are,
      lines
          ∙ ap (λ k. lines_from (λ n. change_line (counted n) (counted k)) 0 changes) (ap length same ∙ sym (AllZip-long R chunks changes are)),
    ))
    before after r

pub loop-change-init : goal.loop-change-init
loop-change-init g c = (
  0,
  sym counted_first,
  (
    [],
    (
      [],
      first_change dimensions_in dimensions_in key_in c.args.walk
          c.into_iter-change-iterator.result [] c.into_iter-change-iterator.ensures.into_iter_gives refl c.requires.can,
      omega arith,
      refl,
    ),
    sends_nothing (written g.W.Write.contents c.args.sink.now),
    refl,
  ),
)

pub loop-change-preserved : goal.loop-change-preserved
loop-change-preserved g c =
    let (n, number_is, sent) = c.loop-change.invariant in
    let change = c.in_ok-change.field-0 in
    let walk = c.args.walk in
    let gives = rw c.in_ok-change.was at c.in-Some.ensures.steps in
    let of = counted (length (all_changes walk)) in
    let (text, made, more, failed) = c.in_ok-send_text.ensures in
    let is = made_text (λ text. text ≡ change_line c.loop-change.number of change) c.change_line.result (rw c.in_all-of.ensures at c.change_line.ensures) text made in (
      suc n,
      c.next_number-number.ensures n number_is,
      way_goes_on (line_of_one (all_changes walk)) 0 _ _ (λ _. ⊥) (λ y. y ≡ change) n _ _ _ sent
          (λ came y have same. one_more_change dimensions_in dimensions_in key_in walk c.loop-change.change-iterator c.next.new.self change came (came ++ y ∷ []) have
          gives (rw same refl))
          (text, (change, refl, is ∙ ap (λ number. change_line number (counted (length (all_changes walk))) change) number_is), more, failed),
    )

-- ---- where it stops

pub returns-in_err-change : goal.returns-in_err-change
returns-in_err-change g c =
    let (n, number_is, sent) = c.loop-change.invariant in
    let walk = c.args.walk in
    rw (handed _ _ c.from_residual.ensures.1)
    (in_lines (IsChangeOf dimensions_in dimensions_in key_in walk) (all_changes walk) (changes_to_come walk) c.requires.all (Err Memory) _ (written g.W.Write.contents c.loop-change.sink)
    (way_memory (line_of_one (all_changes walk)) 0 _ _ n _ _ sent
    (changes_ahead dimensions_in dimensions_in key_in walk (chained_in walk.before.now) (chained_in walk.after.now)
    c.requires.fit c.requires.also_fit (keys_in walk.encoding.now) c.requires.can c.requires.used c.loop-change.change-iterator)))

pub returns-in_err-send_text : goal.returns-in_err-send_text
returns-in_err-send_text g c =
    let (n, number_is, sent) = c.loop-change.invariant in
    let change = c.in_ok-change.field-0 in
    let walk = c.args.walk in
    let gives = rw c.in_ok-change.was at c.in-Some.ensures.steps in
    let of = counted (length (all_changes walk)) in
    let between : Output = written g.W.Write.contents c.loop-change.sink in
    let last : Output = written g.W.Write.contents c.send_text.new.sink in
    let told = ap (λ of. change_line c.loop-change.number of change) c.in_all-of.ensures ∙ ap (λ number. change_line number of change) number_is in
    let ahead = changes_ahead dimensions_in dimensions_in key_in walk (chained_in walk.before.now) (chained_in walk.after.now)
    c.requires.fit c.requires.also_fit (keys_in walk.encoding.now) c.requires.can c.requires.used in
    rw (handed _ _ c.from_residual-in_err-send_text.ensures.1)
    (in_lines _ (all_changes walk) _ c.requires.all (Err _) _ _
    (way_stops (line_of_one (all_changes walk)) 0 _ _ _ (λ y. y ≡ change) n _ _ _ sent
    (λ came y have same. one_more_change dimensions_in dimensions_in key_in walk c.loop-change.change-iterator c.next.new.self change came (came ++ y ∷ []) have gives
    (rw same refl))
    (ahead c.loop-change.change-iterator) (ahead c.next.new.self) _
    (text_follows _ (IsLineOf (line_of_one (all_changes walk)) 0 (λ y. y ≡ change) n) (λ _. ⊥)
    (λ text made. (change, refl, made_text (λ text. text ≡ change_line c.loop-change.number c.in_all-of.result change) c.change_line.result c.change_line.ensures text made ∙ told))
    between last (Err _) c.in_err-send_text.ensures)))

pub returns : goal.returns
returns g c =
    let (n, number_is, sent) = c.loop-change.invariant in
    let walk = c.args.walk in
    in_lines _ (all_changes walk) _ c.requires.all (Ok tt) _ _
    (way_ends (line_of_one (all_changes walk)) 0 _ _ n _ _ sent
    (λ came have. last_change dimensions_in dimensions_in key_in walk
    c.loop-change.change-iterator c.next.new.self came have c.in-None.ensures.steps))
