use Rattle.programs.proofs.chunkplan.Common.{◌≡◌, ◌⊎◌, ◌∙◌, ℕ, List, true, Err, ap, arith, inl, inr, refl, subst, sym, true≢false, ⊎_elim}
use Rattle.programs.proofs.chunkplan.Common.{document_in, HasKeysBehind, is_not_json, RunFault, Memory, NotJson}
use Rattle.programs.specs.chunkplan.Planned.{of_input, several_lines}
use Rattle.programs.proofs.chunkplan.whole_fault.Goals as goal

is_no_json : (fault : RunFault) → is_not_json fault ≡ true → fault ≡ NotJson
is_no_json fault is = grind arith

-- the input is no JSON
no_json : (input : List ℕ) (fault : RunFault) → is_not_json fault ≡ true → (fault ≡ Memory) ⊎ document_in input (Err fault)
    → document_in input (Err NotJson)
no_json input fault is which =
    let same = is_no_json fault is in
    ⊎_elim (λ memory. absurd (true≢false (sym is ∙ ap is_not_json memory))) (λ fails. rw same at fails) which

pub returns-then-not-is_not_json : goal.returns-then-not-is_not_json
returns-then-not-is_not_json c =
    ⊎_elim inl (λ is. inr (of_input is
    (λ same. absurd (true≢false (sym (ap is_not_json same) ∙ sym c.is_not_json.ensures ∙ c.if-not-is_not_json.true))))) c.requires

pub returns-then-branch : goal.returns-then-branch
returns-then-branch c =
    inr (several_lines (no_json c.args.input.now c.args.fault (sym c.is_not_json.ensures ∙ c.if-not-is_not_json.false) c.requires)
    (subst HasKeysBehind c.closed_lines.ensures (c.in_ok-has_keys_behind.ensures.0 c.if-branch.true)) refl)

pub returns : goal.returns
returns c =
    inr (of_input (no_json c.args.input.now c.args.fault (sym c.is_not_json.ensures ∙ c.if-not-is_not_json.false) c.requires)
    (λ _ has. true≢false (sym (c.in_ok-has_keys_behind.ensures.1 (subst HasKeysBehind (sym c.closed_lines.ensures) has)) ∙ c.if-branch.false)))
