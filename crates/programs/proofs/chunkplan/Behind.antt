-- Texts that are sent one behind another.
use Rattle.programs.proofs.chunkplan.Common.{◌≡◌, ◌∙◌, ℕ, List, [], ◌++◌, Result, Ok, Err, inl, inr, append-nil, refl, subst, sym, ⊎_elim, Output}
use Rattle.programs.proofs.chunkplan.Common.{RunFault, Memory, Write, sends_longer, sends_more}
use Rattle.programs.specs.chunkplan.seen.Steps.{HasBegun, HasSent, StepLeaves}

-- a step that has no fault of its own stops
abbrev pub Stops : (P : List ℕ → Type 0) → RunFault → Output → Output → Type 0
Stops P fault before after = StepLeaves P (λ _. ⊥) (Err fault) before after

-- a text of which P holds, and one of which Q holds behind it
abbrev pub Behind : (P Q : List ℕ → Type 0) → List ℕ → Type 0
Behind P Q text = (one : List ℕ) × (other : List ℕ) × P one × Q other × (text ≡ one ++ other)

-- each such text begins a whole one
abbrev pub Begins : (P All : List ℕ → Type 0) → Type 0
Begins P All = (text : List ℕ) → P text → (rest : List ℕ) × All (text ++ rest)

module _ (P All : List ℕ → Type 0) (begins : Begins P All) (before : Output) where
  begun_whole : (after : Output) → HasBegun P before after → HasBegun All before after
  begun_whole after (text, is, rest, sends) =
      let (others, all) = begins text is in
      (text ++ others, all, rest ++ others, sends_longer before after.holds text others rest sends)

  pub stops_whole : (after : Output) (fault : RunFault) → Stops P fault before after → Stops All fault before after
  stops_whole after Memory (same, which) = (same, ⊎_elim inl (λ begun. inr (begun_whole after begun)) which)
  stops_whole after Write leaves = (leaves.0, begun_whole after leaves.1)
  stops_whole after _ leaves = absurd leaves.2

  -- memory ran out where such a text had been sent
  pub memory_after : (now : Output) → HasSent P before now → Stops All Memory before now
  memory_after now (text, is, sends, same) = (same, inr (begun_whole now (text, is, now.held_back, sends)))

module _ (P Q All : List ℕ → Type 0) (before between after : Output) (sent : HasSent P before between) where
  pub sent_behind : HasSent Q between after → HasSent (Behind P Q) before after
  sent_behind (other, also, more, still) =
      let (one, is, sends, same) = sent in (
        one ++ other,
        (one, other, is, also, refl),
        sends_more before between after.holds one other after.held_back sends more,
        still ∙ same,
      )

  begun_behind : HasBegun Q between after → HasBegun (Behind P Q) before after
  begun_behind (other, also, rest, more) =
      let (one, is, sends, same) = sent in
      (one ++ other, (one, other, is, also, refl), rest, sends_more before between after.holds one other rest sends more)

  unsent : Begins P All → after.holds ≡ between.holds → HasBegun All before after
  unsent begins holds =
      let (one, is, sends, same) = sent in
      let (others, all) = begins one is in
      (one ++ others, all, between.held_back ++ others, rw holds (sends_longer before between.holds one others between.held_back sends))

  -- what comes behind it stops
  pub stops_behind : Begins P All → Begins (Behind P Q) All → (fault : RunFault) → Stops Q fault between after → Stops All fault before after
  stops_behind here there Memory (still, which) =
      let (_, _, _, same) = sent in
      (still ∙ same, inr (⊎_elim (unsent here) (λ begun. begun_whole (Behind P Q) All there before after (begun_behind begun)) which))
  stops_behind here there Write leaves = (leaves.0, begun_whole (Behind P Q) All there before after (begun_behind leaves.1))
  stops_behind here there _ leaves = absurd leaves.2

  -- or is the last
  pub ends_behind : Begins P All → ((text : List ℕ) → Behind P Q text → All text) → (r : Result (Unit {0}) RunFault)
      → StepLeaves Q (λ _. ⊥) r between after → StepLeaves All (λ _. ⊥) r before after
  ends_behind here whole (Ok tt) step = let (text, both, sends, same) = sent_behind step in (text, whole text both, sends, same)
  ends_behind here whole (Err fault) step =
      stops_behind here (λ text both. ([], subst All (sym (append-nil text)) (whole text both))) fault step
