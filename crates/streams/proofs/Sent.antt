-- Text that is sent piece by piece.
use Rattle.std.proofs.Common.{◌≡◌, ◌∙◌, ℕ, List, [], ◌++◌, Option, Some, None, IfSome, append_assoc, append-nil, ap, refl, sym}
use Rattle.streams.proofs.Known.{for_known}
use Rattle.streams.specs.seen.Sent.{IsSent, Output, Sends}

some_known : (holds : Option (List ℕ)) (P : List ℕ → List ℕ → Type 0) → ((held : List ℕ) → holds ≡ Some held → (rest : List ℕ) × P held rest)
    → (rest : List ℕ) × IfSome holds (λ held. P held rest)
some_known None P says = ([], tt)
some_known (Some held) P says = says held refl

module _ (before : Output) where
  -- bytes that are held back
  pub waits : (bytes : List ℕ) → Sends before bytes before.holds (before.held_back ++ bytes)
  waits bytes = for_known before.holds _ (λ held is_held. ([], is_held ∙ ap Some (sym (append-nil held)), refl))

  pub sends_nothing : Sends before [] before.holds before.held_back
  sends_nothing = for_known before.holds _ (λ held is_held. ([], is_held ∙ ap Some (sym (append-nil held)), append-nil before.held_back))

  -- all that is held back is sent
  pub all_sent : (after : Option (List ℕ)) (bytes all : List ℕ) → all ≡ before.held_back ++ bytes
      → IfSome before.holds (λ held. after ≡ Some (held ++ all))
      → Sends before bytes after []
  all_sent after bytes all is sent = for_known before.holds _ (λ held is_held. (all, rw is_held at sent, sym is ∙ sym (append-nil all)))

  -- and nothing is held back then
  pub flushed : (after : Output) → after.held_back ≡ [] → IfSome before.holds (λ held. after.holds ≡ Some (held ++ before.held_back))
      → IsSent before after []
  flushed after none sent = rw none (all_sent after.holds [] before.held_back (sym (append-nil before.held_back)) sent)

  -- or a beginning of it
  pub some_sent : (after : Option (List ℕ)) (bytes all : List ℕ) → all ≡ before.held_back ++ bytes
      → IfSome before.holds (λ held. (written : List ℕ) × (rest : List ℕ) × (all ≡ written ++ rest) × (after ≡ Some (held ++ written)))
      → (rest : List ℕ) × Sends before bytes after rest
  some_sent after bytes all is sent = some_known before.holds _ (λ held is_held.
      let (written, rest, parts, now) = rw is_held at sent in (rest, (written, now, sym is ∙ parts)))

  -- some bytes, and then others
  pub sends_more : (between : Output) (after : Option (List ℕ)) (bytes others rest : List ℕ) → Sends before bytes between.holds between.held_back
      → Sends between others after rest → Sends before (bytes ++ others) after rest
  sends_more between after bytes others rest first second = for_known before.holds _ (λ held is_held.
      let (sent, now, parts) = rw is_held at first in
      let (more, then, others_are) = rw now at second in (
        sent ++ more,
        then ∙ ap Some (append_assoc held sent more),
        sym (append_assoc before.held_back bytes others) ∙ ap (λ xs. xs ++ others) parts ∙ append_assoc sent between.held_back others
            ∙ ap (λ xs. sent ++ xs) others_are ∙ sym (append_assoc sent more rest),
      ))

  -- what would have come behind them is in the rest
  pub sends_longer : (after : Option (List ℕ)) (bytes others rest : List ℕ) → Sends before bytes after rest
      → Sends before (bytes ++ others) after (rest ++ others)
  sends_longer after bytes others rest sends = for_known before.holds _ (λ held is_held.
      let (sent, now, parts) = rw is_held at sends in
      (sent, now, sym (append_assoc before.held_back bytes others) ∙ ap (λ xs. xs ++ others) parts ∙ append_assoc sent rest others))
