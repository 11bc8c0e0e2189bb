use Rattle.std.proofs.Common.{◌≡◌, ℕ, ◌<◌, ◌++◌, ◌||◌, ◌&&◌, Bool, true, false, eqb, take, take-append-drop, refl, sym, ap, ◌∙◌, append_assoc, arith}
use Rattle.std.proofs.KnownBytes.{Appends-trans}
use Rattle.std.proofs.lemmas.Bool.{ne_eqb}
use Rattle.streams.proofs.transfer.write_bytes.Goals as goal

or_false : (b : Bool) → (b || false) ≡ b
or_false true = refl
or_false false = refl

-- a write that took something didn't fail
not_failed : (old new full : Bool) (count : ℕ) → 0 < count → new ≡ (old || (eqb count 0 && full)) → new ≡ old
not_failed old new full count some e = e ∙ ap (λ none. old || (none && full)) (ne_eqb count 0 (λ zero. omega arith)) ∙ or_false old

pub loop-rest-preserved : goal.loop-rest-preserved
loop-rest-preserved g c =
    let (written, all, appended) = c.loop-rest.invariant.0 in
    let count = c.in-Ok.count in
    let rest = c.loop-rest.rest.now in
    let parts : rest ≡ take count rest ++ c.split_at.result.1.now =
    sym (take-append-drop count rest) ∙ ap (λ back. take count rest ++ back) (sym c.split_at.ensures.back) in (
      (
        written ++ take count rest,
        all ∙ ap (λ r. written ++ r) parts ∙ sym (append_assoc written (take count rest) c.split_at.result.1.now),
        Appends-trans _ _ _ written (take count rest) appended c.in-Ok.ensures.bytes,
      ),
      not_failed _ _ _ count c.if-count-gt0.true c.in-Ok.ensures.failed ∙ c.loop-rest.invariant.1,
    )
