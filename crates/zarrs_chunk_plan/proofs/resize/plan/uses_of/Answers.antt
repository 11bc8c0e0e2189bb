use Rattle.zarrs_chunk_plan.proofs.Common.{◌≡◌, ◌∙◌, ap, length, replicate}
use Rattle.zarrs_chunk_plan.proofs.resize.plan.uses_of.Goals as goal

pub returns-clause-changed : goal.returns-clause-changed
returns-clause-changed g c = λ resized.
    let before = c.in_ok-used_before.ensures in
    let long : length c.in_ok-kept.kept.items ≡ length (g.G.ChunkGridTraits.dimensions c.args.before.now) =
    c.in_ok-kept.ensures.lengths ∙ ap length c.deref.ensures.value ∙ before.long
    in
    let kept = (rw (c.deref.ensures.value, c.deref-2.ensures.value) at c.in_ok-kept.ensures.kept) resized before.those c.in_ok-used_after.ensures.those in
    record {
      before_it = before;
      after_it = c.in_ok-used_after.ensures;
      kept = record {
        long = c.unwrap_or_zeros.ensures.long ∙ long;
        those = λ chunk. let same = c.unwrap_or_zeros.ensures.those chunk in (λ below. (kept chunk).0 (same.0 below), λ is. same.1 ((kept chunk).1 is));
        none = λ has. c.unwrap_or_zeros.ensures.none has ∙ ap (λ n. replicate n 0) long;
      };
    }
