use Rattle.std.proofs.Common.{◌++◌, ◌∙◌, ap, append_assoc, codes, refl, string_bytes, subst}
use Rattle.zarrs_chunk_keys.specs.Numeral.{AreJoined}
use Rattle.documents.specs.chunkwhere.Output.{read, unread}
use Rattle.documents.proofs.chunkwhere.answer.append_key_line.Goals as goal
use Rattle.documents.proofs.chunkwhere.answer.append_key_line.Goals.{in-Some+in_ok-append_joined-in-Some, in-None+in_ok-push_str-in-None}

pub returns : goal.returns
returns g c =
    let old = string_bytes c.args.text.now in
    let ended = c.in_ok-push_str.ensures.bytes in
    elim c.match-branch-2.branch [
      | in-Some+in_ok-append_joined-in-Some w ↦
          let (joined, are, longer) = w.in_ok-append_joined-in-Some.ensures.appended in
          let is = rw w.in-Some.is at c.in_ok-chunk.ensures in
          let are_joined = subst (λ numbers. AreJoined 32 numbers joined) w.deref.ensures.value are in (
            joined ++ codes "\n",
            read w.in-Some.chunk.items joined is are_joined refl,
            ended ∙ ap (λ text. string_bytes text ++ codes "\n") w.text-is ∙ ap (λ text. text ++ codes "\n") longer
                ∙ append_assoc old joined (codes "\n"),
          )
      | in-None+in_ok-push_str-in-None w ↦
          let none = rw w.in-None.is at c.in_ok-chunk.ensures in (
            codes "-\n",
            unread none refl,
            ended ∙ ap (λ text. string_bytes text ++ codes "\n") w.text-is ∙ ap (λ text. text ++ codes "\n") w.in_ok-push_str-in-None.ensures.bytes
                ∙ append_assoc old (codes "-") (codes "\n"),
          )
    ]
