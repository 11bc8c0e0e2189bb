use Rattle.std.proofs.Common.{◌∙◌, ap, arith, codes, inl, length, refl, rules, sym}
use Rattle.serde_json.specs.View.{view}
use Rattle.documents.specs.Document.{stored_in}
use Rattle.documents.proofs.Readings.{both, later, stops_or}
use Rattle.documents.proofs.document.take_stored.Goals as goal

pub returns-in_err-chunk_key_encoding-clause-stored : goal.returns-in_err-chunk_key_encoding-clause-stored
returns-in_err-chunk_key_encoding-clause-stored c =
    let left = c.in_ok-chunk_grid.ensures.others (codes "chunk_key_encoding") (λ same. absurd (omega (arith, ap length same))) in search rules

pub returns-in_err-metadata_of-clause-stored : goal.returns-in_err-metadata_of-clause-stored
returns-in_err-metadata_of-clause-stored c =
    let left = c.in_ok-chunk_grid.ensures.others (codes "chunk_key_encoding") (λ same. absurd (omega (arith, ap length same))) in search rules

pub returns-in_err-metadata_of-2-clause-stored : goal.returns-in_err-metadata_of-2-clause-stored
returns-in_err-metadata_of-2-clause-stored c =
    let left = c.in_ok-chunk_grid.ensures.others (codes "chunk_key_encoding") (λ same. absurd (omega (arith, ap length same))) in
    stops_or _ (stored_in c.args.grid_name.now c.args.encoding_name.now (view c.args.tree.now)) _ _
    c.from_residual-in_err-metadata_of-2.ensures.1 _ c.in_err-metadata_of-2.ensures
    (λ is. later _ c.in_ok-chunk_grid.ensures.value (later _ (sym left ∙ c.in_ok-chunk_key_encoding.ensures.value)
    (later _ c.in_ok-metadata_of.ensures (inl is))))

pub returns-clause-stored : goal.returns-clause-stored
returns-clause-stored c =
    let left = c.in_ok-chunk_grid.ensures.others (codes "chunk_key_encoding") (λ same. absurd (omega (arith, ap length same))) in
    both _ c.in_ok-chunk_grid.ensures.value (both _ (sym left ∙ c.in_ok-chunk_key_encoding.ensures.value)
    (both _ c.in_ok-metadata_of.ensures (both _ c.in_ok-metadata_of-2.ensures refl)))
