use Rattle.std.proofs.Common.{◌≡◌, ◌≢◌, ◌∙◌, ℕ, List, Some, None, ap, arith, codes, inl, inr, length, map}
use Rattle.std.proofs.Common.{option_and_then, option_map, refl, string_bytes, sym}
use Rattle.serde_json.specs.Data.{Data}
use Rattle.serde_json.specs.Find.{get}
use Rattle.serde_json.specs.View.{view}
use Rattle.zarrs_chunk_base.specs.Json.{list_of, size_of}
use Rattle.documents.specs.chunkwhere.Document.{form_in, indices_in, keys_in, lists_in, texts_of}
use Rattle.documents.proofs.Readings.{both, later, stops_or}
use Rattle.documents.proofs.chunkwhere.document.document_from.Goals as goal

-- the members that are read after the two that were taken out are those of the document
module _ (d left : Data)
    (are_left : (other : List ℕ) → other ≢ codes "chunk_grid" → other ≢ codes "chunk_key_encoding" → get other left ≡ get other d) where
  keys_left : keys_in left ≡ keys_in d
  keys_left = ap texts_of
      (are_left (codes "keys") (λ same. absurd (omega (arith, ap length same))) (λ same. absurd (omega (arith, ap length same))))

  indices_left : indices_in left ≡ indices_in d
  indices_left = ap (option_and_then (list_of (list_of size_of)))
      (are_left (codes "indices") (λ same. absurd (omega (arith, ap length same))) (λ same. absurd (omega (arith, ap length same))))

pub returns-in_err-shape : goal.returns-in_err-shape
returns-in_err-shape c =
    stops_or _ (form_in (view c.args.tree)) _ _ c.from_residual-in_err-shape.ensures.1 _ c.in_err-shape.ensures
    (λ is. inr (_, c.in_ok-check_members.ensures, inr (_, c.in_ok-required_member.ensures, inl is)))

pub returns-in_err-stored : goal.returns-in_err-stored
returns-in_err-stored c =
    stops_or _ (form_in (view c.args.tree)) _ _ c.from_residual-in_err-stored.ensures.1 _ c.in_err-stored.ensures.stored
    (λ is. inr (_, c.in_ok-check_members.ensures, inr (_, c.in_ok-required_member.ensures, inr (_, c.in_ok-shape.ensures, inl is))))

pub returns-in_default : goal.returns-in_default
returns-in_default c =
    let none : indices_in (view c.args.tree) ≡ None =
    sym (indices_left _ _ c.in_ok-stored.ensures.others) ∙ sym c.in_ok-indices.ensures ∙ ap (option_map (λ v. lists_in v.items)) c.in_default.is in
    inr (later _ c.in_ok-check_members.ensures (later _ c.in_ok-required_member.ensures (later _ c.in_ok-shape.ensures
    (later _ c.in_ok-stored.ensures.stored (inl (refl, none))))))

pub returns-in_default-keys : goal.returns-in_default-keys
returns-in_default-keys c =
    let indices : indices_in (view c.args.tree) ≡ Some (lists_in c.in-Some.indices.items) =
    sym (indices_left _ _ c.in_ok-stored.ensures.others) ∙ sym c.in_ok-indices.ensures ∙ ap (option_map (λ v. lists_in v.items)) c.in-Some.is in
    let none : keys_in (view c.args.tree) ≡ None =
    sym (keys_left _ _ c.in_ok-stored.ensures.others) ∙ sym c.in_ok-keys.ensures
    ∙ ap (option_map (λ v. map string_bytes v.items)) c.in_default-keys.is in
    inr (later _ c.in_ok-check_members.ensures (later _ c.in_ok-required_member.ensures (later _ c.in_ok-shape.ensures
    (later _ c.in_ok-stored.ensures.stored (later _ indices (inl (refl, none)))))))

pub returns : goal.returns
returns c =
    let indices : indices_in (view c.args.tree) ≡ Some (lists_in c.in-Some.indices.items) =
    sym (indices_left _ _ c.in_ok-stored.ensures.others) ∙ sym c.in_ok-indices.ensures ∙ ap (option_map (λ v. lists_in v.items)) c.in-Some.is in
    let keys : keys_in (view c.args.tree) ≡ Some (map string_bytes c.in-Some-keys.keys.items) =
    sym (keys_left _ _ c.in_ok-stored.ensures.others) ∙ sym c.in_ok-keys.ensures
    ∙ ap (option_map (λ v. map string_bytes v.items)) c.in-Some-keys.is in
    both _ c.in_ok-check_members.ensures (both _ c.in_ok-required_member.ensures (both _ c.in_ok-shape.ensures
    (both _ c.in_ok-stored.ensures.stored (both _ indices (both _ keys refl)))))
