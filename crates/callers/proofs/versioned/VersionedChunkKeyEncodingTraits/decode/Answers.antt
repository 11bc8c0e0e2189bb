use Rattle.std.proofs.Common.{◌≡◌, ◌∙◌, ◌++◌, ap, codes, subst, sym}
use Rattle.zarrs_chunk_keys.proofs.ReadKeys.{read_as}
use Rattle.callers.specs.Versioned.{IsVersioned, same_own}
use Rattle.callers.proofs.versioned.VersionedChunkKeyEncodingTraits.decode.Goals as goal

pub returns-in-Ok : goal.returns-in-Ok
returns-in-Ok g c =
    let IsKey = g.E.ChunkKeyEncodingTraits.is_key c.args.self.now.0 in
    let key = c.args.key.now in
    let own = c.in-Ok.own in
    let same : own ≡ c.in-Some.own.now = c.in-Ok.ensures.1 ∙ c.in_ok-from_str.ensures.ok in
    let (n, (long, splits, boundary), cut, lengths) = c.in-Some.ensures.cases in
    let begins : key ≡ codes "v1." ++ own = sym c.as_str.ensures.value ∙ splits ∙ ap (λ text. codes "v1." ++ text) (sym cut ∙ sym same) in
    read_as (λ chunk. IsKey chunk own) (λ chunk. IsVersioned IsKey chunk key) c.args.dimensionality c.decode.result
    (λ chunk lengths is. (own, is, begins))
    (λ chunk lengths (next, is, begins_next). subst (IsKey chunk) (same_own next own (sym begins_next ∙ begins)) is) c.decode.ensures

pub returns : goal.returns
returns g c =
    let (n, (long, splits, boundary), cut, lengths) = c.in-Some.ensures.cases in
    let ((front, slash), _) = c.in-Err.ensures {u = tt} in
    absurd (c.as_str.ensures.no_slash
    (codes "v1." ++ front, sym c.as_str.ensures.value ∙ splits ∙ ap (λ text. codes "v1." ++ text) (sym cut ∙ sym c.in_ok-from_str.ensures.ok ∙ slash)))
