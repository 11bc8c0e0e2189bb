use Rattle.std.proofs.Common.{IfOk, subst, sym}
use Rattle.serde_json.specs.View.{members_view}
use Rattle.zarrs_chunk_base.specs.Kinds.{IsConfigurationOf}
use Rattle.zarrs_chunk_keys.specs.KeyKinds.{key_kind}
use Rattle.zarrs_chunk_keys.proofs.chunk_key_encoding.of_kind.configuration_inside.Goals as goal

pub returns : goal.returns
returns g c = λ same is of_kind.
    subst (λ k. IfOk c.to_configuration.result (λ m. IsConfigurationOf (key_kind k) tt same (members_view m.entries))) (sym of_kind)
    (subst (λ e. IfOk c.to_configuration.result (λ m. IsConfigurationOf (key_kind g.E.EncodingOfKind.kind) tt e (members_view m.entries)))
    (sym is) c.to_configuration.ensures)
