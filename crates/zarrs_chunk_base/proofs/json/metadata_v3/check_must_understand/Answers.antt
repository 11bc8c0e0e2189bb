use Rattle.std.proofs.Common.{refl, sym, subst}
use Rattle.serde_json.specs.Find.{as_bool}
use Rattle.serde_json.specs.View.{view}
use Rattle.zarrs_chunk_base.specs.Metadata.{IsOptional}
use Rattle.zarrs_chunk_base.proofs.json.metadata_v3.check_must_understand.Goals as goal

pub returns-then-is_boolean : goal.returns-then-is_boolean
returns-then-is_boolean c =
    let flag = as_bool (view c.in-Some.must_understand.now) in
    (flag, subst (λ found. IsOptional as_bool found flag) c.in-Some.ensures (sym c.if-is_boolean.ensures, refl))
