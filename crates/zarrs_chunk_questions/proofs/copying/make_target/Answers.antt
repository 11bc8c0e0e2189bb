use Rattle.std.proofs.Common.{◌≡◌, inr}
use Rattle.serde_json.specs.View.{view}
use Rattle.zarrs_chunk_base.proofs.Refusals.{refused_through}
use Rattle.zarrs_chunk_keys.specs.KeyKinds.{IsNoEncodingIn}
use Rattle.zarrs_chunk_questions.specs.seen.Copies.{IsNoStored}
use Rattle.zarrs_chunk_questions.specs.declared.line_fault.LineFault.TheVariants.{TargetExtension}
use Rattle.zarrs_chunk_questions.proofs.copying.make_target.Goals as goal

pub returns-in-Err-from_tree : goal.returns-in-Err-from_tree
returns-in-Err-from_tree c =
    refused_through (λ error told. told ≡ TargetExtension error) c.in-Err-from_tree.refusal c.map-in-Err-from_tree.result
    (IsNoEncodingIn (view c.args.chunk_key_encoding.now))
    (IsNoStored (view c.args.chunk_grid.now) (view c.args.chunk_key_encoding.now) c.args.shape.now)
    c.map-in-Err-from_tree.ensures c.in-Err-from_tree.ensures
    (λ error told same is. inr (c.in-Ok.grid, c.in-Ok.ensures.made, rw same is))
