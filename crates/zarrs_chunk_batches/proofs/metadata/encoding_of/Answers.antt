use Rattle.serde_json.specs.View.{view}
use Rattle.zarrs_chunk_keys.specs.KeyKinds.{IsNoEncodingIn}
use Rattle.zarrs_chunk_keys.specs.seen.Encodings.{encoding_in}
use Rattle.zarrs_chunk_batches.specs.Said.{SaysEncoding}
use Rattle.zarrs_chunk_batches.proofs.NotMade.{of_tree}
use Rattle.zarrs_chunk_batches.proofs.metadata.encoding_of.Goals as goal

pub returns-in_err-from_tree : goal.returns-in_err-from_tree
returns-in_err-from_tree c =
    of_tree (λ encoding. SaysEncoding c.args.chunk_key_encoding.now (encoding_in encoding)) IsNoEncodingIn c.args.chunk_key_encoding.now
    (view c.in_ok-tree.tree) _ c.from_residual-in_err-from_tree.result c.in_ok-tree.ensures.said c.in_err-from_tree.ensures
    c.from_residual-in_err-from_tree.ensures.1
