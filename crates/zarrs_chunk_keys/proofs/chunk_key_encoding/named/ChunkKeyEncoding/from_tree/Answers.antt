use Rattle.serde_json.specs.View.{view}
use Rattle.zarrs_chunk_base.specs.Metadata.{extension_of}
use Rattle.zarrs_chunk_base.proofs.TreeFaults.{of_extension}
use Rattle.zarrs_chunk_keys.specs.KeyKinds.{IsEncodingFault, IsEncodingIn}
use Rattle.zarrs_chunk_keys.specs.seen.Encodings.{encoding_in}
use Rattle.zarrs_chunk_keys.proofs.chunk_key_encoding.named.ChunkKeyEncoding.from_tree.Goals as goal

pub returns-in_err-from_metadata : goal.returns-in_err-from_metadata
returns-in_err-from_metadata c =
    of_extension (λ encoding. IsEncodingIn (view c.args.tree.now) (encoding_in encoding)) IsEncodingFault (view c.args.tree.now)
    (extension_of c.in_ok-metadata.metadata) _ c.from_residual-in_err-from_metadata.result c.in_ok-metadata.ensures
    c.in_err-from_metadata.ensures c.from_residual-in_err-from_metadata.ensures.1

pub returns : goal.returns
returns c = (extension_of c.in_ok-metadata.metadata, c.in_ok-metadata.ensures, c.in_ok-from_metadata.ensures)
