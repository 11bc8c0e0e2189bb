use Rattle.std.proofs.Common.{sym, subst, rules}
use Rattle.zarrs_chunk_base.specs.Metadata.{IsExtension, extension_of}
use Rattle.serde_json.proofs.Views.{view-Object}
use Rattle.zarrs_chunk_base.proofs.Extensions.{reads_back}
use Rattle.zarrs_chunk_base.proofs.json.metadata_v3.MetadataV3.to_tree.Goals as goal

-- the tree is what the metadata is written as
pub returns-clause-reads_back : goal.returns-clause-reads_back
returns-clause-reads_back c =
    let e = extension_of c.args.self.now in
    subst (λ d. IsExtension d e) (sym (search (rules, view-Object))) (reads_back e)
