use Rattle.zarrs_chunk_base.proofs.json.metadata_v3.MetadataV3.from_tree.Goals as goal

pub returns : goal.returns
returns c = rw (c.in_ok-name.ensures.ok, c.in_ok-copy_of_configuration.ensures) c.in_ok-checked_name.ensures
