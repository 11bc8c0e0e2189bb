use Rattle.std.proofs.Common.{refl, ◌∙◌}
use Rattle.zarrs_chunk_base.specs.Kinds.{name_unsupported}
use Rattle.zarrs_chunk_keys.proofs.chunk_key_encoding.named.refuse_name.Goals as goal

pub returns : goal.returns
returns c = name_unsupported _ refl (c.in_ok-name.ensures.ok ∙ c.name.ensures) c.requires
