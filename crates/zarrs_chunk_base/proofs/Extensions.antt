-- What metadata is written as stands for it.
use Rattle.std.proofs.Common.{ℕ, List, Option, None, Some, refl}
use Rattle.serde_json.specs.Data.{Members}
use Rattle.zarrs_chunk_base.specs.Metadata.{Extension, IsExtension, extension_tree, name_alone, object}

pub reads_back : (e : Extension) → IsExtension (extension_tree e) e
reads_back e = by_configuration e.name e.configuration where
  by_configuration : (name : List ℕ) (configuration : Option Members)
      → IsExtension (extension_tree record { name = name; configuration = configuration }) record { name = name; configuration = configuration }
  by_configuration name None = name_alone refl refl
  by_configuration name (Some c) = object None refl (refl, refl) refl
