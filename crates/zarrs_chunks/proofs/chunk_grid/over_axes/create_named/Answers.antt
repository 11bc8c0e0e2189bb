use Rattle.std.proofs.Common.{◌≡◌, ℕ, List, Result, Ok, Err, MatchResult, refl}
use Rattle.zarrs_chunk_base.specs.Grid.{Grid}
use Rattle.zarrs_chunk_base.specs.Kinds.{IsFaultOf, IsMadeOf, IsOf}
use Rattle.zarrs_chunk_base.specs.Metadata.{Extension, extension_of}
use Rattle.zarrs_chunk_base.specs.Refusal.{OrMemory}
use Rattle.zarrs_chunk_base.specs.declared.plugin_create_error.PluginCreateError.{PluginCreateError}
use Rattle.zarrs_chunk_base.specs.declared.refusal.Refusal.{Refusal}
use Rattle.zarrs_chunk_base.proofs.KindsByName.{handed_on}
use Rattle.zarrs_chunks.specs.GridKinds.{GridKind, IsGridFault, grid_kind, grid_kinds}
use Rattle.zarrs_chunks.proofs.chunk_grid.over_axes.create_named.Goals as goal

-- what the kind of the extension's name makes is made of the extension, and its refusal is that of the extension
of_name : {G : Type 0} (kind : GridKind) (shape : List ℕ) (grid : G → Grid) (e : Extension) (answer : Result G (Refusal PluginCreateError))
    → e.name ≡ (grid_kind kind).name
    → MatchResult answer (λ made. IsMadeOf (grid_kind kind) e shape (grid made)) (OrMemory (IsFaultOf (grid_kind kind) e shape))
    → MatchResult answer (λ made. IsOf (grid_kind kind) e shape (grid made)) (OrMemory (IsGridFault e shape))
of_name kind shape grid e (Ok made) name is = (name, is)
of_name kind shape grid e (Err refusal) name refused =
    handed_on grid_kind grid_kinds (λ made. IsOf (grid_kind kind) e shape (grid made)) kind shape e refusal (Err refusal) name refused refl

pub returns-clause-made : goal.returns-clause-made
returns-clause-made g c =
    of_name g.G.GridOfKind.kind c.args.array_shape.now g.G.GridOfKind.grid (extension_of c.args.metadata.now) _ c.requires c.of_metadata.ensures.made
