use Rattle.std.proofs.Common.{IfOk, subst, sym}
use Rattle.serde_json.specs.View.{members_view}
use Rattle.zarrs_chunk_base.specs.Dimension.{array_sizes}
use Rattle.zarrs_chunk_base.specs.Kinds.{IsConfigurationOf}
use Rattle.zarrs_chunks.specs.GridKinds.{grid_kind}
use Rattle.zarrs_chunks.proofs.chunk_grid.over_axes.configuration_inside.Goals as goal

pub returns : goal.returns
returns g c = λ kind same of_kind is.
    subst (λ k. IfOk c.to_configuration.result (λ m. IsConfigurationOf (grid_kind k) (array_sizes same.dimensions) same (members_view m.entries)))
    (sym of_kind)
    (subst
    (λ grid. IfOk c.to_configuration.result
    (λ m. IsConfigurationOf (grid_kind g.G.GridOfKind.kind) (array_sizes grid.dimensions) grid (members_view m.entries)))
    (sym is) c.to_configuration.ensures)
