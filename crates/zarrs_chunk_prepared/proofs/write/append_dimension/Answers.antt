use Rattle.std.proofs.Common.{Bool, true, false, List, ℕ}
use Rattle.std.proofs.lemmas.Result.{on_ok_weaker}
use Rattle.zarrs_chunk_axes.specs.Listed.{IsListed}
use Rattle.zarrs_chunk_base.specs.Dimension.{Dimension}
use Rattle.zarrs_chunk_base.specs.DimensionEdges.{listed}
use Rattle.zarrs_chunk_base.specs.RunLength.{expansion}
use Rattle.zarrs_chunk_prepared.specs.seen.RunTable.{IsCut}
use Rattle.zarrs_chunk_prepared.proofs.write.append_dimension.Goals as goal

-- listed edges aren't cut by the array's end
is_listed : (bounded : Bool) (d : Dimension) (size : ℕ) (edges : List ℕ) → IsCut bounded d size (listed edges) → IsListed d size edges
is_listed true d size edges cut = absurd cut
is_listed false d size edges cut = cut

pub returns-in-Varying : goal.returns-in-Varying
returns-in-Varying c =
    on_ok_weaker c.append_runs.result
    (λ appends d chain counts cut.
    rw (c.in-Varying.is, ← c.deref.ensures.value) (appends d c.args.size chain counts
    (is_listed c.args.bounded d c.args.size (expansion c.deref.result.now)
    (rw c.deref.ensures.value (rw c.in-Varying.is at cut)))))
    c.append_runs.ensures
