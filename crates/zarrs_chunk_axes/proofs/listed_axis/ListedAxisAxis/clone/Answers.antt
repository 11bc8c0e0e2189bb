use Rattle.std.proofs.Common.{◌≡◌}
use Rattle.std.specs.List.{each_same}
use Rattle.zarrs_chunk_axes.proofs.listed_axis.ListedAxisAxis.clone.Goals as goal

pub invariant_of-result : goal.invariant_of-result
invariant_of-result c =
    let ends : c.in_ok-clone.field-0.items ≡ c.args.self.now.ends.items = each_same _ _ c.in_ok-clone.ensures.cases.0 in
    record { rising = rw ends c.args.self.now.rising; covers = rw ends c.args.self.now.covers }

pub returns-clause-dimension : goal.returns-clause-dimension
returns-clause-dimension c =
    let ends : c.in_ok-clone.field-0.items ≡ c.args.self.now.ends.items = each_same _ _ c.in_ok-clone.ensures.cases.0 in
    rw ends

pub returns-clause-edges : goal.returns-clause-edges
returns-clause-edges c =
    let ends : c.in_ok-clone.field-0.items ≡ c.args.self.now.ends.items = each_same _ _ c.in_ok-clone.ensures.cases.0 in
    rw ends
