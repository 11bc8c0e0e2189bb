use Rattle.std.proofs.Common.{◌≡◌, ◌++◌, ◌∷◌, suc, drop, length, map, replicate, ◌<◌, sym, ap, ◌∙◌, arith}
use Rattle.std.proofs.Math.Seq.{drop-cons}
use Rattle.std.specs.Int.NonZero.{non_zero_u64_get}
use Rattle.zarrs_chunk_base.specs.RunLength.{expansion}
use Rattle.zarrs_chunk_runs.specs.Runs.{edges_of_runs, run_of}
use Rattle.zarrs_chunk_runs.proofs.Merged.{room_for_run}
use Rattle.zarrs_chunk_runs.proofs.elements.merge.Goals as goal

pub append-requires : goal.append-requires
append-requires c =
    let elements = c.args.elements.now in
    let k = c.loop-element.element-index in
    let items = c.loop-element.runs.items in
    let run = c.run.result in
    let rest = expansion (drop (suc k) elements) in
    let within : k < length elements = omega arith in
    let left : expansion (drop k elements) ≡ replicate (non_zero_u64_get run.1) (non_zero_u64_get run.0) ++ rest =
    ap expansion (drop-cons elements k c.element-item.result within ∙ ap (λ e. e ∷ drop (suc k) elements) (sym c.element-item.is))
    ∙ ap (λ own. own ++ rest) c.run.ensures in
    room_for_run items run rest (expansion elements)
    (ap (λ rest. edges_of_runs (map run_of items) ++ rest) (sym left) ∙ c.loop-element.invariant.0) c.requires
