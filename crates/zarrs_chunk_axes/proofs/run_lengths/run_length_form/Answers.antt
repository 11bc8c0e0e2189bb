use Rattle.std.proofs.Common.{◌≡◌, [], ◌∷◌, length, map, sym, ap, ◌∙◌, subst, refl, arith}
use Rattle.std.proofs.lemmas.List.{length-map, map-append}
use Rattle.zarrs_chunk_base.specs.RunLength.{element_of}
use Rattle.zarrs_chunk_runs.specs.Runs.{run_of}
use Rattle.zarrs_chunk_runs.specs.seen.RunEdges.{runs_of}
use Rattle.zarrs_chunk_axes.proofs.RunLengthForms.{SoFar, all_runs, in_form, next_run}
use Rattle.zarrs_chunk_axes.proofs.run_lengths.run_length_form.Goals as goal

pub loop-edge-init : goal.loop-edge-init
loop-edge-init c = rw c.in_ok-elements.ensures.items (record { are_all = refl; own = refl; no_pair_of_one = tt })

pub loop-edge-preserved : goal.loop-edge-preserved
loop-edge-preserved c =
    let runs = runs_of c.args.edges.now in
    let items = c.loop-edge.elements.items in
    let x = c.element_of_run.result in
    let (within, at) = c.in-Some.ensures in
    let counted : c.len.result ≡ length (map element_of items) = omega (arith, c.len.ensures, length-map items element_of) in
    let so_far = next_run runs (map element_of items) (element_of x) (run_of (c.in-Some.edge, c.in-Some.count)) c.loop-edge.invariant
    (omega arith) (rw counted at at) c.element_of_run.ensures.edges c.element_of_run.ensures.edge c.element_of_run.ensures.form in
    subst (SoFar runs) (sym (ap (map element_of) c.in_ok-push.ensures.items ∙ map-append element_of items (x ∷ []))) so_far

pub returns-clause-edges : goal.returns-clause-edges
returns-clause-edges c =
    all_runs (runs_of c.args.edges.now) _ c.loop-edge.invariant
    (omega (arith, c.in_default.ensures, c.len.ensures, length-map c.loop-edge.elements.items element_of))

pub returns-clause-form : goal.returns-clause-form
returns-clause-form c =
    in_form (runs_of c.args.edges.now) _ c.loop-edge.invariant
    (omega (arith, c.in_default.ensures, c.len.ensures, length-map c.loop-edge.elements.items element_of))
    (c.neighbours_differ.ensures c.args.edges.now)
