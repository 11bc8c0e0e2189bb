use Rattle.std.proofs.Common.{◌≡◌, ◌∙◌, ◌&&◌, ap, arith, sym}
use Rattle.std.proofs.lemmas.Bool.{and_left}
use Rattle.zarrs_chunk_tasks.proofs.ChosenStages.{finds, of_nothing}
use Rattle.zarrs_chunk_tasks.proofs.TriedEdges.{edges_there}
use Rattle.zarrs_chunk_tasks.proofs.ExactStages.{exact_if_few}
use Rattle.zarrs_chunk_tasks.proofs.stages.cheapest_stages.Goals.{else-tried, then-tried}
use Rattle.zarrs_chunk_tasks.proofs.stages.cheapest_stages.Goals as goal

pub returns-then-is_empty-clause-empty : goal.returns-then-is_empty-clause-empty
returns-then-is_empty-clause-empty g c = λ empty.
    of_nothing (g.G.ChunkGridTraits.dimensions c.args.source.now) c.in_ok-one.one c.in_ok-of_one.field-0 ((c.in_ok-one.ensures {u = tt}).empty empty)
    (c.in_ok-of_one.ensures {u = tt}).some

pub cheapest_between-requires-clause-some : goal.cheapest_between-requires-clause-some
cheapest_between-requires-clause-some g c = rw c.deref.ensures.value (edges_there c.in_ok-tried.tried.rows.items (c.in_ok-tried.ensures {u = tt}).some)

pub cheapest_between-requires-clause-few : goal.cheapest_between-requires-clause-few
cheapest_between-requires-clause-few g c = rw c.deref.ensures.value (omega (arith, (c.in_ok-tried.ensures {u = tt}).few))

pub returns-clause-stages : goal.returns-clause-stages
returns-clause-stages g c = λ some.
    let moved = (c.in_ok-moved.ensures {u = tt}).value in
    let compared = c.in_ok-compared.compared in
    let tried = c.in_ok-tried.tried in
    let exact : c.if-tried.is_exact ≡ (tried.are_all && compared.is_exact) = elim c.if-tried.branch [
      | then-tried w ↦ w.is_exact-is ∙ sym (ap (λ b. b && compared.is_exact) w.if-tried.true)
      | else-tried w ↦ w.is_exact-is ∙ w.if-tried.false ∙ sym (and_left tried.are_all compared.is_exact w.if-tried.false)
    ] in
    finds (g.G.ChunkGridTraits.dimensions c.args.source.now) (g.H.ChunkGridTraits.dimensions c.args.target.now) c.args.region.now c.args.at.now
    c.args.max_elements c.args.read_elements tried.rows.items tried.are_all compared c.in_ok-one.one ((c.in_ok-one.ensures {u = tt}).choice some)
    ((c.in_ok-one.ensures {u = tt}).exact some)
    (rw (c.deref.ensures.value, moved) at (c.in_ok-compared.ensures {u = tt}).best) (rw (c.deref.ensures.value, moved) at (c.in_ok-compared.ensures {u = tt}).all)
    (rw moved at (c.in_ok-tried.ensures {u = tt}).all) (rw moved at (c.in_ok-tried.ensures {u = tt}).tried) (rw moved at (c.in_ok-tried.ensures {u = tt}).are_all) c.if-tried.is_exact
    c.in_ok-cheaper_of.field-0 exact (c.in_ok-cheaper_of.ensures {u = tt})

pub returns-clause-exact : goal.returns-clause-exact
returns-clause-exact g c = λ some.
    let moved = (c.in_ok-moved.ensures {u = tt}).value in
    let compared = c.in_ok-compared.compared in
    let tried = c.in_ok-tried.tried in
    let exact : c.if-tried.is_exact ≡ (tried.are_all && compared.is_exact) = elim c.if-tried.branch [
      | then-tried w ↦ w.is_exact-is ∙ sym (ap (λ b. b && compared.is_exact) w.if-tried.true)
      | else-tried w ↦ w.is_exact-is ∙ w.if-tried.false ∙ sym (and_left tried.are_all compared.is_exact w.if-tried.false)
    ] in
    exact_if_few (g.G.ChunkGridTraits.dimensions c.args.source.now) (g.H.ChunkGridTraits.dimensions c.args.target.now) c.args.region.now c.args.at.now
    c.args.max_elements c.args.read_elements c.is_a_box.ensures (c.in_ok-moved.ensures {u = tt}).is_box some
    (g.met.H.ChunkGridTraits.chained c.args.target.now) (c.in_ok-moved.ensures {u = tt}).lies.in_target tried.rows.items tried.are_all compared c.in_ok-one.one
    ((c.in_ok-one.ensures {u = tt}).choice some) ((c.in_ok-one.ensures {u = tt}).exact some) (rw moved at (c.in_ok-tried.ensures {u = tt}).tried) (rw moved at (c.in_ok-tried.ensures {u = tt}).are_all)
    (rw (c.deref.ensures.value, moved) at (c.in_ok-compared.ensures {u = tt}).exact) c.if-tried.is_exact c.in_ok-cheaper_of.field-0 exact
    (c.in_ok-cheaper_of.ensures {u = tt})
