use Rattle.std.proofs.Common.{None, true, arith, refl}
use Rattle.zarrs_chunk_tasks.specs.declared.between.Compared.{Compared}
use Rattle.zarrs_chunk_tasks.specs.seen.Choices.{rows_of}
use Rattle.zarrs_chunk_tasks.proofs.TwoStages.{best_chosen, has_number, is_one_of, shapes_compared, still_exact}
use Rattle.zarrs_chunk_tasks.proofs.between.cheapest_between.Goals as goal

pub loop-number-init : goal.loop-number-init
loop-number-init g c =
    let source = g.G.ChunkGridTraits.dimensions c.args.staged.now.source.now in
    let target = g.H.ChunkGridTraits.dimensions c.args.staged.now.target.now in
    let rows = rows_of c.args.edges.now in
    let nothing : Compared = record { best = None; is_exact = true } in
    let is = c.in_ok-compared.ensures {u = tt} in
    let one_of = is_one_of rows c.in_ok-likely.likely is.shape c.requires.some is.is_shape in (
      best_chosen source target c.args.staged.now.region.now c.args.staged.now.moved.now.start c.args.staged.now.max_elements c.args.staged.now.read_elements
          nothing c.in_ok-compared.compared is.found rows is.shape one_of is.keeps is.finds tt,
      λ n shape below at. absurd (omega (arith, below)),
      still_exact source target c.args.staged.now.region.now c.args.staged.now.moved.now.start c.args.staged.now.max_elements c.args.staged.now.read_elements
          nothing c.in_ok-compared.compared is.found rows is.shape one_of is.keeps is.finds (λ all. refl),
    )

pub loop-number-preserved : goal.loop-number-preserved
loop-number-preserved g c =
    let source = g.G.ChunkGridTraits.dimensions c.args.staged.now.source.now in
    let target = g.H.ChunkGridTraits.dimensions c.args.staged.now.target.now in
    let rows = rows_of c.args.edges.now in
    let is = c.in_ok-compared-2.ensures {u = tt} in
    let one_of = is_one_of rows c.loop-number.number is.shape c.requires.some is.is_shape in
    let (best, all, exact) = c.loop-number.invariant in (
      best_chosen source target c.args.staged.now.region.now c.args.staged.now.moved.now.start c.args.staged.now.max_elements c.args.staged.now.read_elements
          c.loop-number.compared c.in_ok-compared-2.compared is.found rows is.shape one_of is.keeps is.finds best,
      shapes_compared source target c.args.staged.now.region.now c.args.staged.now.moved.now.start c.args.staged.now.max_elements c.args.staged.now.read_elements
          c.loop-number.compared c.in_ok-compared-2.compared is.found rows c.loop-number.number is.shape c.requires.some is.is_shape is.keeps is.finds all,
      still_exact source target c.args.staged.now.region.now c.args.staged.now.moved.now.start c.args.staged.now.max_elements c.args.staged.now.read_elements
          c.loop-number.compared c.in_ok-compared-2.compared is.found rows is.shape one_of is.keeps is.finds exact,
    )

pub returns-clause-all : goal.returns-clause-all
returns-clause-all g c = λ shape is.
    let (number, below, at) = has_number (rows_of c.args.edges.now) shape is in
    c.loop-number.invariant.1 number shape (omega (arith, below, c.loop-number-test.false, c.choices_of-shapes.ensures, c.requires.few)) at
