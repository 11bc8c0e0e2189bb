use Rattle.std.proofs.Common.{◌∙◌, ap, subst, sym, refl}
use Rattle.std.proofs.lemmas.Bool.{true≢false}
use Rattle.zarrs_chunk_base.specs.ArraySubset.{Box}
use Rattle.zarrs_chunk_tasks.proofs.TwoStages.{bound_reached, exact_at_least, first_none, none_below, none_fits, second_none}
use Rattle.zarrs_chunk_plan.specs.ArrayBoxes.{array_box}
use Rattle.zarrs_chunk_tasks.specs.Stages.{CostAtLeast}
use Rattle.zarrs_chunk_tasks.proofs.OneGrid.{one_grid}
use Rattle.zarrs_chunks.specs.seen.Grids.{regular_of}
use Rattle.zarrs_chunk_tasks.proofs.between.both_stages.Goals as goal

pub returns-in_default : goal.returns-in_default
returns-in_default g c =
    let least = rw (c.deref.ensures.value, c.in_default.is) at (c.in_ok-least.ensures {u = tt}) in
    record {
      between = least.between;
      made = least.made;
      finds = none_below (g.G.ChunkGridTraits.dimensions c.args.staged.now.source.now) (g.H.ChunkGridTraits.dimensions c.args.staged.now.target.now)
          c.args.staged.now.region.now c.args.staged.now.moved.now.start c.args.staged.now.max_elements c.args.staged.now.read_elements least.between least.is_least c.args.bound;
    }

pub returns-then-not-is_below : goal.returns-then-not-is_below
returns-then-not-is_below g c =
    let least = rw (c.deref.ensures.value, c.in-Some.is) at (c.in_ok-least.ensures {u = tt}) in
    record {
      between = least.between;
      made = least.made;
      finds =
          bound_reached _ _ _ _ _ _ least.between c.in-Some.least.write c.in-Some.least.read c.saturating_add.result c.args.bound least.is_least.write
          least.is_least.read c.saturating_add.ensures (λ below. true≢false (sym (c.is_below.ensures.1 below) ∙ c.if-not-is_below.true));
    }

pub returns-in_default-2 : goal.returns-in_default-2
returns-in_default-2 g c =
    let array = (c.in_ok-array.ensures {u = tt}).elements in
    let found = rw (c.in_ok-first.ensures {u = tt}) at c.cheapest_tasks-first.ensures.choice in
    let none = rw (c.in_default-2.is, c.start.ensures.value, array) at (found c.requires.can.some) in
    record {
      between = (regular_of c.in_ok-grid.grid).dimensions;
      made = rw (c.shape.ensures.value, c.deref-2.ensures.value) at (c.in_ok-grid.ensures {u = tt}).made;
      finds = none_below (g.G.ChunkGridTraits.dimensions c.args.staged.now.source.now) (g.H.ChunkGridTraits.dimensions c.args.staged.now.target.now) c.args.staged.now.region.now
          c.args.staged.now.moved.now.start c.args.staged.now.max_elements c.args.staged.now.read_elements (regular_of c.in_ok-grid.grid).dimensions (first_none (g.G.ChunkGridTraits.dimensions c.args.staged.now.source.now) (g.H.ChunkGridTraits.dimensions c.args.staged.now.target.now) c.args.staged.now.region.now
          c.args.staged.now.moved.now.start c.args.staged.now.max_elements c.args.staged.now.read_elements (regular_of c.in_ok-grid.grid).dimensions (none_fits _ _ _ _ _ c.args.staged.now.read_elements none)) c.args.bound;
    }

pub returns-then-not-is_below-2 : goal.returns-then-not-is_below-2
returns-then-not-is_below-2 g c =
    let between = (regular_of c.in_ok-grid.grid).dimensions in
    let array = (c.in_ok-array.ensures {u = tt}).elements in
    let found = rw (c.in_ok-first.ensures {u = tt}) at c.cheapest_tasks-first.ensures.choice in
    let chosen = rw (c.in-Some-2.is, c.start.ensures.value, array) at (found c.requires.can.some) in
    let made = rw (c.shape.ensures.value, c.deref-2.ensures.value) at (c.in_ok-grid.ensures {u = tt}).made in
    let least = rw (c.deref.ensures.value, c.in-Some.is) at (c.in_ok-least.ensures {u = tt}) in
    let target = g.H.ChunkGridTraits.dimensions c.args.staged.now.target.now in
    let at = c.args.staged.now.moved.now.start in
    let most = c.args.staged.now.max_elements in
    let worth = c.args.staged.now.read_elements in
    let read = subst (λ ds. CostAtLeast ds target (array_box ds) at most worth c.in-Some.least.read) (one_grid _ _ _ _ least.made made) least.is_least.read in
    let first = exact_at_least _ between _ _ _ _ c.in-Some-2.first chosen c.if-first.true in
    record {
      between = between;
      made = made;
      finds =
          bound_reached _ _ _ _ _ _ between c.in-Some-2.first.cost c.in-Some.least.read c.saturating_add-then-first.result c.args.bound first read
          c.saturating_add-then-first.ensures (λ below. true≢false (sym (c.is_below-then-first.ensures.1 below) ∙ c.if-not-is_below-2.true));
    }

pub returns-in_default-3 : goal.returns-in_default-3
returns-in_default-3 g c =
    let found = rw (c.in_ok-second.ensures {u = tt}) at c.cheapest_tasks-second.ensures.choice in
    let none = rw (c.in_default-3.is, c.start-at.ensures.value, (c.in_ok-array.ensures {u = tt}).elements) at (found (rw (ap (λ (b : Box). b.shape) (c.in_ok-array.ensures {u = tt}).elements ∙ (c.in_ok-grid.ensures {u = tt}).sizes ∙ c.shape.ensures.value) c.requires.can.some)) in
    record {
      between = (regular_of c.in_ok-grid.grid).dimensions;
      made = rw (c.shape.ensures.value, c.deref-2.ensures.value) at (c.in_ok-grid.ensures {u = tt}).made;
      finds = none_below (g.G.ChunkGridTraits.dimensions c.args.staged.now.source.now) (g.H.ChunkGridTraits.dimensions c.args.staged.now.target.now) c.args.staged.now.region.now
          c.args.staged.now.moved.now.start c.args.staged.now.max_elements c.args.staged.now.read_elements (regular_of c.in_ok-grid.grid).dimensions (second_none (g.G.ChunkGridTraits.dimensions c.args.staged.now.source.now) (g.H.ChunkGridTraits.dimensions c.args.staged.now.target.now) c.args.staged.now.region.now
          c.args.staged.now.moved.now.start c.args.staged.now.max_elements c.args.staged.now.read_elements (regular_of c.in_ok-grid.grid).dimensions (none_fits _ _ _ _ _ c.args.staged.now.read_elements none)) c.args.bound;
    }

pub returns : goal.returns
returns g c =
    let array = (c.in_ok-array.ensures {u = tt}).elements in
    let shape = ap (λ (b : Box). b.shape) array ∙ (c.in_ok-grid.ensures {u = tt}).sizes ∙ c.shape.ensures.value in
    let first = rw (c.in_ok-first.ensures {u = tt}) at c.cheapest_tasks-first.ensures.choice in
    let second = rw (c.in_ok-second.ensures {u = tt}) at c.cheapest_tasks-second.ensures.choice in
    let first_few = rw (c.in_ok-first.ensures {u = tt}) at c.cheapest_tasks-first.ensures.exact in
    let second_few = rw (c.in_ok-second.ensures {u = tt}) at c.cheapest_tasks-second.ensures.exact in
    record {
      between = (regular_of c.in_ok-grid.grid).dimensions;
      made = rw (c.shape.ensures.value, c.deref-2.ensures.value) at (c.in_ok-grid.ensures {u = tt}).made;
      finds = (
        refl,
        record {
          first = record {
            chosen = rw (c.in-Some-2.is, c.start.ensures.value, array) at (first c.requires.can.some);
            exact = rw (c.in-Some-2.is, c.start.ensures.value, array) at (first_few c.requires.can.some);
          };
          second = record {
            chosen = rw (c.in-Some-3.is, c.start-at.ensures.value, array) at (second (rw shape c.requires.can.some));
            exact = rw (c.in-Some-3.is, c.start-at.ensures.value, array) at (second_few (rw shape c.requires.can.some));
          };
        },
      );
    }
