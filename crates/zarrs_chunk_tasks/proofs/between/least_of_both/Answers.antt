use Rattle.std.proofs.Common.{◌∙◌, ap, sym}
use Rattle.zarrs_chunk_base.specs.ArraySubset.{Box}
use Rattle.zarrs_chunk_tasks.proofs.TwoStages.{can_read, can_write, first_none, second_none}
use Rattle.zarrs_chunks.specs.seen.Grids.{regular_of}
use Rattle.zarrs_chunk_tasks.proofs.between.least_of_both.Goals as goal

pub least_cost-requires-clause-can : goal.least_cost-requires-clause-can
least_cost-requires-clause-can g c =
    let grid = c.in_ok-grid.ensures {u = tt} in
    rw (c.in_ok-array.ensures {u = tt}).elements
    (can_write (g.G.ChunkGridTraits.dimensions c.args.staged.now.source.now) (g.H.ChunkGridTraits.dimensions c.args.staged.now.target.now) c.args.staged.now.region.now
    c.args.staged.now.moved.now.start c.args.staged.now.max_elements c.args.staged.now.read_elements (regular_of c.in_ok-grid.grid).dimensions
    (grid.sizes ∙ c.shape.ensures.value) c.requires.can.can)

pub least_cost-requires-clause-same : goal.least_cost-requires-clause-same
least_cost-requires-clause-same g c = ap (λ (b : Box). b.shape) (c.in_ok-array.ensures {u = tt}).elements ∙ (c.in_ok-grid.ensures {u = tt}).sizes ∙ c.shape.ensures.value

pub least_cost-requires-2-clause-can : goal.least_cost-requires-2-clause-can
least_cost-requires-2-clause-can g c =
    let grid = c.in_ok-grid.ensures {u = tt} in
    rw (c.in_ok-array.ensures {u = tt}).elements
    (can_read (g.G.ChunkGridTraits.dimensions c.args.staged.now.source.now) (g.H.ChunkGridTraits.dimensions c.args.staged.now.target.now) c.args.staged.now.region.now
    c.args.staged.now.moved.now.start c.args.staged.now.max_elements c.args.staged.now.read_elements (regular_of c.in_ok-grid.grid).dimensions
    (grid.sizes ∙ c.shape.ensures.value) c.requires.can.can)

pub least_cost-requires-2-clause-same : goal.least_cost-requires-2-clause-same
least_cost-requires-2-clause-same g c =
    ap (λ (b : Box). b.shape) c.requires.can.same
    ∙ sym (ap (λ (b : Box). b.shape) (c.in_ok-array.ensures {u = tt}).elements ∙ (c.in_ok-grid.ensures {u = tt}).sizes ∙ c.shape.ensures.value)

pub least_cost-requires-2-clause-some : goal.least_cost-requires-2-clause-some
least_cost-requires-2-clause-some g c =
    rw (ap (λ (b : Box). b.shape) (c.in_ok-array.ensures {u = tt}).elements ∙ (c.in_ok-grid.ensures {u = tt}).sizes ∙ c.shape.ensures.value) c.requires.can.some

pub returns-in_default : goal.returns-in_default
returns-in_default g c =
    let none = rw (c.in_default.is, (c.in_ok-array.ensures {u = tt}).elements) at (c.in_ok-write.ensures {u = tt}).none in
    record {
      between = (regular_of c.in_ok-grid.grid).dimensions;
      made = rw c.shape.ensures.value at (c.in_ok-grid.ensures {u = tt}).made;
      is_least = first_none (g.G.ChunkGridTraits.dimensions c.args.staged.now.source.now) (g.H.ChunkGridTraits.dimensions c.args.staged.now.target.now)
          c.args.staged.now.region.now c.args.staged.now.moved.now.start c.args.staged.now.max_elements c.args.staged.now.read_elements (regular_of c.in_ok-grid.grid).dimensions none;
    }

pub returns-in_default-2 : goal.returns-in_default-2
returns-in_default-2 g c =
    let none = rw (c.in_default-2.is, (c.in_ok-array.ensures {u = tt}).elements) at (c.in_ok-read.ensures {u = tt}).none in
    record {
      between = (regular_of c.in_ok-grid.grid).dimensions;
      made = rw c.shape.ensures.value at (c.in_ok-grid.ensures {u = tt}).made;
      is_least = second_none (g.G.ChunkGridTraits.dimensions c.args.staged.now.source.now) (g.H.ChunkGridTraits.dimensions c.args.staged.now.target.now)
          c.args.staged.now.region.now c.args.staged.now.moved.now.start c.args.staged.now.max_elements c.args.staged.now.read_elements (regular_of c.in_ok-grid.grid).dimensions none;
    }

pub returns : goal.returns
returns g c =
    let write = rw (c.in-Some.is, (c.in_ok-array.ensures {u = tt}).elements) at (c.in_ok-write.ensures {u = tt}).some in
    let read = rw (c.in-Some-2.is, (c.in_ok-array.ensures {u = tt}).elements) at (c.in_ok-read.ensures {u = tt}).some in
    record {
      between = (regular_of c.in_ok-grid.grid).dimensions;
      made = rw c.shape.ensures.value at (c.in_ok-grid.ensures {u = tt}).made;
      is_least = record { write = write; read = read };
    }
