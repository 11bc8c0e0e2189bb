use Rattle.zarrs_chunk_plan.proofs.resize.OutsideBoxes.{parted, together}
use Rattle.zarrs_chunk_plan.proofs.resize.outside.added_part.Goals as goal

pub returns-clause-together : goal.returns-clause-together
returns-clause-together c = λ chunk.
    rw (c.in_ok-added.ensures.value, c.in_ok-start.ensures, c.in_ok-sizes.ensures.items)
    (together c.args.shape.now c.args.dimension c.args.size chunk c.requires.within c.requires.grows)

pub returns-clause-apart : goal.returns-clause-apart
returns-clause-apart c = λ chunk.
    rw (c.in_ok-added.ensures.value, c.in_ok-start.ensures, c.in_ok-sizes.ensures.items)
    (parted c.args.shape.now c.args.dimension c.args.size chunk c.requires.within)
