use Rattle.zarrs_chunk_axes.proofs.axis_grid.counted.find_chunk.Goals as goal
use Rattle.std.proofs.Common.{arith}

pub returns-in-Equal-clause-searched : goal.returns-in-Equal-clause-searched
returns-in-Equal-clause-searched c =
    rw c.in-Equal.is (record { grows = omega arith; at_most = λ most h. omega arith; at_least = omega arith; stays = λ h. h })

pub returns-in-Other-clause-searched : goal.returns-in-Other-clause-searched
returns-in-Other-clause-searched c =
    let ensures = c.chunk_of_counted.ensures in
    rw c.in-Other.is (record {
      grows = ensures.grows;
      at_most = ensures.at_most;
      at_least = ensures.at_least;
      stays = ensures.stays;
    })
