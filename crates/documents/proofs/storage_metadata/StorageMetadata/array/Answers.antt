use Rattle.std.proofs.Common.{inr}
use Rattle.zarrs_chunks.specs.seen.Grids.{grid_in, kind_in}
use Rattle.documents.proofs.storage_metadata.StorageMetadata.array.Goals as goal

pub returns-in-Err-Refused-clause-refused : goal.returns-in-Err-Refused-clause-refused
returns-in-Err-Refused-clause-refused c =
    let refused = c.in-Err-Refused in
    rw refused.field-0-is (inr (rw refused.field-0-is at refused.ensures.made))

pub returns-in-Err-Refused-from_metadata-clause-refused : goal.returns-in-Err-Refused-from_metadata-clause-refused
returns-in-Err-Refused-from_metadata-clause-refused c =
    let refused = c.in-Err-Refused-from_metadata in
    inr ((grid_in c.in-Ok.grid, (kind_in c.in-Ok.grid, c.in-Ok.ensures.made)), rw refused.field-0-is at refused.ensures)

pub returns-in-Ok-from_metadata-clause-made : goal.returns-in-Ok-from_metadata-clause-made
returns-in-Ok-from_metadata-clause-made c =
    record { is_grid = (kind_in c.in-Ok.grid, c.in-Ok.ensures.made); is_encoding = c.in-Ok-from_metadata.ensures }
