use Rattle.zarrs_chunks.proofs.SeenGrids.{is_again, never_refused}
use Rattle.zarrs_chunks.proofs.laws.a_grid_is_made_again_of_its_metadata.Goals as goal

pub returns-clause-accepted : goal.returns-clause-accepted
returns-clause-accepted c = never_refused

pub returns-clause-kind : goal.returns-clause-kind
returns-clause-kind c = λ grid again e has made. (is_again grid again e has made).kind

pub returns-clause-dimensions : goal.returns-clause-dimensions
returns-clause-dimensions c = λ grid again e has made. (is_again grid again e has made).dimensions

pub returns-clause-edges : goal.returns-clause-edges
returns-clause-edges c = λ grid again e has made. (is_again grid again e has made).edges
