use Rattle.zarrs_chunks.proofs.SeenGrids.{configured_again, edges_again, said_edges}
use Rattle.zarrs_chunks.proofs.laws.a_rectilinear_grid_is_made_again_of_its_configuration.Goals as goal

pub returns-clause-accepted : goal.returns-clause-accepted
returns-clause-accepted c = λ grid configuration said has says. (said_edges grid configuration said has says).0

pub returns-clause-dimensions : goal.returns-clause-dimensions
returns-clause-dimensions c = edges_again

pub returns-clause-configuration : goal.returns-clause-configuration
returns-clause-configuration c = configured_again
