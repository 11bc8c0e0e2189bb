use Rattle.zarrs_chunks.proofs.ClippedEdges.{all_bounded_are_listed, bounded_is_listed, has_clipped}
use Rattle.zarrs_chunks.proofs.laws.a_bounded_dimension_is_that_of_its_edges.Goals as goal

pub returns-clause-has_edges : goal.returns-clause-has_edges
returns-clause-has_edges c = has_clipped

pub returns-clause-alike : goal.returns-clause-alike
returns-clause-alike c = bounded_is_listed

pub returns-clause-all : goal.returns-clause-all
returns-clause-all c = all_bounded_are_listed
