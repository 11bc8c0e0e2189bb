-- How a prepared grid that was read is seen.
use Rattle.zarrs_chunk_prepared.specs.Prepared.{Table}
use Rattle.zarrs_chunk_prepared.specs.declared.axis.PreparedAxis.{PreparedAxis}

-- the numbers of a dimension
abbrev pub table_of : PreparedAxis → Table
table_of axis = record {
  grid_size = axis.grid_size;
  last_index = axis.last_index;
  last_chunk = axis.last_chunk;
  starts = axis.starts.now;
  chunks = axis.chunks.now;
  edges = axis.edges.now;
}
