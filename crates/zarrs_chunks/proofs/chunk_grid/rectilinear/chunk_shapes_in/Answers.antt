use Rattle.std.proofs.Common.{◌≡◌, ◌∙◌, map, ap, sym, rules}
use Rattle.std.proofs.lemmas.Simd.{map-map}
use Rattle.zarrs_chunk_base.specs.RunLength.{edges_of_lengths, lengths_of}
use Rattle.zarrs_chunk_base.specs.GridConfigurations.{rectilinear_lengths}
use Rattle.zarrs_chunks.proofs.chunk_grid.rectilinear.chunk_shapes_in.Goals as goal

pub returns : goal.returns
returns c =
    let lengths : map lengths_of c.deref.result.now ≡ rectilinear_lengths c.args.configuration.now = search rules in
    sym (map-map edges_of_lengths lengths_of c.deref.result.now) ∙ ap (map edges_of_lengths) lengths
