-- How values of the encodings are read as an encoding.
use Rattle.zarrs_chunk_keys.specs.declared.chunk_key_encoding.default.DefaultChunkKeyEncoding.{DefaultChunkKeyEncoding}
use Rattle.zarrs_chunk_keys.specs.declared.chunk_key_encoding.default_suffix.DefaultSuffixChunkKeyEncoding.{DefaultSuffixChunkKeyEncoding}
use Rattle.zarrs_chunk_keys.specs.declared.chunk_key_encoding.named.ChunkKeyEncoding.{ChunkKeyEncoding}
use Rattle.zarrs_chunk_keys.specs.declared.chunk_key_encoding.named.ChunkKeyEncoding.TheVariants.{Default, V2, DefaultSuffix}
use Rattle.zarrs_chunk_keys.specs.declared.chunk_key_encoding.v2.V2ChunkKeyEncoding.{V2ChunkKeyEncoding}
use Rattle.zarrs_chunk_keys.specs.ChunkKey.{Encoding, default_keys, suffixed_keys, v2_keys}

abbrev pub default_of : DefaultChunkKeyEncoding → Encoding
default_of encoding = default_keys encoding.separator

abbrev pub v2_of : V2ChunkKeyEncoding → Encoding
v2_of encoding = v2_keys encoding.separator

abbrev pub suffixed_of : DefaultSuffixChunkKeyEncoding → Encoding
suffixed_of encoding = suffixed_keys encoding.keys.separator encoding.suffix

abbrev pub encoding_in : ChunkKeyEncoding → Encoding
encoding_in (Default encoding) = default_of encoding
encoding_in (V2 encoding) = v2_of encoding
encoding_in (DefaultSuffix encoding) = suffixed_of encoding
