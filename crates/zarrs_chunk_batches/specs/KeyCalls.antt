-- What is asked of a chunk key encoding: what each request is given, in the order of the parameters of its call, and what answers it.
-- Sources: Zarr V3 core, chunk key encodings.
use Rattle.std.specs.Prelude.{◌≡◌, ℕ, ◌+◌, ◌-◌, List, [], ◌∷◌, length}
use Rattle.zarrs_chunk_keys.specs.ChunkKey.{Encoding, IsKey}
use Rattle.zarrs_chunk_batches.specs.Asked.{IsChunkOf}
use Rattle.zarrs_chunk_batches.specs.Batch.{AreAnswered, AreKeys, AreLengths, HasText, IsTooLong, IsWhole, text_at}
use Rattle.zarrs_chunk_batches.specs.Calls.{AreQuestions, Call, IsFirstWrong, Request, asks}
use Rattle.zarrs_chunk_batches.specs.Said.{IsNoEncoding, SaysEncoding}
use Rattle.zarrs_chunk_batches.specs.declared.codes.Fault.{Fault}
use Rattle.zarrs_chunk_batches.specs.declared.codes.Fault.TheVariants.{Offsets, Short}

-- an offset more than there are lists, and arrays as long as so many lists
abbrev pub AreTextLengths : (width : ℕ) → (offsets : ℕ) → (totals : List ℕ) → (count : ℕ) → Type 0
AreTextLengths width offsets totals count = (offsets ≡ count + 1) × AreLengths width count totals

-- What is asked of an encoding. What that is and whether the buffers fit says nothing of the encoding.
abbrev pub encoding_request : (Fits : Type 0) (Refuses : Encoding → Fault → Type 0) (Answers : Encoding → Type 0) → Request Encoding
encoding_request Fits Refuses Answers = record { Fits = λ _. Fits; Refuses = Refuses; Answers = Answers }

-- a call of the encoding that metadata say
abbrev pub encoding_call : (metadata : List ℕ) → Request Encoding → Call Encoding
encoding_call metadata = asks (IsNoEncoding metadata) (SaysEncoding metadata)

-- The keys of chunks. They are refused where they are longer than their buffer; the offsets are written all the same.
abbrev pub keys_request : (dimensionality : ℕ) (chunks text offsets : List ℕ) (needed : ℕ) → Request Encoding
keys_request dimensionality chunks text offsets needed =
    encoding_request ((count : ℕ) × AreTextLengths dimensionality (length offsets) (length chunks ∷ []) count)
    (λ encoding fault.
    (fault ≡ Short)
    × IsTooLong (λ keys. AreKeys (IsKey encoding) dimensionality (length offsets - 1) chunks keys offsets) text needed)
    (λ encoding. IsWhole (λ keys. AreKeys (IsKey encoding) dimensionality (length offsets - 1) chunks keys offsets) text needed)

-- the chunk of each key; the first key whose offsets descend or lie past the text is refused, and which it is is told
abbrev pub chunks_of_keys_request : (dimensionality : ℕ) (text offsets chunks marks : List ℕ) (wrong : ℕ) → Request Encoding
chunks_of_keys_request dimensionality text offsets chunks marks wrong =
    encoding_request (AreTextLengths dimensionality (length offsets) (length chunks ∷ []) (length marks))
    (λ encoding fault. (fault ≡ Offsets) × IsFirstWrong (length marks) (HasText text offsets) wrong)
    (λ encoding.
    AreQuestions (length marks) (HasText text offsets)
    × AreAnswered (λ k chunk _. IsChunkOf (IsKey encoding) dimensionality (text_at text offsets k) chunk)
    (λ k. (chunk : List ℕ) → ¬ IsChunkOf (IsKey encoding) dimensionality (text_at text offsets k) chunk)
    (dimensionality, 0) chunks [] marks)
