-- The codes that calls end with, and the versions of the interface and of the library, as the header `zarrs_chunks.h` has them.
use Rattle.std.specs.Prelude.{◌≡◌, ℕ, ◌==◌, if◌then◌else◌, ℤ, pos, negsuc, List, [], ◌∷◌, Result, Ok, Err, codes, slice_index_or}
use Rattle.zarrs_chunk_base.specs.declared.extension_error.ExtensionError.TheVariants.{Create, Metadata}
use Rattle.zarrs_chunk_batches.specs.declared.codes.Fault.{Fault}
use Rattle.zarrs_chunk_batches.specs.declared.codes.Fault.TheVariants.{Memory, Length, NotJson, Extension, NotBox, NotPrepared, Offsets, Short}

-- the version of the interface
abbrev pub abi_version : ℤ
abi_version = pos 3

-- the version of the library
abbrev pub library_version : List ℕ
library_version = codes "0.1.0"

-- the code of each fault
abbrev pub fault_code : Fault → ℤ
fault_code Memory = negsuc 0
fault_code Length = negsuc 1
fault_code NotJson = negsuc 2
fault_code (Extension (Metadata _)) = negsuc 3
fault_code (Extension (Create _)) = negsuc 4
fault_code NotBox = negsuc 5
fault_code Offsets = negsuc 6
fault_code Short = negsuc 7
fault_code NotPrepared = negsuc 8

-- the words of -1, -2 and so on, the codes of faults
abbrev pub fault_words : List (List ℕ)
fault_words =
    codes "out of memory"
    ∷ codes "an array has more or fewer items than the others demand"
    ∷ codes "the metadata is not JSON"
    ∷ codes "the metadata is no extension's"
    ∷ codes "the grid or the encoding is refused"
    ∷ codes "a box ends past 18446744073709551615"
    ∷ codes "offsets descend, or lie past the text"
    ∷ codes "the text of the answer is longer than its buffer"
    ∷ codes "the numbers are not those of a prepared grid or encoding"
    ∷ []

-- of what is no code
abbrev pub no_code : List ℕ
no_code = codes "no call ends with this code"

-- what a code says
abbrev pub code_words : ℤ → List ℕ
code_words (pos n) = if n == 0 then codes "the call has answered" else no_code
code_words (negsuc n) = slice_index_or fault_words n no_code

-- how a call ends: it has answered, or there is a fault
abbrev pub End : Type 0
End = Result (Unit {0}) Fault

-- the code of an end: 0, or that of the fault
abbrev pub end_code : End → ℤ
end_code (Ok _) = pos 0
end_code (Err fault) = fault_code fault

-- the code is that of an end of which P holds
abbrev pub Ends : (End → Type 0) → ℤ → Type 0
Ends P code = (end : End) × (code ≡ end_code end) × P end
