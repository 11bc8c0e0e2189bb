-- What a look-up leaves, as an answer is made of it.
use Rattle.std.specs.Prelude.{◌≡◌, Option, Result, Err}
use Rattle.zarrs_chunk_base.specs.declared.incompatible_dimensionality_error.IncompatibleDimensionalityError.{IncompatibleDimensionalityError}
use Rattle.zarrs_chunk_base.specs.declared.refusal.Refusal.{Refusal}
use Rattle.zarrs_chunk_base.specs.declared.refusal.Refusal.TheVariants.{Refused}
use Rattle.zarrs_chunk_questions.specs.declared.line_fault.LineFault.{LineFault}
use Rattle.zarrs_chunk_questions.specs.declared.line_fault.LineFault.TheVariants.{Lengths}

-- the look-up was refused, and the fault tells its error
abbrev pub TellsError : {X : Type 0} → Result (Option X) (Refusal IncompatibleDimensionalityError) → LineFault → Type 0
TellsError answer fault = (e : IncompatibleDimensionalityError) × (answer ≡ Err (Refused e)) × (fault ≡ Lengths e)
