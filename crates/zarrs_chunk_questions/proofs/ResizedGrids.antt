-- Grids that one tree is the metadata of, of two array shapes.
use Rattle.std.proofs.Common.{◌≡◌, ◌≢◌, List, [], ◌∷◌, ℕ, suc, Option, Some, ap, ap₂, length, refl, subst, arith}
use Rattle.serde_json.specs.Data.{Data, Members}
use Rattle.serde_json.specs.Find.{as_object, as_str}
use Rattle.zarrs_chunk_base.specs.Dimension.{Dimension}
use Rattle.zarrs_chunk_base.specs.Grid.{Grid}
use Rattle.zarrs_chunk_base.specs.Kinds.{IsOf}
use Rattle.zarrs_chunk_base.specs.Metadata.{Extension, IsExtension, IsOptional, name_of}
use Rattle.zarrs_chunk_base.specs.Refusal.{IsRefusedAnd, MatchRefusal, OrMemory, TellsLengths}
use Rattle.zarrs_chunk_base.specs.declared.incompatible_dimensionality_error.IncompatibleDimensionalityError.{IncompatibleDimensionalityError}
use Rattle.zarrs_chunk_base.specs.declared.refusal.Refusal.{Refusal}
use Rattle.zarrs_chunk_base.specs.declared.refusal.Refusal.TheVariants.{Memory}
use Rattle.zarrs_chunks.specs.GridKinds.{GridKind, IsGridIn, grid_kind}
use Rattle.zarrs_chunk_plan.specs.Resize.{AreResized}
use Rattle.zarrs_chunk_plan.proofs.OneConfiguration.{one_configuration}
use Rattle.zarrs_chunk_questions.specs.declared.line_fault.LineFault.{LineFault}

-- a text has no members
no_text_with_a_name : (d : Data) (text name : List ℕ) → as_str d ≡ Some text → name_of d ≡ Some name → ⊥
no_text_with_a_name d text name is named = grind arith

same_optional : (d : Option Data) (one other : Option Members) → IsOptional as_object d one → IsOptional as_object d other → one ≡ other
same_optional d one other is also = grind arith

abbrev extension : List ℕ → Option Members → Extension
extension name configuration = record { name = name; configuration = configuration }

same_extension : (e f : Extension) → e.name ≡ f.name → e.configuration ≡ f.configuration → e ≡ f
same_extension e f name configuration = ap₂ extension name configuration

-- a tree is the metadata of one extension
pub one_extension : (d : Data) (e f : Extension) → IsExtension d e → IsExtension d f → e ≡ f
one_extension d e f is also = grind (arith, same_optional)

-- an index that both arrays have lies in the same chunk of either
pub one_tree : (tree : Data) (shape other : List ℕ) (kind also : GridKind) (before after : Grid) → IsGridIn tree shape kind before
    → IsGridIn tree other also after → AreResized before.dimensions after.dimensions
one_tree tree shape other kind also before after (e, is, made) (f, is_also, made_also) =
    one_configuration f shape other before after (kind, subst (λ x. IsOf (grid_kind kind) x shape before) (one_extension tree e f is is_also) made) (also, made_also)

pub as_many : (before after : List Dimension) → AreResized before after → length after ≡ length before
as_many [] [] resized = refl
as_many (_ ∷ before) (_ ∷ after) resized = ap suc (as_many before after resized.1)
as_many _ _ resized = absurd resized

-- out of memory is all that is left of a refusal that tells two lengths, where these are the same
pub never_refused : (given expected : ℕ) (P : IncompatibleDimensionalityError → LineFault → Type 0) (R : LineFault → Type 0)
    (refusal : Refusal IncompatibleDimensionalityError) (told : Refusal LineFault) → given ≡ expected
    → OrMemory (λ e. (given ≢ expected) × TellsLengths given expected e) refusal
    → MatchRefusal refusal (λ error. IsRefusedAnd told (P error)) (λ error. told ≡ Memory error) → OrMemory R told
never_refused given expected P R refusal told same refused mapped = grind arith
