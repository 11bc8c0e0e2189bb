-- What a prepared grid answers in batches is what its grid does.
use Rattle.std.proofs.Common.{◌≡◌, Bool, true, false, cond, ℕ, ◌<◌, List, length, subst, sym}
use Rattle.zarrs_chunk_base.specs.Grid.{Grid}
use Rattle.zarrs_chunk_prepared.specs.declared.grid.PreparedGrid.{PreparedGrid}
use Rattle.zarrs_chunk_prepared.specs.seen.PreparedGrid.{IsReadOf, width_of}
use Rattle.zarrs_chunk_prepared.proofs.EachDimension.{as_many}
use Rattle.zarrs_chunk_batches.specs.Batch.{AreAnswered, AreKept, AreLengths, list_at}
use Rattle.zarrs_chunk_batches.proofs.Batches.{answered_for}

-- what is answered for each is answered of each
pub of_each : {X : Type 0} (P A B : X → Type 0) (found : Bool) → ((x : X) → P x → cond found (A x) (B x))
    → cond found ((x : X) → P x → A x) ((x : X) → P x → B x)
of_each P A B true each = each
of_each P A B false each = each

module _ (grid : Grid) (prepared : PreparedGrid) (are : IsReadOf grid prepared) where
  -- it has as many dimensions
  pub width_is : width_of prepared ≡ length grid.dimensions
  width_is = sym (as_many grid.dimensions prepared.axes.items are)

  -- lengths that fit it fit the grid
  pub fits : (count : ℕ) (totals : List ℕ) → AreLengths (width_of prepared) count totals → AreLengths (length grid.dimensions) count totals
  fits count totals = subst (λ width. AreLengths width count totals) width_is

  pub misfits : (count : ℕ) (totals : List ℕ) → (¬ AreLengths (width_of prepared) count totals) → ¬ AreLengths (length grid.dimensions) count totals
  misfits count totals differ fits = differ (subst (λ width. AreLengths width count totals) (sym width_is) fits)

  -- what it keeps the grid keeps
  pub kept : (before after marks : List ℕ) → AreKept (width_of prepared) before after marks → AreKept (length grid.dimensions) before after marks
  kept before after marks = subst (λ width. AreKept width before after marks) width_is

  -- What is answered of each grid that has these numbers is answered of the grid. Answers and their lists go by how many dimensions there are.
  module _ (Found Answer : Grid → ℕ → ℕ → List ℕ → List ℕ → Type 0) (None : Grid → ℕ → ℕ → Type 0) (widths : ℕ → ℕ × ℕ)
      (first second marks : List ℕ) where
    abbrev width : ℕ
    width = width_of prepared

    abbrev IsFound : ℕ → List ℕ → List ℕ → Type 0
    IsFound k one other = (g : Grid) → IsReadOf g prepared → Found g width k one other

    abbrev HasNone : ℕ → Type 0
    HasNone k = (g : Grid) → IsReadOf g prepared → None g width k

    pub of_grid : ((k : ℕ) → k < length marks → Found grid width k (list_at (widths width).0 first k) (list_at (widths width).1 second k)
        → Answer grid width k (list_at (widths width).0 first k) (list_at (widths width).1 second k))
        → AreAnswered IsFound HasNone (widths width) first second marks
        → AreAnswered (Answer grid (length grid.dimensions)) (None grid (length grid.dimensions)) (widths (length grid.dimensions)) first second marks
    of_grid more answered =
        subst (λ n. AreAnswered (Answer grid n) (None grid n) (widths n) first second marks) width_is
        (answered_for IsFound (Answer grid width) HasNone (None grid width) (widths width) first second marks (λ k less is. more k less (is grid are))
        (λ k none. none grid are) answered)
