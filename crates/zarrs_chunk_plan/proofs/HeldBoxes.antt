-- What a chunk holds of the whole array, and which chunks hold some of it.
use Rattle.zarrs_chunk_plan.proofs.Common.{◌≡◌, ◌↔◌, ℕ, zero, suc, ◌<◌, List, [], ◌∷◌, Contains, arith, get_or, length, replicate, AllByRecursion}
use Rattle.zarrs_chunk_plan.proofs.Common.{AllZip, Box, IsEmptyBox, IsInside, Dimension, InBox, IsChain, array_sizes, Along, AreBelow, head_some}
use Rattle.zarrs_chunk_plan.proofs.Common.{tail_some, counted_home, IsCommon, Meets, array_box, HasElementOf, HoldsSome, UsesFirst}
use Rattle.zarrs_chunks.proofs.OneDimension.{zeros_below}
use Rattle.zarrs_chunk_plan.proofs.Plans.{not_empty_if_inside}
use Rattle.zarrs_chunk_plan.proofs.Rechunkings.{in_array}

-- a chunk that holds an element of the array does so in each dimension
abbrev pub AllHoldSome : List Dimension → List ℕ → Type 0
AllHoldSome = AllZip HoldsSome

pub hold_some : (ds : List Dimension) (chunk index : List ℕ) → InBox ds chunk index → AreBelow (array_sizes ds) index → AllHoldSome ds chunk
hold_some [] [] [] box below = tt
hold_some (d ∷ ds) (c ∷ chunk) (i ∷ index) box below =
    let rest = hold_some ds chunk index box.1 below.1 in grind arith
hold_some _ _ _ box below = absurd box

pub meets_hold : (ds : List Dimension) (chunk : List ℕ) → Meets ds (array_box ds) chunk → AllHoldSome ds chunk
meets_hold ds chunk (index, box, inside) = hold_some ds chunk index box ((in_array ds index).1 inside)

-- and one that does so in each holds one
some_held : (ds : List Dimension) (chunk : List ℕ) → AllHoldSome ds chunk → (index : List ℕ) × InBox ds chunk index × AreBelow (array_sizes ds) index
some_held [] [] hold = ([], tt, tt)
some_held (d ∷ ds) (c ∷ chunk) hold =
    let (index, box, below) = some_held ds chunk hold.1 in
    let (has, some, within) = hold.0 in
    (d.start c ∷ index, (record { chunk = has; from = omega arith; below = some }, box), (within, below))
some_held _ _ hold = absurd hold

pub hold_meets : (ds : List Dimension) (chunk : List ℕ) → AllHoldSome ds chunk → Meets ds (array_box ds) chunk
hold_meets ds chunk hold = let (index, box, below) = some_held ds chunk hold in (index, box, (in_array ds index).0 below)

-- along the dimension of a number
pub along_each : (R : Dimension → ℕ → Type 0) (ds : List Dimension) (numbers : List ℕ) (k : ℕ) → AllZip R ds numbers → k < length ds
    → Along (λ d. R d (get_or numbers k 0)) ds k
along_each R (d ∷ ds) (n ∷ numbers) zero each within = each.0
along_each R (d ∷ ds) (n ∷ numbers) (suc k) each within = along_each R ds numbers k each.1 (omega arith)
along_each R _ _ k each within = absurd (first_of (assumption, omega arith))

-- what a chunk shares with the whole array are the elements that it holds
pub held_elements : (ds : List Dimension) (chunk index : List ℕ) → IsCommon ds (array_box ds) chunk index ↔ HasElementOf ds chunk index
held_elements ds chunk index = (λ h. (h.0, (in_array ds index).1 h.1), λ h. (h.0, (in_array ds index).0 h.1))

-- ---- the chunks of an array

-- an array that isn't empty has a chunk with some of it
pub some_chunk : (ds : List Dimension) → AllByRecursion IsChain ds → (¬ IsEmptyBox (array_box ds))
    → (chunk : List ℕ) × Meets ds (array_box ds) chunk
some_chunk ds chains some =
    let index = replicate (length (array_sizes ds)) 0 in
    let below = zeros_below (array_sizes ds) some in
    let (home, counted, box) = counted_home ds index chains below in
    (home, (index, box, (in_array ds index).0 below))

pub some_chunks : (ds : List Dimension) (chunks : Box) → AllByRecursion IsChain ds → (¬ IsEmptyBox (array_box ds))
    → ((chunk : List ℕ) → Meets ds (array_box ds) chunk → IsInside chunks chunk) → ¬ IsEmptyBox chunks
some_chunks ds chunks chains some named empty =
    let (chunk, meets) = some_chunk ds chains some in
    not_empty_if_inside _ _ chunk (named chunk meets) empty

-- where those below sizes are the ones that hold some, so it is along each dimension
pub uses_first : (ds : List Dimension) (sizes : List ℕ) → length sizes ≡ length ds → (¬ Contains sizes 0)
    → ((chunk : List ℕ) → AreBelow sizes chunk ↔ AllHoldSome ds chunk) → AllZip UsesFirst ds sizes
uses_first [] [] same some named = tt
uses_first (d ∷ ds) (n ∷ sizes) same some named =
    let first = head_some n sizes some in
    let others = replicate (length sizes) 0 in
    let below = zeros_below sizes (tail_some n sizes some) in
    let hold = (named (0 ∷ others)).0 (first, below) in (
      λ more c. (λ less. ((named (c ∷ others)).0 (less, below)).0, λ here. ((named (c ∷ others)).1 (here, hold.1)).0),
      uses_first ds sizes (omega arith) (tail_some n sizes some)
          (λ chunk. (λ less. ((named (0 ∷ chunk)).0 (first, less)).1, λ holds. ((named (0 ∷ chunk)).1 (hold.0, holds)).1)),
    )
uses_first _ _ same some named = absurd (omega arith)

pub uses_none : (ds : List Dimension) → AllZip UsesFirst ds (replicate (length ds) 0)
uses_none [] = tt
uses_none (d ∷ ds) = (λ more. absurd (omega arith), uses_none ds)
