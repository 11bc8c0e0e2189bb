-- What a chunk holds of a box of elements, as a box of the array.
use Rattle.zarrs_chunk_plan.proofs.Common.{◌↔◌, ℕ, ◌+◌, ◌<◌, ◌≤◌, List, [], ◌∷◌, arith, AreWithin, Box, IsInside, Dimension, InBox, Meets}
use Rattle.zarrs_chunk_plan.proofs.Common.{TakesSome, taken, taken_from}
use Rattle.zarrs_chunk_plan.specs.seen.Sources.{taken_box, taken_sizes, taken_starts}

-- a chunk that holds an element of a box does so in each dimension
abbrev pub AllTakeSome : List Dimension → (at shape chunk : List ℕ) → Type 0
AllTakeSome [] [] [] [] = Unit {0}
AllTakeSome (d ∷ ds) (a ∷ at) (n ∷ shape) (c ∷ chunk) = TakesSome d a n c × AllTakeSome ds at shape chunk
AllTakeSome _ _ _ _ = ⊥

take_some : (ds : List Dimension) (chunk index at shape : List ℕ) → InBox ds chunk index → AreWithin at shape index → AllTakeSome ds at shape chunk
take_some [] [] [] [] [] box within = tt
take_some (d ∷ ds) (c ∷ chunk) (i ∷ index) (a ∷ at) (n ∷ shape) box within =
    let here = box.0 in
    ((here.chunk, omega arith), take_some ds chunk index at shape box.1 within.2)
take_some [] [] [] (_ ∷ _) [] box within = absurd within
take_some (_ ∷ _) (_ ∷ _) (_ ∷ _) [] [] box within = absurd within
take_some _ _ _ _ _ box within = absurd assumption

pub meets_take : (ds : List Dimension) (b : Box) (chunk : List ℕ) → Meets ds b chunk → AllTakeSome ds b.start b.shape chunk
meets_take ds b chunk (index, box, inside) = take_some ds chunk index b.start b.shape box inside

-- what the chunk shares with the box is a box
common : (ds : List Dimension) (at shape chunk : List ℕ) → AllTakeSome ds at shape chunk → (index : List ℕ)
    → AreWithin (taken_starts ds at chunk) (taken_sizes ds at shape chunk) index ↔ (InBox ds chunk index × AreWithin at shape index)
common [] [] [] [] some [] = (λ _. (tt, tt), λ _. tt)
common [] [] [] [] some (_ ∷ _) = (λ within. absurd within, λ both. absurd both.0)
common (d ∷ ds) (a ∷ at) (n ∷ shape) (c ∷ chunk) some [] = (λ within. absurd within, λ both. absurd both.0)
common (d ∷ ds) (a ∷ at) (n ∷ shape) (c ∷ chunk) some (i ∷ index) =
    let rest = common ds at shape chunk some.1 index in
    let (has, any) = some.0 in (
      λ within.
          let from : taken_from d a c ≤ i = within.0 in
          let below : i < taken_from d a c + taken d a n c = within.1 in
          let (box, others) = rest.0 within.2 in
          ((record { chunk = has; from = omega arith; below = omega arith }, box), (omega arith, omega arith, others)),
      λ both.
          (omega arith, omega arith, rest.1 (both.0.1, both.1.2)),
    )
common _ _ _ _ some index = absurd some

pub taken_common : (ds : List Dimension) (b : Box) (chunk : List ℕ) → AllTakeSome ds b.start b.shape chunk → (index : List ℕ)
    → IsInside (taken_box ds b chunk) index ↔ (InBox ds chunk index × IsInside b index)
taken_common ds b chunk = common ds b.start b.shape chunk
