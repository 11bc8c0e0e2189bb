-- What run-length elements stand for, one after another.
use Rattle.std.proofs.Common.{◌≡◌, ℕ, zero, suc, ◌<◌, List, [], ◌∷◌, replicate, refl, arith}
use Rattle.std.proofs.lemmas.List.Sums.{sum_by-append, sum_by-cons}
use Rattle.std.specs.Int.NonZero.{non_zero_u64_get}
use Rattle.std.specs.List.{sum}
use Rattle.zarrs_chunk_base.specs.RunLength.{element_edges, expansion}
use Rattle.zarrs_chunk_base.specs.declared.run_length_element.RunLengthElement.{RunLengthElement}
use Rattle.zarrs_chunk_base.specs.declared.run_length_element.RunLengthElement.TheVariants.{Single, Repeated}

-- no edge is 0, so edges of the sum 0 are none
pub none_of_sum : (elements : List RunLengthElement) → sum (expansion elements) ≡ 0 → expansion elements ≡ []
none_of_sum [] is = refl
none_of_sum (element ∷ elements) is =
    let both = sum_by-append (λ x. x) (element_edges element) (expansion elements) in
    let here : element_edges element ≡ [] = none_of_element element (omega arith) in
    let rest : expansion elements ≡ [] = none_of_sum elements (omega arith) in
    rw (here, rest) refl where
      of_count : (edge count : ℕ) → 0 < edge → sum (replicate count edge) ≡ 0 → replicate count edge ≡ []
      of_count edge zero some none = refl
      of_count edge (suc count) some none = absurd (omega (arith, sum_by-cons (λ x. x) edge (replicate count edge)))

      none_of_element : (e : RunLengthElement) → sum (element_edges e) ≡ 0 → element_edges e ≡ []
      none_of_element (Single edge) none =
          let some : 0 < non_zero_u64_get edge = edge.ok in absurd (omega (arith, sum_by-cons (λ x. x) (non_zero_u64_get edge) []))
      none_of_element (Repeated []) none = refl
      none_of_element (Repeated (edge ∷ [])) none = refl
      none_of_element (Repeated (edge ∷ count ∷ rest)) none = of_count (non_zero_u64_get edge) (non_zero_u64_get count) edge.ok none
