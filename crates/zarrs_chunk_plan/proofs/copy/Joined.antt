-- Lists that are made of other lists, one after another: what is in them, and what holds of each two of it.
use Rattle.zarrs_chunk_plan.proofs.Common.{◌↔◌, ◌⊎◌, zero, suc, List, [], ◌∷◌, ◌++◌, Contains, get_or, map, refl, subst, ⊎_elim, arith, AllPairs}
use Rattle.zarrs_chunk_plan.proofs.Common.{Contains-append_cases, Contains-append_left, Contains-append_right, Contains-get_or, source_of}
use Rattle.std.proofs.lemmas.List.Elements.{All-append}
use Rattle.std.proofs.lemmas.List.Kept.{AllPairs-cons}

module _ {X : Type 0} where
  pub has_either : (xs ys : List X) (x : X) → Contains (xs ++ ys) x ↔ (Contains xs x ⊎ Contains ys x)
  has_either xs ys x = (Contains-append_cases xs ys x, ⊎_elim (Contains-append_left xs ys x) (Contains-append_right xs ys x))

  pub pairs_of_both : (Q : X → X → Type 0) (xs ys : List X) → AllPairs Q xs → AllPairs Q ys
      → ((x y : X) → Contains xs x → Contains ys y → Q x y) → AllPairs Q (xs ++ ys)
  pairs_of_both Q [] ys one other across = other
  pairs_of_both Q (x ∷ xs) ys one other across =
      AllPairs-cons Q x (xs ++ ys)
      (All-append (Q x) xs ys (λ k d within. one zero (suc k) d (omega arith) (omega arith))
      (λ k d within. across x (get_or ys k d) (zero, omega arith, refl) (Contains-get_or ys k d within)))
      (pairs_of_both Q xs ys (λ i j d before within. one (suc i) (suc j) d (omega arith) (omega arith)) other
      (λ y z among also. across y z (Contains-append_right (x ∷ []) xs y among) also))

module _ {X Y : Type 0} (f : X → Y) where
  pub pairs_mapped : (Q : Y → Y → Type 0) (xs : List X) → AllPairs (λ x z. Q (f x) (f z)) xs → AllPairs Q (map f xs)
  pairs_mapped Q [] all = λ i j d before within. absurd (omega arith)
  pairs_mapped Q (x ∷ xs) all =
      AllPairs-cons Q (f x) (map f xs)
      (λ k d within.
      let (z, (j, counted, is), same) = source_of f xs (get_or (map f xs) k d) (Contains-get_or (map f xs) k d within) in
      subst (Q (f x)) same (subst (λ w. Q (f x) (f w)) is (all zero (suc j) z (omega arith) (omega arith))))
      (pairs_mapped Q xs (λ i j d before within. all (suc i) (suc j) d (omega arith) (omega arith)))
