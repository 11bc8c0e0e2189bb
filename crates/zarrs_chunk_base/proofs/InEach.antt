-- Lists that are related in each dimension: the induction over dimensions, and what follows by it.
use Rattle.std.proofs.Common.{◌≡◌, ℕ, suc, ◌≤◌, List, [], ◌∷◌, length, map, refl, ap}
use Rattle.std.specs.List.{AllZip}
use Rattle.zarrs_chunk_base.specs.Dimension.{Dimension, InEach}
use Rattle.zarrs_chunk_base.specs.Greatest.{greatest, AllFit}

-- what holds without dimensions, and of one more wherever it holds, holds of all lists that are related in each dimension
pub by_dimension : {X : Type 0} (R : Dimension → ℕ → X → Type 0) (P : List Dimension → List ℕ → List X → Type 0) → P [] [] []
    → ((d : Dimension) (c : ℕ) (x : X) (ds : List Dimension) (chunk : List ℕ) (xs : List X) → R d c x → P ds chunk xs
    → P (d ∷ ds) (c ∷ chunk) (x ∷ xs))
    → (ds : List Dimension) (chunk : List ℕ) (xs : List X) → InEach R ds chunk xs → P ds chunk xs
by_dimension R P none more [] [] [] h = none
by_dimension R P none more (d ∷ ds) (c ∷ chunk) (x ∷ xs) h = more d c x ds chunk xs h.0 (by_dimension R P none more ds chunk xs h.1)
by_dimension R P none more _ _ _ h = absurd h

-- the same of two lists of values, which are both related to the dimensions and to one list of numbers
pub by_dimension_twice : {X Y : Type 0} (R : Dimension → ℕ → X → Type 0) (S : Dimension → ℕ → Y → Type 0)
    (P : List Dimension → List ℕ → List X → List Y → Type 0) → P [] [] [] []
    → ((d : Dimension) (c : ℕ) (x : X) (y : Y) (ds : List Dimension) (chunk : List ℕ) (xs : List X) (ys : List Y)
    → R d c x → S d c y → P ds chunk xs ys → P (d ∷ ds) (c ∷ chunk) (x ∷ xs) (y ∷ ys))
    → (ds : List Dimension) (chunk : List ℕ) (xs : List X) (ys : List Y) → InEach R ds chunk xs → InEach S ds chunk ys → P ds chunk xs ys
by_dimension_twice {X} {Y} R S P none more ds chunk xs ys first second =
    by_dimension R (λ ds chunk xs. (ys : List Y) → InEach S ds chunk ys → P ds chunk xs ys) at_end with_next ds chunk xs first ys second where
      at_end : (ys : List Y) → InEach S [] [] ys → P [] [] [] ys
      at_end [] h = none
      at_end (_ ∷ _) h = absurd h

      with_next : (d : Dimension) (c : ℕ) (x : X) (ds : List Dimension) (chunk : List ℕ) (xs : List X) → R d c x
          → ((ys : List Y) → InEach S ds chunk ys → P ds chunk xs ys) → (ys : List Y) → InEach S (d ∷ ds) (c ∷ chunk) ys
          → P (d ∷ ds) (c ∷ chunk) (x ∷ xs) ys
      with_next d c x ds chunk xs here rest [] h = absurd h
      with_next d c x ds chunk xs here rest (y ∷ ys) h = more d c x y ds chunk xs ys here h.0 (rest ys h.1)

module _ {X : Type 0} (R : Dimension → ℕ → X → Type 0) where
  -- there are as many numbers as dimensions
  pub length_numbers : (ds : List Dimension) (chunk : List ℕ) (xs : List X) → InEach R ds chunk xs → length chunk ≡ length ds
  length_numbers = by_dimension R (λ ds chunk xs. length chunk ≡ length ds) refl (λ d c x ds chunk xs here rest. ap suc rest)

  -- and as many values
  pub length_values : (ds : List Dimension) (chunk : List ℕ) (xs : List X) → InEach R ds chunk xs → length xs ≡ length ds
  length_values = by_dimension R (λ ds chunk xs. length xs ≡ length ds) refl (λ d c x ds chunk xs here rest. ap suc rest)

  -- a number that the dimension determines
  pub numbers_are : (f : Dimension → ℕ) → ((d : Dimension) (c : ℕ) (x : X) → R d c x → f d ≡ c)
      → (ds : List Dimension) (chunk : List ℕ) (xs : List X) → InEach R ds chunk xs → chunk ≡ map f ds
  numbers_are f is = by_dimension R (λ ds chunk xs. chunk ≡ map f ds) refl (λ d c x ds chunk xs here rest. let head = is d c x here in cc)

  -- a value that the dimension determines
  pub values_are : (f : Dimension → X) → ((d : Dimension) (c : ℕ) (x : X) → R d c x → f d ≡ x)
      → (ds : List Dimension) (chunk : List ℕ) (xs : List X) → InEach R ds chunk xs → xs ≡ map f ds
  values_are f is = by_dimension R (λ ds chunk xs. xs ≡ map f ds) refl (λ d c x ds chunk xs here rest. let head = is d c x here in cc)

  -- numbers that are tied to others, place by place
  pub along : (S : ℕ → ℕ → Type 0) (ds : List Dimension) (chunk : List ℕ) (xs : List X) → InEach R ds chunk xs
      → (others : List ℕ) → AllZip S chunk others → InEach (λ d n x. (c : ℕ) × S c n × R d c x) ds others xs
  along S = by_dimension R
      (λ ds chunk xs. (others : List ℕ) → AllZip S chunk others → InEach (λ d n x. (c : ℕ) × S c n × R d c x) ds others xs) none more where
        none : (others : List ℕ) → AllZip S [] others → InEach (λ d n x. (c : ℕ) × S c n × R d c x) [] others []
        none [] tied = tt
        none (_ ∷ _) tied = absurd tied

        more : (d : Dimension) (c : ℕ) (x : X) (ds : List Dimension) (chunk : List ℕ) (xs : List X) → R d c x
            → ((others : List ℕ) → AllZip S chunk others → InEach (λ d n x. (c : ℕ) × S c n × R d c x) ds others xs)
            → (others : List ℕ) → AllZip S (c ∷ chunk) others → InEach (λ d n x. (c : ℕ) × S c n × R d c x) (d ∷ ds) others (x ∷ xs)
        more d c x ds chunk xs here rest [] tied = absurd tied
        more d c x ds chunk xs here rest (n ∷ others) tied = ((c, tied.0, here), rest others tied.1)

-- what is related to what values stand for
pub mapped : {X Y : Type 0} (f : X → Y) (R : Dimension → ℕ → Y → Type 0) (ds : List Dimension) (chunk : List ℕ) (xs : List X)
    → InEach (λ d c x. R d c (f x)) ds chunk xs → InEach R ds chunk (map f xs)
mapped f R = by_dimension (λ d c x. R d c (f x)) (λ ds chunk xs. InEach R ds chunk (map f xs)) tt (λ d c x ds chunk xs here rest. (here, rest))

-- what is related the other way round
pub turned : (R : Dimension → ℕ → ℕ → Type 0) (ds : List Dimension) (chunk xs : List ℕ) → InEach R ds chunk xs → InEach (λ d x c. R d c x) ds xs chunk
turned R = by_dimension R (λ ds chunk xs. InEach (λ d x c. R d c x) ds xs chunk) tt (λ d c x ds chunk xs here rest. (here, rest))

-- values that fit fit in each dimension
pub that_fit : (R : Dimension → ℕ → ℕ → Type 0) (ds : List Dimension) (chunk xs : List ℕ) → InEach R ds chunk xs → AllFit xs
    → InEach (λ d c x. R d c x × (x ≤ greatest)) ds chunk xs
that_fit R =
    by_dimension R (λ ds chunk xs. AllFit xs → InEach (λ d c x. R d c x × (x ≤ greatest)) ds chunk xs) (λ fit. tt)
    (λ d c x ds chunk xs here rest fit. ((here, fit.0), rest fit.1))

-- where a chunk has one value, it has one list of values
pub same_values : (R : Dimension → ℕ → ℕ → Type 0) → ((d : Dimension) (c x y : ℕ) → R d c x → R d c y → x ≡ y)
    → (ds : List Dimension) (chunk xs ys : List ℕ) → InEach R ds chunk xs → InEach R ds chunk ys → xs ≡ ys
same_values R same =
    by_dimension_twice R R (λ ds chunk xs ys. xs ≡ ys) refl (λ d c x y ds chunk xs ys first second rest. let head = same d c x y first second in cc)
