-- The keys of another encoding, each with `v1.` before it.
use Rattle.std.specs.Prelude.{◌≡◌, ℕ, List, ◌++◌, codes}
use Rattle.std.proofs.Common.{refl, subst}

abbrev pub IsVersioned : (IsKey : List ℕ → List ℕ → Type 0) → (chunk key : List ℕ) → Type 0
IsVersioned IsKey chunk key = (own : List ℕ) × IsKey chunk own × (key ≡ codes "v1." ++ own)

-- what comes after the version is known
pub same_own : (one other : List ℕ) → codes "v1." ++ one ≡ codes "v1." ++ other → one ≡ other
same_own one other same = cc

pub versioned_exact : (IsKey : List ℕ → List ℕ → Type 0) (chunk other key : List ℕ)
    → ((own : List ℕ) → IsKey chunk own → IsKey other own → chunk ≡ other) → IsVersioned IsKey chunk key
    → IsVersioned IsKey other key → chunk ≡ other
versioned_exact IsKey chunk other key exact (own, is, begins) (next, also, also_begins) =
    exact own is (subst (IsKey other) (same_own next own (let same : codes "v1." ++ next ≡ codes "v1." ++ own = cc in same)) also)

-- a list of numbers has a key if it has one under the other encoding
pub versioned_has : (IsKey : List ℕ → List ℕ → Type 0) (chunk : List ℕ) → (own : List ℕ) × IsKey chunk own
    → (key : List ℕ) × IsVersioned IsKey chunk key
versioned_has IsKey chunk (own, is) = (codes "v1." ++ own, (own, is, refl))
