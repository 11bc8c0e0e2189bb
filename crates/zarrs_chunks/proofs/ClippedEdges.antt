-- A bounded dimension is that of its clipped edges.
use Rattle.std.proofs.Common.{◌≡◌, ℕ, zero, suc, ◌+◌, ◌-◌, ◌*◌, ◌/◌, ◌%◌, ◌<◌, ◌≤◌, min, IsTrue, List, [], ◌∷◌, ◌++◌, length, take, replicate}
use Rattle.std.proofs.Common.{add-one, refl, sym, ◌∙◌, ⊎_elim, arith}
use Rattle.std.proofs.lemmas.Bool.{cases_lt}
use Rattle.std.proofs.Math.Nat.{div-add-mod', min-eq_left, min-eq_right, mul-le-mul_right, lt_of_mul-lt-mul_right}
use Rattle.std.specs.List.{sum}
use Rattle.zarrs_chunk_base.specs.Dimension.{Dimension}
use Rattle.zarrs_chunk_axes.specs.Listed.{IsListed}
use Rattle.zarrs_chunk_axes.specs.Bounded.{AreBounded, IsBounded}
use Rattle.zarrs_chunks.specs.Alike.{AreAlike, AreAllAlike}
use Rattle.zarrs_chunks.specs.Clipped.{AreClipped, AreClippedLists}
use Rattle.zarrs_chunk_axes.specs.lemmas.Multiples.{next_multiple}
use Rattle.zarrs_chunk_axes.specs.lemmas.Running.{take_next}

length_clipped : (n edge rest : ℕ) → length (replicate n edge ++ rest ∷ []) ≡ n + 1
length_clipped zero edge rest = omega arith
length_clipped (suc n) edge rest = omega (arith, length_clipped n edge rest)

-- the sum of whole edges
sum_whole : (n edge rest c : ℕ) → c ≤ n → sum (take c (replicate n edge ++ rest ∷ [])) ≡ c * edge
sum_whole n edge rest zero h = omega arith
sum_whole zero edge rest (suc c) h = absurd (omega arith)
sum_whole (suc n) edge rest (suc c) h =
    omega (arith, take_next edge (replicate n edge ++ rest ∷ []) c, sum_whole n edge rest c (omega arith), next_multiple c edge)

-- the sum of all
sum_all : (n edge rest : ℕ) → sum (take (suc n) (replicate n edge ++ rest ∷ [])) ≡ n * edge + rest
sum_all zero edge rest = omega (arith, take_next rest [] zero)
sum_all (suc n) edge rest = omega (arith, take_next edge (replicate n edge ++ rest ∷ []) (suc n), sum_all n edge rest, next_multiple n edge)

module _ (size edge : ℕ) (edges : List ℕ) (clipped : AreClipped size edge edges) where
  -- chunks up to the last start within the size
  starts_within : (c : ℕ) → c < clipped.whole_edges + 1 → c * edge < size
  starts_within c before =
      let whole = clipped.whole_edges in
      let low : c * edge ≤ whole * edge = mul-le-mul_right edge (omega arith) in
      omega (arith, clipped.some, clipped.size_is)

  -- and no others
  counted : (c : ℕ) → c * edge < size → c < clipped.whole_edges + 1
  counted c within =
      let whole = clipped.whole_edges in
      let below : c * edge < (whole + 1) * edge = omega (arith, clipped.at_most, clipped.size_is, next_multiple whole edge) in
      lt_of_mul-lt-mul_right edge below

  starts_alike : (c : ℕ) → c < clipped.whole_edges + 1 → c * edge ≡ sum (take c edges)
  starts_alike c before = rw clipped.edges_are (sym (sum_whole clipped.whole_edges edge clipped.rest c (omega arith)))

  ends_alike : (c : ℕ) → c < clipped.whole_edges + 1 → min ((c + 1) * edge) size ≡ sum (take (c + 1) edges)
  ends_alike c before =
      let whole = clipped.whole_edges in
      ⊎_elim
      (λ (inner : c < whole).
      let within : (c + 1) * edge ≤ size =
      let up : (c + 1) * edge ≤ whole * edge = mul-le-mul_right edge (omega arith) in omega (arith, clipped.size_is) in
      min-eq_left within ∙ rw clipped.edges_are (sym (sum_whole whole edge clipped.rest (c + 1) (omega arith))))
      (λ (last : whole ≤ c).
      let same : c ≡ whole = omega arith in
      let past : size ≤ (c + 1) * edge = rw same (omega (arith, clipped.at_most, clipped.size_is, next_multiple whole edge)) in
      min-eq_right past ∙ clipped.size_is ∙ rw (same, clipped.edges_are, add-one) (sym (sum_all whole edge clipped.rest)))
      (cases_lt c whole)

-- as many are counted as there are edges
counts_alike : (bounded : Dimension) (size edge : ℕ) (edges : List ℕ) (clipped : AreClipped size edge edges) → IsBounded bounded size edge
    → bounded.grid_size ≡ clipped.whole_edges + 1
counts_alike bounded size edge edges clipped is_bounded =
    let whole = clipped.whole_edges in
    let most : bounded.grid_size ≤ whole + 1 =
    is_bounded.least (whole + 1) (omega (arith, clipped.at_most, clipped.size_is, next_multiple whole edge)) in
    ⊎_elim
    (λ (fewer : bounded.grid_size < whole + 1).
    let low : bounded.grid_size * edge ≤ whole * edge = mul-le-mul_right edge (omega arith) in
    absurd (omega (arith, is_bounded.covers, clipped.some, clipped.size_is)))
    (λ (least : whole + 1 ≤ bounded.grid_size). let same : bounded.grid_size ≡ whole + 1 = omega arith in same)
    (cases_lt bounded.grid_size (whole + 1))

pub bounded_is_listed : (bounded listed : Dimension) (size edge : ℕ) (edges : List ℕ) → AreClipped size edge edges → IsBounded bounded size edge
    → IsListed listed size edges → AreAlike bounded listed
bounded_is_listed bounded listed size edge edges clipped is_bounded is_listed =
    let whole = clipped.whole_edges in
    let count : length edges ≡ whole + 1 = rw clipped.edges_are (length_clipped whole edge clipped.rest) in
    let in_both : (c : ℕ) → IsTrue (bounded.has_chunk c) → c < whole + 1 = λ c has. counted size edge edges clipped c ((is_bounded.chunks c).0 has) in
    let listed_has : (c : ℕ) → IsTrue (bounded.has_chunk c) → IsTrue (listed.has_chunk c) = λ c has.
    (is_listed.chunks c).1 (let before = in_both c has in omega arith) in
    record {
      array_size = is_bounded.array_size ∙ sym is_listed.array_size;
      grid_size = counts_alike bounded size edge edges clipped is_bounded ∙ sym (is_listed.grid_size ∙ count);
      chunks = λ c. (
        listed_has c,
        λ has. (is_bounded.chunks c).1 (starts_within size edge edges clipped c (let before = (is_listed.chunks c).0 has in omega arith)),
      );
      start = λ c has. is_bounded.start c has ∙ starts_alike size edge edges clipped c (in_both c has) ∙ sym (is_listed.start c (listed_has c has));
      end = λ c has. is_bounded.end c has ∙ ends_alike size edge edges clipped c (in_both c has) ∙ sym (is_listed.end c (listed_has c has));
    }

-- and so in each dimension
pub all_bounded_are_listed : (bounded listed : List Dimension) (sizes edges : List ℕ) → AreBounded bounded sizes edges
    → AreClippedLists listed sizes edges → AreAllAlike bounded listed
all_bounded_are_listed [] [] [] [] first second = tt
all_bounded_are_listed (b ∷ bounded) (l ∷ listed) (size ∷ sizes) (edge ∷ edges) first second = (
  bounded_is_listed b l size edge second.0.edges second.0.clipped first.0 second.0.listed,
  all_bounded_are_listed bounded listed sizes edges first.1 second.1,
)
all_bounded_are_listed [] (_ ∷ _) [] [] first second = absurd second
all_bounded_are_listed (_ ∷ _) [] (_ ∷ _) (_ ∷ _) first second = absurd second
all_bounded_are_listed _ listed _ _ first second = absurd first

-- there is such a list for every size and edge that aren't 0
pub has_clipped : (size edge : ℕ) → 0 < size → 0 < edge → (edges : List ℕ) × AreClipped size edge edges
has_clipped size edge some positive =
    let whole = (size - 1) / edge in
    let rest = (size - 1) % edge + 1 in
    let divided : (size - 1) / edge * edge + (size - 1) % edge ≡ size - 1 = div-add-mod' (size - 1) edge in
    let small : (size - 1) % edge < edge = omega arith in (
      replicate whole edge ++ rest ∷ [],
      record { whole_edges = whole; rest = rest; some = omega arith; at_most = omega arith; size_is = omega arith; edges_are = refl },
    )
