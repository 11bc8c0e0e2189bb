use borrow.Rule.Slice.PartMut.{put_mid}
use Rattle.std.proofs.Common.{◌≡◌, ℕ, zero, suc, ◌+◌, ◌-◌, List, [], ◌∷◌, ◌++◌, drop, get_or, length, length-set, map, replicate, set, take}
use Rattle.std.proofs.Common.{length-take, length-drop, add-one, append-nil, ap, refl, ◌∙◌, arith, rules}
use Rattle.std.proofs.lemmas.List.{drop_all}
use Rattle.zarrs_chunk_axes.specs.seen.Counting.{IsRaisable, raised}
use Rattle.zarrs_chunk_axes.proofs.row_major.raise_last.Goals as goal

zeros : (numbers : List ℕ) → replicate {A = ℕ} (length numbers) 0 ≡ map (λ _. 0) numbers
zeros [] = refl
zeros (n ∷ numbers) = ap (λ more. 0 ∷ more) (zeros numbers)

-- one number raised, and the part behind it filled with 0
filled : (numbers : List ℕ) (k count : ℕ) → suc k + count ≡ length numbers
    → put_mid (suc k) count (set numbers k (get_or numbers k 0 + 1)) (replicate {A = ℕ} count 0) ≡ raised k numbers
filled [] k count are = absurd (omega arith)
filled (n ∷ numbers) zero count are =
    let rest : count ≡ length numbers = omega arith in
    ap (λ (more : List ℕ). (n + 1) ∷ (replicate {A = ℕ} count 0 ++ more)) (drop_all count numbers (omega arith))
    ∙ ap (λ (more : List ℕ). (n + 1) ∷ more) (append-nil (replicate {A = ℕ} count 0) ∙ ap (λ m. replicate {A = ℕ} m 0) rest ∙ zeros numbers)
filled (n ∷ numbers) (suc k) count are = ap (λ more. n ∷ more) (filled numbers k count (omega arith))

pub returns : goal.returns
returns c =
    let numbers = c.args.numbers.now in
    let k = c.in-Some.place in
    let is : IsRaisable c.args.shape.now numbers c.args.width k = search rules in
    let changed = set numbers k (get_or numbers k 0 + 1) in
    let count = length changed - (k + 1) in
    let same : length changed ≡ length numbers = length-set numbers k (get_or numbers k 0 + 1) in
    let one_filled : put_mid (suc k) count changed (replicate {A = ℕ} count 0) ≡ raised k numbers =
    filled numbers k count (omega (arith, is.before)) in
    let long : length (take count (drop (k + 1) changed)) ≡ count =
    omega (arith, length-take count (drop (k + 1) changed), length-drop (k + 1) changed) in
    let zeros : c.fill.new.self ≡ replicate {A = ℕ} count 0 = c.fill.ensures.after (λ y same. same) ∙ ap (λ m. replicate {A = ℕ} m 0) long in (
      k,
      is,
      ap (λ (part : List ℕ). put_mid (k + 1) count changed part) zeros
          ∙ ap (λ first. put_mid first count changed (replicate {A = ℕ} count 0)) (add-one k) ∙ one_filled,
    )
