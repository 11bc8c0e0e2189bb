-- The cheapest choice of one size a dimension gives the cheapest tasks.
use Rattle.std.proofs.Common.{◌≡◌, Bool, IsTrue, ℕ, zero, suc, ◌+◌, ◌*◌, ◌<◌, ◌≤◌, List, [], ◌∷◌, Contains, length, map, max, refl, ap, ap₂, sym, arith, subst, ⊎_elim}
use Rattle.std.proofs.lemmas.List.Sums.{sum_by-cons}
use Rattle.std.proofs.Math.Nat.{add-mul}
use Rattle.std.specs.List.{AllByRecursion, AllZip, sum}
use Rattle.std.proofs.lemmas.Bool.{cases_lt}
use Rattle.zarrs_chunk_plan.specs.Counts.{product}
use Rattle.zarrs_chunk_plan.proofs.Products.{greatest_from, greatest_of}
use Rattle.zarrs_chunk_tasks.specs.Counts.{in_all}
use Rattle.zarrs_chunk_tasks.specs.declared.counts.CountsAlong.{CountsAlong}
use Rattle.zarrs_chunk_tasks.specs.declared.sizes.Size.{Size}
use Rattle.zarrs_chunk_tasks.specs.declared.task.Task.{Task}
use Rattle.zarrs_chunk_tasks.specs.seen.Choices.{IsChoice, held}
use Rattle.zarrs_chunk_tasks.specs.seen.Sizes.{AreSizes, AreTried, IsSize, Side, all_counts, each_of}

-- ---- products

abbrev largest : List CountsAlong → ℕ
largest = in_all (λ counts. counts.largest_task)

abbrev chunks : List CountsAlong → ℕ
chunks = in_all (λ counts. counts.chunks_read)

abbrev elements : List CountsAlong → ℕ
elements = in_all (λ counts. counts.elements_decoded)

abbrev chunks_of : List Size → ℕ
chunks_of choice = product (map (λ (s : Size). s.chunks) choice)

abbrev elements_of : List Size → ℕ
elements_of choice = product (map (λ (s : Size). s.elements) choice)

-- a product of numbers that are no greater is no greater
pub times : (a b c d : ℕ) → a ≤ b → c ≤ d → a * c ≤ b * d
times a b c zero first second = let none : c ≡ 0 = omega arith in rw none (omega arith)
times a b zero (suc d) first second = omega arith
times a b (suc c) (suc d) first second = let rest = times a b c d first (omega arith) in omega (arith, first, rest)

-- ---- choices

-- the sizes of a choice have the counts of their numbers of chunks
pub record HasCounts (all : List Side) (choice : List Size) : Type 0 where
  pub largest_is : largest (all_counts all (map each_of choice)) ≡ held choice
  pub chunks_are : chunks (all_counts all (map each_of choice)) ≡ chunks_of choice
  pub elements_are : elements (all_counts all (map each_of choice)) ≡ elements_of choice
  pub long : length choice ≡ length all
  pub some : 0 < held choice

pub has_counts : (all : List Side) (choice : List Size) → AllZip IsSize all choice → HasCounts all choice
has_counts [] [] are = record { largest_is = refl; chunks_are = refl; elements_are = refl; long = refl; some = omega arith }
has_counts (side ∷ all) (s ∷ choice) are =
    let rest = has_counts all choice are.1 in
    let is = are.0 in
    record {
      largest_is = ap₂ ◌*◌ (sym is.largest) rest.largest_is;
      chunks_are = ap₂ ◌*◌ (sym is.chunks) rest.chunks_are;
      elements_are = ap₂ ◌*◌ (sym is.elements) rest.elements_are;
      long = ap suc rest.long;
      some = times 1 s.largest 1 (held choice) is.some rest.some;
    }
has_counts _ _ are = absurd are

pub all_has : {X : Type 0} (P : X → Type 0) (xs : List X) (x : X) → AllByRecursion P xs → Contains xs x → P x
all_has P [] x all (k, within, is) = absurd (omega arith)
all_has P (y ∷ xs) x all (zero, within, is) = subst P is all.0
all_has P (y ∷ xs) x all (suc k, within, is) = all_has P xs x all.1 (k, omega arith, is)

-- a choice from rows of sizes is one of sizes
pub chosen_sizes : (all : List Side) (rows : List (List Size)) (choice : List Size) → AllZip AreTried all rows → IsChoice rows choice → AllZip IsSize all choice
chosen_sizes [] [] [] are is = tt
chosen_sizes (side ∷ all) (row ∷ rows) (s ∷ choice) are is =
    (all_has (IsSize side) row s are.0.are is.0, chosen_sizes all rows choice are.1 is.1)
chosen_sizes [] [] (_ ∷ _) are is = absurd is
chosen_sizes (side ∷ all) (row ∷ rows) [] are is = absurd is
chosen_sizes [] (_ ∷ _) choice are is = absurd are
chosen_sizes (_ ∷ _) [] choice are is = absurd are

-- the choice of one chunk along each dimension has groups that are no longer than those of any numbers of chunks
pub record IsShort (all : List Side) (rows : List (List Size)) (each : List ℕ) : Type 0 where
  pub choice : List Size
  pub is_choice : IsChoice rows choice
  pub ones : AllByRecursion (λ (s : Size). each_of s ≡ 1) choice
  pub short : held choice ≤ largest (all_counts all each)

pub shortest : (all : List Side) (rows : List (List Size)) (each : List ℕ) → AllZip AreTried all rows → AllByRecursion (λ k. 0 < k) each → length each ≡ length all
    → IsShort all rows each
shortest [] [] [] are some many = record { choice = []; is_choice = tt; ones = tt; short = omega arith }
shortest (side ∷ all) (row ∷ rows) (k ∷ each) are some many =
    let rest = shortest all rows each are.1 some.1 (omega arith) in
    let least = are.0.least in
    record {
      choice = least.first_size ∷ rest.choice;
      is_choice = (rw least.are (0, omega arith, refl), rest.is_choice);
      ones = (least.one, rest.ones);
      short = times least.first_size.largest _ (held rest.choice) _ (least.least k some.0) rest.short;
    }
shortest [] [] (_ ∷ _) are some many = absurd (omega arith)
shortest (_ ∷ _) (_ ∷ _) [] are some many = absurd (omega arith)
shortest [] (_ ∷ _) each are some many = absurd are
shortest (_ ∷ _) [] each are some many = absurd are

-- where all sizes are beaten, there is one that beats any numbers of chunks
pub record IsBetter (all : List Side) (rows : List (List Size)) (each : List ℕ) : Type 0 where
  pub choice : List Size
  pub is_choice : IsChoice rows choice
  pub short : held choice ≤ largest (all_counts all each)
  pub reads : chunks_of choice ≤ chunks (all_counts all each)
  pub decodes : elements_of choice ≤ elements (all_counts all each)

pub better : (are_all : Bool) (all : List Side) (rows : List (List Size)) (each : List ℕ) → IsTrue are_all → AllZip (AreSizes are_all) all rows
    → AllByRecursion (λ k. 0 < k) each → length each ≡ length all → IsBetter all rows each
better are_all [] [] [] true are some many =
    record { choice = []; is_choice = tt; short = omega arith; reads = omega arith; decodes = omega arith }
better are_all (side ∷ all) (row ∷ rows) (k ∷ each) true are some many =
    let rest = better are_all all rows each true are.1 some.1 (omega arith) in
    let (s, among, beats) = are.0.all true k some.0 in
    record {
      choice = s ∷ rest.choice;
      is_choice = (among, rest.is_choice);
      short = times s.largest _ (held rest.choice) _ beats.largest rest.short;
      reads = times s.chunks _ (chunks_of rest.choice) _ beats.chunks rest.reads;
      decodes = times s.elements _ (elements_of rest.choice) _ beats.elements rest.decodes;
    }
better are_all [] [] (_ ∷ _) true are some many = absurd (omega arith)
better are_all (_ ∷ _) (_ ∷ _) [] true are some many = absurd (omega arith)
better are_all [] (_ ∷ _) each true are some many = absurd are
better are_all (_ ∷ _) [] each true are some many = absurd are

-- ---- costs and bounds

-- what reads cost together
pub sum_of_costs : (worth : ℕ) (reads : List (ℕ × ℕ))
    → sum (map (λ (read : ℕ × ℕ). read.0 * worth + read.1) reads)
    ≡ sum (map (λ (read : ℕ × ℕ). read.0) reads) * worth + sum (map (λ (read : ℕ × ℕ). read.1) reads)
sum_of_costs worth [] = omega arith
sum_of_costs worth (read ∷ reads) =
    let rest = sum_of_costs worth reads in
    let one = sum_by-cons (λ n. n) (read.0 * worth + read.1) (map (λ (read : ℕ × ℕ). read.0 * worth + read.1) reads) in
    let firsts = sum_by-cons (λ n. n) read.0 (map (λ (read : ℕ × ℕ). read.0) reads) in
    let seconds = sum_by-cons (λ n. n) read.1 (map (λ (read : ℕ × ℕ). read.1) reads) in
    let both = add-mul read.0 (sum (map (λ (read : ℕ × ℕ). read.0) reads)) worth in
    rw (one, firsts, seconds, both) (omega (arith, rest))

-- where each of some numbers fits together with another, the greatest of them does; and the other way round
pub all_fit : (f : Task → ℕ) (chunk most : ℕ) (tasks : List Task) → AllByRecursion (λ (task : Task). f task + chunk ≤ most) tasks
    → 0 < greatest_of (map f tasks) → greatest_of (map f tasks) + chunk ≤ most
all_fit f chunk most [] all some = absurd (omega arith)
all_fit f chunk most (task ∷ tasks) all some =
    let from = greatest_from (max 0 (f task)) (map f tasks) in
    ⊎_elim (λ (more : 0 < greatest_of (map f tasks)).
    let rest = all_fit f chunk most tasks all.1 more in omega (arith, from, rest, all.0))
    (λ (none : greatest_of (map f tasks) ≤ 0). omega (arith, from, all.0)) (cases_lt 0 (greatest_of (map f tasks)))

pub each_fits : (f : Task → ℕ) (chunk most : ℕ) (tasks : List Task) → greatest_of (map f tasks) + chunk ≤ most
    → AllByRecursion (λ (task : Task). f task + chunk ≤ most) tasks
each_fits f chunk most [] fits = tt
each_fits f chunk most (task ∷ tasks) fits =
    let from = greatest_from (max 0 (f task)) (map f tasks) in
    (omega (arith, from, fits), each_fits f chunk most tasks (omega (arith, from, fits)))
