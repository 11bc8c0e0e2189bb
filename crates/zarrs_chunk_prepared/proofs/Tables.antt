-- What the numbers of a dimension tell of its chunks.
use Rattle.std.proofs.Common.{true, false, sym, ◌≡◌, ℕ, ◌+◌, ◌-◌, ◌*◌, ◌<◌, ◌≤◌, List, get_or, length, min, MatchOption, None, Option, Some, ⊎_elim, arith, subst}
use Rattle.std.proofs.lemmas.Bool.{false≢true}
use Rattle.std.specs.Option.{is_some, unwrap_or}
use Rattle.zarrs_chunk_axes.specs.LookUp.{HasRange}
use Rattle.zarrs_chunk_base.specs.Dimension.{Dimension}
use Rattle.zarrs_chunk_base.specs.Greatest.{greatest}
use Rattle.zarrs_chunk_division.specs.Division.{IsDivision}
use Rattle.zarrs_chunk_prepared.specs.Prepared.{IsLastUpTo, IsOfRun, IsTableOf, LiesInRun, Table}
use Rattle.zarrs_chunk_prepared.specs.seen.Ranges.{EndsNowhere, IsRange, end_in_run}
use Rattle.zarrs_chunks.proofs.Chains.{at_most_start}

-- what is found is there, and where nothing is, there is none
pub none_found : {X : Type 0} (found : Option X) (None_is : Type 0) (Is : X → Type 0) → MatchOption found None_is Is → is_some found ≡ false → None_is
none_found None None_is Is h none = h
none_found (Some x) None_is Is h none = absurd (false≢true (sym none))

pub some_found : {X : Type 0} (found : Option X) (None_is : Type 0) (Is : X → Type 0) → MatchOption found None_is Is → is_some found ≡ true
    → (x : X) × Is x
some_found None None_is Is h some = absurd (false≢true some)
some_found (Some x) None_is Is h some = (x, h)

-- where there is one, it is what is taken
pub is_taken : {X : Type 0} (found : Option X) (d taken : X) (None_is : Type 0) (Is : X → Type 0) → MatchOption found None_is Is → (¬ None_is)
    → taken ≡ unwrap_or found d → Is taken
is_taken None d taken None_is Is h some is = absurd (some h)
is_taken (Some x) d taken None_is Is h some is = rw is h

-- the only number, which is 0, is the last one up to any
pub only_one : (numbers : List ℕ) (n : ℕ) → length numbers ≡ 1 → get_or numbers 0 0 ≡ 0 → IsLastUpTo numbers n 0
only_one numbers n one zero = record { within = omega arith; from = omega arith; next = λ later past within. absurd (omega arith) }

module _ (d : Dimension) (t : Table) (is : IsTableOf d t) where
  -- the run in which an index was found gives its home, whose chunk is at most the index
  pub home_in_run : (index run chunks place : ℕ) → index ≤ t.last_index → IsLastUpTo t.starts index run
      → IsDivision (index - get_or t.starts run 0) (get_or t.edges run 0) chunks place
      → LiesInRun d t run index chunks place × (get_or t.chunks run 0 + chunks ≤ index)
  home_in_run index run chunks place within found division =
      let from = found.from in
      let lies = is.homes index run chunks place within found division.less (omega (arith, division.whole)) in
      let low = at_most_start d is.chain (get_or t.chunks run 0 + chunks) lies.0.chunk in
      (lies, omega (arith, lies.0.from))

  module _ (chunk run : ℕ) (of_run : IsOfRun d t run chunk) where
    abbrev pub before : ℕ
    before = chunk - get_or t.chunks run 0

    abbrev pub start : ℕ
    start = get_or t.starts run 0 + before * get_or t.edges run 0

    abbrev pub end : ℕ
    end = end_in_run (get_or t.starts run 0) before (get_or t.edges run 0) t.last_index

    ends : min (d.end chunk) (greatest + 1) ≡ end
    ends = subst (λ n. min (d.end chunk) (greatest + 1) ≡ min (n + get_or t.edges run 0) (t.last_index + 1)) of_run.start of_run.end

    -- a range from the chunk's start to its end is the chunk's
    pub has_range : (range : ℕ × ℕ) → IsRange start end range → HasRange d chunk range
    has_range range ranges =
        let is_start = of_run.start in
        let is_end : d.end chunk ≡ end = omega (arith, ends, ranges.fits) in
        record {
          start = record { chunk = of_run.has; start = omega (arith, ranges.is_start) };
          edge = record { chunk = of_run.has; edge = omega (arith, ranges.is_start, ranges.is_end) };
          fits = omega (arith, ranges.is_end, ranges.fits);
        }

    -- where there is none, the chunk has none
    pub has_none : EndsNowhere start end → (range : ℕ × ℕ) → ¬ HasRange d chunk range
    has_none nowhere range has =
        let some = is.chain.not_empty chunk of_run.has in
        let is_start = of_run.start in
        let fits = has.fits in
        let from = has.start.start in
        let to = has.edge.edge in
        ⊎_elim (λ (none : end ≤ start). omega (arith, ends)) (λ (past : greatest < end). omega (arith, ends)) nowhere

    -- what is found is the chunk's, and where nothing is, the chunk has none
    pub one_range : (found : Option (ℕ × ℕ)) → MatchOption found (EndsNowhere start end) (IsRange start end)
        → MatchOption found ((range : ℕ × ℕ) → ¬ HasRange d chunk range) (HasRange d chunk)
    one_range None nowhere = has_none nowhere
    one_range (Some range) ranges = has_range range ranges
