-- Fewer choices of one item from each of some rows.
use Rattle.std.proofs.Common.{◌≡◌, ◌∙◌, ℕ, zero, suc, ◌+◌, ◌*◌, ◌<◌, ◌≤◌, List, [], ◌∷◌, ◌++◌, Contains, Vec, Global, length, map, min, refl, ap, subst, sym}
use Rattle.std.proofs.Common.{arith, get_or, set, take, ⊎_elim}
use Rattle.std.proofs.lemmas.Bool.{cases_lt}
use Rattle.std.proofs.lemmas.List.{get_or-map, length-map, length_push, map-append, map-set, take_more}
use Rattle.std.proofs.lemmas.List.Elements.{Contains-append_cases}
use Rattle.std.proofs.lemmas.List.Sums.{sum_by-set}
use Rattle.std.specs.List.{AllByRecursion, AllZip, sum_by}
use Rattle.zarrs_chunk_base.specs.Greatest.{greatest}
use Rattle.zarrs_chunk_plan.specs.Counts.{product}
use Rattle.zarrs_chunk_tasks.specs.seen.Choices.{rows_of}
use Rattle.zarrs_chunk_tasks.specs.seen.Thinning.{IsThinned}
use Rattle.zarrs_chunk_tasks.proofs.LargestChunk.{capped, product_more}
use Rattle.zarrs_chunk_tasks.proofs.LeastCost.{times}

-- ---- some items of a row

module _ {X : Type 0} where
  itself : (row : List X) → IsThinned row row
  itself row = record { among = λ x there. there; starts = λ x others is. (others, is) }

  of_thinned : (row part less : List X) → IsThinned row part → IsThinned part less → IsThinned row less
  of_thinned row part less is also = record {
    among = λ x there. is.among x (also.among x there);
    starts = λ x others row_is. let (rest, same) = is.starts x others row_is in also.starts x rest same;
  }

  some_left : (row part : List X) → IsThinned row part → 0 < length row → 0 < length part
  some_left [] part is some = absurd (omega arith)
  some_left (x ∷ row) part is some = let (rest, same) = is.starts x row refl in rw same (omega arith)

  -- so many items, of the first ones of each two
  pub record AreHalf (row : List X) (half : ℕ) (part : List X) : Type 0 where
    pub long : length part ≡ half
    pub among : (x : X) → Contains part x → Contains row x
    pub starts : 0 < half → (x : X) (others : List X) → row ≡ x ∷ others → (rest : List X) × (part ≡ x ∷ rest)

  pub none_yet : (row : List X) → AreHalf row 0 []
  none_yet row = record { long = refl; among = λ x (k, within, _). absurd (omega arith); starts = λ some. absurd (omega arith) }

  pub one_more : (row part after : List X) (half : ℕ) (here : X) → AreHalf row half part → here ≡ get_or row (2 * half) here → 2 * half < length row
      → after ≡ part ++ here ∷ [] → AreHalf row (half + 1) after
  one_more row part after half here so_far is within put = record {
    long = omega (arith, ap length put, length_push part here, so_far.long);
    among = λ x there.
        ⊎_elim (λ before. so_far.among x before) (λ (k, one, same). found x k one same)
        (Contains-append_cases part (here ∷ []) x (subst (λ xs. Contains xs x) put there));
    starts = starts half part so_far.long refl;
  } where
    found : (x : X) (k : ℕ) → k < length (here ∷ []) → get_or (here ∷ []) k x ≡ x → Contains row x
    found x zero one same = subst (λ y. Contains row y) same (2 * half, within, sym is)
    found x (suc k) one same = absurd (omega arith)

    starts : (n : ℕ) (before : List X) → length before ≡ n → before ≡ part → 0 < half + 1 → (x : X) (others : List X) → row ≡ x ∷ others
        → (rest : List X) × (after ≡ x ∷ rest)
    starts zero [] long same some x others row_is =
        let none : half ≡ 0 = omega (arith, so_far.long, ap length same) in
        let first : here ≡ x = is ∙ ap (λ n. get_or row (2 * n) here) none ∙ ap (λ xs. get_or xs 0 here) row_is in
        ([], put ∙ ap (λ xs. xs ++ here ∷ []) (sym same) ∙ ap (λ y. y ∷ []) first)
    starts zero (_ ∷ _) long same some x others row_is = absurd (omega arith)
    starts (suc n) before long same some x others row_is =
        let (rest, part_is) = so_far.starts (omega (arith, so_far.long, ap length same, long)) x others row_is in
        (rest ++ here ∷ [], put ∙ ap (λ xs. xs ++ here ∷ []) part_is)

  pub all_halves : (row part : List X) (half : ℕ) → (0 < length row → 0 < half) → AreHalf row half part → IsThinned row part
  all_halves row part half any are = record {
    among = are.among;
    starts = λ x others row_is. are.starts (any (omega (arith, ap length row_is))) x others row_is;
  }

-- ---- rows

module _ {T : Type 0} where
  -- how many items they have
  abbrev pub items_of : List (Vec T Global) → ℕ
  items_of = sum_by (λ (r : Vec T Global). length r.items)

  -- each row has some
  abbrev pub HaveSome : List (List T) → Type 0
  HaveSome = AllByRecursion (λ row. 0 < length row)

  more_rows : (rows : List (Vec T Global)) (k : ℕ) (row : Vec T Global) → k < length rows → row ≡ get_or rows k row
      → rows_of (take (k + 1) rows) ≡ rows_of (take k rows) ++ row.items ∷ []
  more_rows rows k row within is =
      ap rows_of (take_more rows k row within ∙ ap (λ r. take k rows ++ r ∷ []) (sym is))
      ∙ map-append (λ (r : Vec T Global). r.items) (take k rows) (row ∷ [])

  pub choices_more : (rows : List (Vec T Global)) (k : ℕ) (row : Vec T Global) (choices after : ℕ) → k < length rows → row ≡ get_or rows k row
      → choices ≡ min greatest (product (map length (rows_of (take k rows)))) → after ≡ min (choices * length row.items) greatest
      → after ≡ min greatest (product (map length (rows_of (take (k + 1) rows))))
  choices_more rows k row choices after within is before after_is =
      let so_far = map length (rows_of (take k rows)) in
      let next = ap (map length) (more_rows rows k row within is) ∙ map-append length (rows_of (take k rows)) (row.items ∷ []) in
      after_is ∙ ap (λ n. min (n * length row.items) greatest) before ∙ capped (product so_far) (length row.items)
      ∙ ap (min greatest) (sym (ap product next ∙ product_more so_far (length row.items)))

  -- the row of a number
  pub row_at : (rows : List (Vec T Global)) (k : ℕ) (row : Vec T Global) → k < length rows → row ≡ get_or rows k row → get_or (rows_of rows) k [] ≡ row.items
  row_at rows k row within is =
      get_or-map (λ (r : Vec T Global). r.items) rows k row [] within ∙ ap (λ (r : Vec T Global). r.items) (sym is)

  pub longest_so_far : (rows : List (List T)) (place longest next : ℕ)
      → ((k : ℕ) → k < place → length (get_or rows k []) ≤ length (get_or rows longest []))
      → length (get_or rows longest []) ≤ length (get_or rows next []) → length (get_or rows place []) ≤ length (get_or rows next [])
      → (k : ℕ) → k < place + 1 → length (get_or rows k []) ≤ length (get_or rows next [])
  longest_so_far rows place longest next so_far keeps here k below =
      ⊎_elim (λ (before : k < place). omega (arith, so_far k before, keeps))
      (λ (le : place ≤ k).
      let is : place ≡ k = omega arith in
      subst (λ (n : ℕ). length (get_or rows n []) ≤ length (get_or rows next [])) is here) (cases_lt k place)

  -- rows of one item at most make one choice
  one_choice : (rows : List (List T)) → ((k : ℕ) → k < length rows → length (get_or rows k []) ≤ 1) → product (map length rows) ≤ 1
  one_choice [] each = omega arith
  one_choice (row ∷ rows) each =
      times (length row) 1 (product (map length rows)) 1 (each 0 (omega arith)) (one_choice rows (λ k within. each (suc k) (omega arith)))

  -- so the longest row of those that make more has more than one
  longest_has_some : (rows : List (List T)) (longest : ℕ) → ((k : ℕ) → k < length rows → length (get_or rows k []) ≤ longest)
      → 1 < product (map length rows) → 1 < longest
  longest_has_some rows longest each more =
      ⊎_elim (λ (some : 1 < longest). some)
      (λ (le : longest ≤ 1).
      let one = one_choice rows (λ k within. let up = each k within in omega (arith, le, up)) in
      absurd (omega (arith, more, one))) (cases_lt 1 longest)

  -- ---- parts of rows

  pub all_itself : (rows : List (List T)) → AllZip IsThinned rows rows
  all_itself [] = tt
  all_itself (row ∷ rows) = (itself row, all_itself rows)

  pub all_of_thinned : (rows fewer least : List (List T)) → AllZip IsThinned rows fewer → AllZip IsThinned fewer least → AllZip IsThinned rows least
  all_of_thinned [] [] [] are also = tt
  all_of_thinned (row ∷ rows) (part ∷ fewer) (less ∷ least) are also =
      (of_thinned row part less are.0 also.0, all_of_thinned rows fewer least are.1 also.1)
  all_of_thinned [] (_ ∷ _) least are also = absurd are
  all_of_thinned (_ ∷ _) [] least are also = absurd are
  all_of_thinned [] [] (_ ∷ _) are also = absurd also
  all_of_thinned (_ ∷ _) (_ ∷ _) [] are also = absurd also

  pub still_some : (rows fewer : List (List T)) → AllZip IsThinned rows fewer → HaveSome rows → HaveSome fewer
  still_some [] [] are some = tt
  still_some (row ∷ rows) (part ∷ fewer) are some = (some_left row part are.0 some.0, still_some rows fewer are.1 some.1)
  still_some [] (_ ∷ _) are some = absurd are
  still_some (_ ∷ _) [] are some = absurd are

  -- a part in the place of one row
  part_set : (rows : List (List T)) (k : ℕ) (part : List T) → k < length rows → IsThinned (get_or rows k []) part → AllZip IsThinned rows (set rows k part)
  part_set [] k part within is = absurd (omega arith)
  part_set (row ∷ rows) zero part within is = (is, all_itself rows)
  part_set (row ∷ rows) (suc k) part within is = (itself row, part_set rows k part (omega arith) is)

  -- with a part of the longest row in its place
  pub record IsThinner (rows fewer : List (Vec T Global)) : Type 0 where
    pub some : HaveSome (rows_of fewer)
    pub thinned : AllZip IsThinned (rows_of rows) (rows_of fewer)
    pub smaller : items_of fewer < items_of rows

  pub thinner : (rows : List (Vec T Global)) (k choices most : ℕ) (row part : Vec T Global) → choices ≡ min greatest (product (map length (rows_of rows)))
      → most < choices → 0 < most → k < length rows
      → ((n : ℕ) → n < length rows → length (get_or (rows_of rows) n []) ≤ length (get_or (rows_of rows) k [])) → row ≡ get_or rows k row
      → HaveSome (rows_of rows) → (1 < length row.items → length part.items < length row.items) → IsThinned row.items part.items
      → IsThinner rows (set rows k part)
  thinner rows k choices most row part choices_are more any within longest is all fewer part_is =
      let here = row_at rows k row within is in
      let many = length-map rows (λ (r : Vec T Global). r.items) in
      let put : AllZip IsThinned (rows_of rows) (rows_of (set rows k part)) =
      rw (map-set (λ (r : Vec T Global). r.items) rows k part)
      (part_set (rows_of rows) k part.items (omega (arith, many, within)) (subst (λ (r : List T). IsThinned r part.items) (sym here) part_is))
      in
      let least_two = longest_has_some (rows_of rows) (length (get_or (rows_of rows) k [])) (λ n below. longest n (omega (arith, many, below)))
      (omega (arith, choices_are, more, any))
      in
      let two : 1 < length row.items = omega (arith, ap length here, least_two) in
      let sums = sum_by-set (λ (r : Vec T Global). length r.items) rows k part row within in
      let same = ap (λ (r : Vec T Global). length r.items) is in
      record {
        some = still_some (rows_of rows) (rows_of (set rows k part)) put all;
        thinned = put;
        smaller = omega (arith, sums, same, fewer two);
      }
