-- The form of the ranges that are found, and what it means: the bytes of a box, along one more dimension each time.
use Rattle.zarrs_chunk_plan.proofs.Common.{◌≡◌, ◌↔◌, ◌∙◌, ℕ, zero, suc, ◌+◌, ◌-◌, ◌*◌, ◌<◌, ◌≤◌, Bool, true, false, List, [], ◌∷◌, Contains, IfSome}
use Rattle.zarrs_chunk_plan.proofs.Common.{Option, None, Some, ap, arith, inl, inr, length, refl, subst, sym, ⊎_elim, ◌/◌, ◌%◌, drop, get_or, ◌==◌}
use Rattle.zarrs_chunk_plan.proofs.Common.{ap₂, cases_lt, same_Some, mod-lt, mul-le-mul_right, mul_assoc, drop-cons, row_fits, AllPairs}
use Rattle.zarrs_chunk_plan.proofs.Common.{Contains-get_or, AreWithin, greatest, head_some, tail_some, begins, in_order, product, EndWithin}
use Rattle.std.proofs.Common.{nat_le, cond}
use Rattle.std.proofs.Common.{ne_eqb, option_map, ◌&&◌, false-eqb}
use Rattle.std.proofs.lemmas.Bool.{le-leb, leb-true, lt-leb, true≢false, eqb-true}
use Rattle.std.proofs.Math.Arith.{lt_of_le-ne}
use Rattle.std.proofs.Math.Nat.{add-mul, div-lt_iff_lt-mul}
use Rattle.std.proofs.lemmas.Nat.{div-add-mod'}
use Rattle.std.proofs.lemmas.List.{get_or_default}
use Rattle.zarrs_chunk_base.proofs.FirstMembers.{contained}
use Rattle.zarrs_chunk_plan.specs.Bytes.{FindsRanges, GoesTo, HasByte, HasPast, IsByteIn, place, place_within}
use Rattle.zarrs_chunk_plan.specs.Strided.{Strided, form_of, has_all, has_zero, lies_in, no_ranges, ranges_of, strided, along}
use Rattle.zarrs_chunk_plan.specs.seen.Rows.{IsStrided}
use Rattle.zarrs_chunk_plan.specs.declared.bytes.ranges.ByteRanges.{ByteRanges}
use Rattle.zarrs_chunk_plan.specs.declared.bytes.ranges.MemoryOrder.{MemoryOrder}
use Rattle.zarrs_chunk_plan.proofs.Plans.{not_empty_if_inside}
use Rattle.zarrs_chunk_plan.proofs.bytes.StoredOrder.{ends_in_order, product_in_order, ranges_in_order, some_in_order}
use Rattle.zarrs_chunk_plan.specs.declared.bytes.ranges.MemoryOrder.TheVariants.{C}
use Rattle.zarrs_chunk_plan.proofs.bytes.RangeStarts.{at_repeated, in_repeated, repeated_apart, repeated_length}

-- ---- what the tests tell

lies_tells : (start shape edges : List ℕ) → (lies_in start shape edges ≡ true) ↔ EndWithin start shape edges
lies_tells [] [] [] = (λ _. tt, λ _. refl)
lies_tells (s ∷ start) (n ∷ shape) (e ∷ edges) =
    let rest = lies_tells start shape edges in
    ⊎_elim (λ (past : e < s + n). rw (lt-leb (s + n) e past) (λ is. absurd (true≢false (sym is)), λ lies. absurd (omega (arith, lies.0))))
    (λ (le : s + n ≤ e). rw (le-leb (s + n) e le) (λ is. (le, rest.0 is), λ lies. rest.1 lies.1)) (cases_lt e (s + n))
lies_tells _ _ _ = (λ is. absurd (true≢false (sym is)), λ lies. absurd lies)

pub zero_tells : (numbers : List ℕ) → (has_zero numbers ≡ true) ↔ Contains numbers 0
zero_tells [] = (λ is. absurd (true≢false (sym is)), λ (k, small, is). absurd (omega arith))
zero_tells (zero ∷ numbers) = (λ _. (zero, omega arith, refl), λ _. refl)
zero_tells (suc n ∷ numbers) =
    let rest = zero_tells numbers in
    rw (ne_eqb (suc n) 0 (λ is. absurd (omega arith))) (
      λ is. let (k, small, at) = rest.0 is in (suc k, omega arith, at),
      λ has. rest.1 (⊎_elim (λ (is : suc n ≡ 0). absurd (omega arith)) (λ later. later) (contained (suc n) numbers 0 has)),
    )

-- a test that fails where it tells a property that doesn't hold
fails : {P : Type 0} (b : Bool) → (b ≡ true) ↔ P → (¬ P) → b ≡ false
fails true tells not = absurd (not (tells.0 refl))
fails false tells not = refl

-- ---- the form

module _ (item : ℕ) (order : MemoryOrder) (edges start shape : List ℕ) where
  pub none_where_out : (¬ EndWithin start shape edges) → None ≡ ranges_of item order edges start shape
  none_where_out out = rw (fails _ (lies_tells start shape edges) out) refl

  pub where_empty : EndWithin start shape edges → Contains shape 0 → Some no_ranges ≡ ranges_of item order edges start shape
  where_empty lies empty = rw ((lies_tells start shape edges).1 lies, (zero_tells shape).1 empty) refl

  pub counted_form : EndWithin start shape edges → (¬ Contains shape 0) → (found : Option ByteRanges)
      → IsStrided item (in_order order edges) (in_order order start) (in_order order shape) found
      → option_map form_of found ≡ ranges_of item order edges start shape
  counted_form lies some None past =
      let past_all = rw (product_in_order order edges) at past in
      rw ((lies_tells start shape edges).1 lies, fails _ (zero_tells shape) some, lt-leb (product edges * item) greatest past_all) refl
  counted_form lies some (Some ranges) (fits, is) =
      let fit_all = rw (product_in_order order edges) at fits in
      ap Some is
      ∙ (rw ((lies_tells start shape edges).1 lies, fails _ (zero_tells shape) some, le-leb (product edges * item) greatest fit_all) refl)

-- ---- the bytes of a box along one more dimension

-- a form that is one range
abbrev one_range : (first long : ℕ) → Strided
one_range first long = record { first = first; length = long; counts = []; strides = [] }

-- These are the ranges of a box along some inner dimensions, in a row, whatever number is told as the first one. Where the box has all of the row, the
-- one range is the row; where it hasn't, they reach less far than a row is long.
record AreInRow (item : ℕ) (edges start shape : List ℕ) (form : Strided) (whole : Bool) : Type 0 where
  long : 0 < form.length
  lists : length form.counts ≡ length form.strides
  many : (f : ℕ) → length (begins f form.counts form.strides) * form.length ≡ product shape * item
  goes : (f number byte : ℕ) → number < length (begins f form.counts form.strides) → byte < form.length
      → (b : ℕ) × GoesTo item C edges start shape b (number * form.length + byte)
      × (get_or (begins f form.counts form.strides) number 0 + byte + form.first ≡ b + f)
  apart : (f : ℕ) → AllPairs (λ one later. one + form.length < later) (begins f form.counts form.strides)
  lie : (f n : ℕ) → Contains (begins f form.counts form.strides) n
      → (f ≤ n) × (n + form.length + form.first ≤ product edges * item + f) × (whole ≡ false → n + form.length < f + product edges * item)
  all : whole ≡ true → form ≡ one_range 0 (product edges * item)

-- two numbers of rows, and of bytes in a row, are alike where they count as many bytes
rows_alike : (item a x b y : ℕ) → x < item → y < item → a * item + x ≡ b * item + y → (a ≡ b) × (x ≡ y)
rows_alike item a x b y small also same =
    ⊎_elim (λ (less : a < b). let row = row_fits a item b item less (omega arith) in absurd (omega arith))
    (λ (le : b ≤ a).
    ⊎_elim (λ (less : b < a). let row = row_fits b item a item less (omega arith) in absurd (omega arith))
    (λ (ge : a ≤ b). let one : a ≡ b = omega arith in let row = ap (λ m. m * item) one in (one, omega arith)) (cases_lt b a))
    (cases_lt a b)

place_below : (start shape index : List ℕ) → AreWithin start shape index → place_within start shape index < product shape
place_below [] [] [] within = omega arith
place_below (s ∷ start) (n ∷ shape) (i ∷ index) within =
    let rest = place_below start shape index within.2 in
    let row = row_fits (i - s) (product shape) n (product shape) (omega arith) (omega arith) in
    omega arith
place_below _ _ _ within = absurd within

-- no other element of a box is at its place
place_once : (start shape one other : List ℕ) → AreWithin start shape one → AreWithin start shape other
    → place_within start shape one ≡ place_within start shape other → one ≡ other
place_once [] [] [] [] within also same = refl
place_once (s ∷ start) (n ∷ shape) (i ∷ one) (j ∷ other) within also same =
    let (row, rest) = rows_alike (product shape) (i - s) _ (j - s) _ (place_below start shape one within.2) (place_below start shape other also.2) same in
    ap₂ (λ m ms. m ∷ ms) (omega arith) (place_once start shape one other within.2 also.2 rest)
place_once _ _ _ _ within also same = absurd assumption

module _ (item : ℕ) (edges start shape : List ℕ) (form : Strided) (whole : Bool) (row : AreInRow item edges start shape form whole) where
  has_those : (f byte : ℕ) → HasByte form.length (begins f form.counts form.strides) byte
      ↔ ((b : ℕ) × IsByteIn item C edges start shape b × (byte + form.first ≡ b + f))
  has_those f byte = (
    λ (n, (k, small, is), low, high).
        let (b, goes, at) = row.goes f k (byte - n) small (omega arith) in
        let same = get_or_default xs k n 0 small in
        (b, (goes.index, goes.within, (omega (arith, goes.in_chunk), omega (arith, goes.in_chunk, goes.of_element))), omega (arith, is, same, at)),
    λ (b, (index, within, (low, high)), at).
        let part = b - place edges index * item in
        let to = place_within start shape index * item + part in
        let few = row_fits (place_within start shape index) item (product shape) item (place_below start shape index within) (omega arith) in
        let sum = div-add-mod' to form.length in
        let long = mod-lt to row.long in
        let less : to / form.length < length xs = (div-lt_iff_lt-mul row.long).1 (omega (arith, few, row.many f, high)) in
        let (c, goes, here) = row.goes f (to / form.length) (to % form.length) less long in
        let (one, bytes) = rows_alike item _ _ _ _ goes.of_element (omega (arith, high)) (sym goes.in_box ∙ sum) in
        let same = place_once start shape goes.index index goes.within within one in
        let places = ap (λ x. place edges x * item) same in (
          get_or xs (to / form.length) 0,
          Contains-get_or xs (to / form.length) 0 less,
          omega (arith, goes.in_chunk, places, bytes, here, at),
          omega (arith, goes.in_chunk, places, bytes, here, at, long),
        ),
  ) where
    xs : List ℕ
    xs = begins f form.counts form.strides

only : (m n : ℕ) → Contains (m ∷ []) n → n ≡ m
only m n (zero, small, is) = sym is
only m n (suc k, small, is) = absurd (omega arith)

module _ (item edge s n : ℕ) (edges start shape : List ℕ) where
  abbrev Row : ℕ
  Row = product edges * item

  -- a byte of an element goes to that of the element so many rows further on
  goes_on : (from to i : ℕ) → i < n → GoesTo item C edges start shape from to
      → GoesTo item C (edge ∷ edges) (s ∷ start) (n ∷ shape) (from + (s + i) * Row) (to + i * (product shape * item))
  goes_on from to i less goes =
      let steps : s + i - s ≡ i = omega arith in
      let in_chunk = add-mul ((s + i) * product edges) (place edges goes.index) item ∙ ap (λ m. m + place edges goes.index * item) (mul_assoc (s + i) (product edges) item) in
      let in_box = add-mul (i * product shape) (place_within start shape goes.index) item
      ∙ ap (λ m. m + place_within start shape goes.index * item) (mul_assoc i (product shape) item) in
      record {
        index = (s + i) ∷ goes.index;
        within = (omega arith, omega arith, goes.within);
        byte = goes.byte;
        of_element = goes.of_element;
        in_chunk = omega (arith, in_chunk, goes.in_chunk);
        in_box = rw steps (omega (arith, in_box, goes.in_box));
      }

  module _ (some : 0 < n) (within : s + n ≤ edge) where
    -- the box has all of each row
    all_of_rows : AreInRow item edges start shape (one_range 0 Row) true
        → AreInRow item (edge ∷ edges) (s ∷ start) (n ∷ shape) (one_range (0 + s * Row) (n * Row)) (n == edge)
    all_of_rows was =
        let any = was.long in
        let as_many : Row ≡ product shape * item = omega (arith, was.many 0) in
        let outer = mul_assoc edge (product edges) item in
        let rows = mul-le-mul_right Row within in
        let split = add-mul s n Row in
        let long = row_fits 0 Row n Row some (omega arith) in
        record {
          long = omega arith;
          lists = refl;
          many = λ f. omega (arith, ap (λ m. n * m) as_many ∙ sym (mul_assoc n (product shape) item));
          goes = λ f number byte only_one less.
              let sum = div-add-mod' byte Row in
              let i = byte / Row in
              let few : i < n = (div-lt_iff_lt-mul any).1 less in
              let (b, inner, is) = was.goes 0 0 (byte % Row) (omega arith) (mod-lt byte any) in
              let row : i * (product shape * item) ≡ i * Row = ap (λ m. i * m) (sym as_many) in
              let none : number ≡ 0 = omega (arith, only_one) in
              let start_row = add-mul s i Row in (
                b + (s + i) * Row,
                rw none (subst (GoesTo item C (edge ∷ edges) (s ∷ start) (n ∷ shape) (b + (s + i) * Row)) (omega (arith, sum, row)) (goes_on b (0 * Row + byte % Row) i few inner)),
                rw none (omega (arith, sum, is, start_row)),
              );
          apart = λ f i j d less within. absurd (omega arith);
          lie = λ f m has.
              let at = only f m has in (
                omega arith,
                omega arith,
                λ is.
                    let fewer : n < edge = lt_of_le-ne (omega arith) (false-eqb n edge (sym is)) in
                    let less = row_fits n Row edge Row fewer (omega arith) in
                    omega arith,
              );
          all = λ is.
              let equal : n ≡ edge = eqb-true n edge is in
              let at : s ≡ 0 = omega arith in
              let none : 0 + 0 * Row ≡ 0 = omega arith in
              ap₂ one_range (ap (λ k. 0 + k * Row) at ∙ none) (ap (λ k. k * Row) equal ∙ sym outer);
        }

    -- it has a part of each
    part_of_rows : (form : Strided) → AreInRow item edges start shape form false
        → AreInRow item (edge ∷ edges) (s ∷ start) (n ∷ shape) (along Row s n false form) false
    part_of_rows form was =
        let outer = mul_assoc edge (product edges) item in
        record {
          long = was.long;
          lists = ap suc was.lists;
          many = λ f.
              let xs = begins f form.counts form.strides in
              ap (λ m. m * form.length) (repeated_length Row xs n) ∙ mul_assoc n (length xs) form.length ∙ ap (λ m. n * m) (was.many f)
              ∙ sym (mul_assoc n (product shape) item);
          goes = λ f number byte less of_range.
              let xs = begins f form.counts form.strides in
              let (i, j, few, within_row, is, there) = at_repeated Row xs n number less in
              let (b, inner, at) = was.goes f j byte within_row of_range in
              let rows : number * form.length ≡ i * (product shape * item) + j * form.length =
              ap (λ m. m * form.length) is ∙ add-mul (i * length xs) j form.length
              ∙ ap (λ m. m + j * form.length) (mul_assoc i (length xs) form.length ∙ ap (λ m. i * m) (was.many f)) in
              let start_row = add-mul s i Row in (
                b + (s + i) * Row,
                subst (GoesTo item C (edge ∷ edges) (s ∷ start) (n ∷ shape) (b + (s + i) * Row)) (omega (arith, rows)) (goes_on b (j * form.length + byte) i few inner),
                omega (arith, there, at, start_row),
              );
          apart = λ f. repeated_apart Row (begins f form.counts form.strides) form.length f (was.apart f)
              (λ m has. let (from, _, short) = was.lie f m has in (from, short refl)) n;
          lie = λ f m has.
              let (k, x, less, among, is) = in_repeated Row (begins f form.counts form.strides) n m has in
              let (from, to, short) = was.lie f x among in
              let reach = short refl in
              let sum = add-mul s k Row in
              let room = row_fits (s + k) Row edge Row (omega arith) (omega arith) in
              (omega arith, omega arith, λ _. omega arith);
          all = λ not. absurd (true≢false (sym not));
        }

    one_more : (form : Strided) (whole : Bool) → AreInRow item edges start shape form whole
        → AreInRow item (edge ∷ edges) (s ∷ start) (n ∷ shape) (along Row s n whole form) (whole && (n == edge))
    one_more form true was =
        let same = was.all refl in
        subst (λ f. AreInRow item (edge ∷ edges) (s ∷ start) (n ∷ shape) (along Row s n true f) (n == edge)) (sym same)
        (all_of_rows (subst (λ f. AreInRow item edges start shape f true) same was))
    one_more form false was = part_of_rows form was

-- ---- what the form means

module _ (item : ℕ) (any_item : 0 < item) where
  -- the one range of an element
  one_element : AreInRow item [] [] [] (one_range 0 item) true
  one_element =
      let single : 1 * item ≡ item = omega arith in
      record {
        long = any_item;
        lists = refl;
        many = λ f. omega arith;
        goes = λ f number byte only_one less.
            let none : number ≡ 0 = omega (arith, only_one) in (
              byte,
              record { index = []; within = tt; byte = byte; of_element = less; in_chunk = omega arith; in_box = rw none (omega arith) },
              rw none (omega arith),
            );
        apart = λ f i j d less within. absurd (omega arith);
        lie = λ f n has. let at : n ≡ f = only f n has in (omega arith, omega arith, λ not. absurd (true≢false not));
        all = λ _. ap (one_range 0) (sym single);
      }

  strided_rows : (start shape edges : List ℕ) → EndWithin start shape edges → (¬ Contains shape 0)
      → AreInRow item edges start shape (strided item edges start shape) (has_all edges shape)
  strided_rows [] [] [] lies some = one_element
  strided_rows (s ∷ start) (n ∷ shape) (edge ∷ edges) (ends, lies) some =
      one_more item edge s n edges start shape (head_some n shape some) ends (strided item edges start shape) (has_all edges shape)
      (strided_rows start shape edges lies (tail_some n shape some))
  strided_rows _ _ _ lies some = absurd assumption

  module _ (order : MemoryOrder) (edges start shape : List ℕ) where
    abbrev Ordered : Strided
    Ordered = strided item (in_order order edges) (in_order order start) (in_order order shape)

    -- these ranges are found, and none begins past the greatest number
    abbrev AreTold : Option ByteRanges → Type 0
    AreTold found =
        FindsRanges item order edges start shape found
        × IfSome found (λ ranges. ¬ HasPast (begins ranges.first ranges.counts.items ranges.strides.items))

    of_full : EndWithin start shape edges → (¬ Contains shape 0) → product edges * item ≤ greatest → (ranges : ByteRanges)
        → form_of ranges ≡ Ordered → AreTold (Some ranges)
    of_full lies some fits ranges is =
        let all = rw (← is) at (strided_rows _ _ _ (ends_in_order order start shape edges lies) (some_in_order order shape some)) in
        let same = ap (λ n. n * item) (product_in_order order edges) in (
          record {
            lies = lies;
            counted = λ _. fits;
            lists = all.lists;
            none = λ empty. absurd (some empty);
            some = λ _. all.long;
            are_ranges = ranges_in_order item order edges start shape ranges.length _ (record {
              those = λ byte. (
                λ inside. (has_those item _ _ _ _ _ all ranges.first byte).1 (byte, inside, refl),
                λ has.
                    let (b, inside, at) = (has_those item _ _ _ _ _ all ranges.first byte).0 has in
                    let here : b ≡ byte = omega arith in
                    rw (← here) inside,
              );
              apart = all.apart ranges.first;
              in_turn = λ number byte less of_range.
                  let (b, goes, at) = all.goes ranges.first number byte less of_range in
                  subst (λ from. GoesTo item C (in_order order edges) (in_order order start) (in_order order shape) from (number * ranges.length + byte)) (omega arith)
                  goes;
            });
          },
          λ (n, among, past). let (low, high, _) = all.lie ranges.first n among in omega arith,
        )

    of_empty : EndWithin start shape edges → Contains shape 0 → (ranges : ByteRanges) → form_of ranges ≡ no_ranges → AreTold (Some ranges)
    of_empty lies empty ranges is =
        let none : begins ranges.first ranges.counts.items ranges.strides.items ≡ [] = ap (λ f. begins f.first f.counts f.strides) is in (
          record {
            lies = lies;
            counted = λ some. absurd (some empty);
            lists = subst (λ f. length f.counts ≡ length f.strides) (sym is) refl;
            none = λ _. none;
            some = λ some. absurd (some empty);
            are_ranges = rw none (record {
              those = λ byte. (
                λ (index, within, _). absurd (not_empty_if_inside start shape index within empty),
                λ (n, (k, small, is), _, _). absurd (omega arith),
              );
              apart = λ i j d less within. absurd (omega arith);
              in_turn = λ number byte less of_range. absurd (omega arith);
            });
          },
          rw none (λ (n, (k, small, is), past). absurd (omega arith)),
        )

    -- by what the three tests say
    told : (lies empty fits : Bool) → (lies ≡ true) ↔ EndWithin start shape edges → (empty ≡ true) ↔ Contains shape 0
        → (fits ≡ true) ↔ (product edges * item ≤ greatest) → (found : Option ByteRanges)
        → option_map form_of found ≡ cond lies (cond empty (Some no_ranges) (cond fits (Some Ordered) None)) None → AreTold found
    told false empty fits L E F None same = (inl (λ lies. true≢false (sym (L.1 lies))), tt)
    told true false false L E F None same =
        (inr (λ has. true≢false (sym (E.1 has)), ⊎_elim (λ past. past) (λ le. absurd (true≢false (sym (F.1 le)))) (cases_lt greatest (product edges * item))), tt)
    told true true fits L E F (Some ranges) same = of_empty (L.0 refl) (E.0 refl) ranges (same_Some (form_of ranges) no_ranges same)
    told true false true L E F (Some ranges) same =
        of_full (L.0 refl) (λ has. true≢false (sym (E.1 has))) (F.0 refl) ranges (same_Some (form_of ranges) Ordered same)
    told _ _ _ L E F _ same = cc

    pub form_tells : (found : Option ByteRanges) → option_map form_of found ≡ ranges_of item order edges start shape → AreTold found
    form_tells =
        told (lies_in start shape edges) (has_zero shape) (nat_le (product edges * item) greatest) (lies_tells start shape edges) (zero_tells shape)
        (leb-true (product edges * item) greatest, le-leb (product edges * item) greatest)

-- ---- a box in a chunk, dimension by dimension

-- along each dimension the box has some of the chunk, so that the chunk has no fewer elements than a row of it
inner_fewer : (start shape edges : List ℕ) (d : ℕ) → EndWithin start shape edges → (¬ Contains shape 0)
    → product (drop d edges) ≤ product edges
inner_fewer start shape edges zero within some = omega arith
inner_fewer [] [] [] (suc d) within some = omega arith
inner_fewer (s ∷ start) (n ∷ shape) (edge ∷ edges) (suc d) (ends, within) some =
    let any = head_some n shape some in
    let rest = inner_fewer start shape edges d within (tail_some n shape some) in
    let more = row_fits 0 (product edges) edge (product edges) (omega arith) (omega arith) in
    omega arith
inner_fewer _ _ _ (suc d) within some = absurd assumption

-- where the bytes of some rows aren't counted, those of the chunk aren't
pub too_long : (item : ℕ) (start shape edges : List ℕ) → EndWithin start shape edges → (¬ Contains shape 0) → (d row : ℕ) → d < length edges
    → row ≡ product (drop (suc d) edges) * item → greatest < get_or edges d 0 * row → greatest < product edges * item
too_long item start shape edges within some d row below is past =
    let rows : product (drop d edges) * item ≡ get_or edges d 0 * row =
    ap (λ ns. product ns * item) (drop-cons edges d 0 below) ∙ mul_assoc (get_or edges d 0) (product (drop (suc d) edges)) item
    ∙ ap (λ n. get_or edges d 0 * n) (sym is)
    in
    let fewer = mul-le-mul_right item (inner_fewer start shape edges d within some) in
    omega arith

-- along each dimension: the box has some, and ends within the chunk
pub at_each : (start shape edges : List ℕ) (d : ℕ) → EndWithin start shape edges → (¬ Contains shape 0) → d < length edges
    → (0 < get_or shape d 0) × (get_or start d 0 + get_or shape d 0 ≤ get_or edges d 0)
at_each (s ∷ start) (n ∷ shape) (edge ∷ edges) zero within some below = (head_some n shape some, within.0)
at_each (s ∷ start) (n ∷ shape) (edge ∷ edges) (suc d) within some below =
    at_each start shape edges d within.1 (tail_some n shape some) (omega arith)
at_each [] [] [] d within some below = absurd (omega arith)
at_each _ _ _ d within some below = absurd assumption
