-- The numeral that a text begins with, up to a byte that is no digit.
use Rattle.std.proofs.Common.{◌≡◌, ◌≢◌, ◌∙◌, ℕ, ◌+◌, ◌*◌, ◌<◌, ◌≤◌, List, [], ◌∷◌, ◌++◌, ap, append_assoc, length, length-append, refl, subst, sym}
use Rattle.std.proofs.Common.{arith}
use Rattle.zarrs_chunk_base.specs.Greatest.{AllFit, greatest}
use Rattle.zarrs_chunk_keys.specs.Numeral.{IsNumeral, IsNumerals, digit, more_digits, one_digit}
use Rattle.zarrs_chunk_keys.specs.lemmas.Numerals.{same_number}
use Rattle.zarrs_chunk_keys.specs.lemmas.Parts.{EndsBefore, tails}
use Rattle.zarrs_chunk_keys.proofs.NumeralDigits.{AreDigits, begins, goes_on, numeral_is_digits, some_digit, zero_alone}

-- digits up to the byte are known
pub same_digits : (b : ℕ) (s t x y : List ℕ) → b < 48 → AreDigits s → AreDigits t → s ++ x ≡ t ++ y → EndsBefore b x
    → EndsBefore b y → (s ≡ t) × (x ≡ y)
same_digits b [] [] x y low are also same ends other = (refl, same)
same_digits b [] (d ∷ t) [] y low are also same ends other = cc
same_digits b [] (d ∷ t) (c ∷ x) y low are also same ends other =
    let here : c ≡ d = cc in let least = also.0.least in absurd (omega arith)
same_digits b (d ∷ s) [] x [] low are also same ends other = cc
same_digits b (d ∷ s) [] x (c ∷ y) low are also same ends other =
    let here : d ≡ c = cc in let least = are.0.least in absurd (omega arith)
same_digits b (d ∷ s) (e ∷ t) x y low are also same ends other =
    let first : d ≡ e = cc in
    let behind : s ++ x ≡ t ++ y = cc in
    let (digits, rest) = same_digits b s t x y low are.1 also.1 behind ends other in
    (cc, rest)

-- where other than the byte stands behind digits, a numeral goes on
pub reaches_past : (b : ℕ) (front : List ℕ) (c : ℕ) (behind numeral rest : List ℕ) → b < 48 → c ≢ b → AreDigits front
    → front ++ c ∷ behind ≡ numeral ++ rest → EndsBefore b rest → (more : List ℕ) × (numeral ≡ front ++ c ∷ more)
reaches_past b [] c behind [] [] low other are same ends = cc
reaches_past b [] c behind [] (e ∷ rest) low other are same ends = let here : c ≡ e = cc in absurd (other (here ∙ ends))
reaches_past b [] c behind (d ∷ numeral) rest low other are same ends = let here : d ≡ c = cc in (numeral, ap (λ x. x ∷ numeral) here)
reaches_past b (x ∷ front) c behind [] [] low other are same ends = cc
reaches_past b (x ∷ front) c behind [] (e ∷ rest) low other are same ends =
    let here : x ≡ e = cc in let least = are.0.least in absurd (omega arith)
reaches_past b (x ∷ front) c behind (d ∷ numeral) rest low other are same ends =
    let here : d ≡ x = cc in
    let next : front ++ c ∷ behind ≡ numeral ++ rest = cc in
    let (more, is) = reaches_past b front c behind numeral rest low other are.1 next ends in
    (more, cc)

-- the numeral of 0 is 0 alone
zero_front : (m : ℕ) (front : List ℕ) → IsNumeral m front → m ≡ 0 → front ≡ 48 ∷ []
zero_front m front (one_digit small is) zero = is ∙ ap (λ n. digit n ∷ []) zero
zero_front m front (more_digits before positive small value is) zero = absurd (omega arith)

-- 0 doesn't go on
pub zero_ends : (b m n c : ℕ) (front behind numeral rest : List ℕ) → b < 48 → c ≢ b → IsNumeral m front → m ≡ 0 → IsNumeral n numeral
    → front ++ c ∷ behind ≡ numeral ++ rest → ¬ EndsBefore b rest
zero_ends b m n c front behind numeral rest low other before zero is same ends =
    let (more, longer) = reaches_past b front c behind numeral rest low other (numeral_is_digits m front before) same ends in
    let alone = zero_front m front before zero in
    let none = zero_alone n numeral (c ∷ more) is (longer ∙ ap (λ t. t ++ c ∷ more) alone) in
    let lengths = ap length none in
    absurd (omega arith)

-- a further digit is that of a number that isn't less
pub further : (b m n c : ℕ) (front behind numeral rest : List ℕ) → b < 48 → c ≢ b → IsNumeral m front → IsNumeral n numeral
    → front ++ c ∷ behind ≡ numeral ++ rest → EndsBefore b rest → (d : ℕ) × (d < 10) × (c ≡ digit d) × (10 * m + d ≤ n)
further b m n c front behind numeral rest low other before is same ends =
    let (more, longer) = reaches_past b front c behind numeral rest low other (numeral_is_digits m front before) same ends in
    goes_on m n c front more before (subst (IsNumeral n) longer is)

-- the first byte of a numeral is a digit
pub begins_text : (n c : ℕ) (others numeral rest : List ℕ) → IsNumeral n numeral → c ∷ others ≡ numeral ++ rest → (d : ℕ) × (d < 10) × (c ≡ digit d)
begins_text n c others [] rest is same = absurd (some_digit n is)
begins_text n c others (e ∷ numeral) rest is same =
    let here : c ≡ e = cc in
    let (d, small, is_digit) = begins n e numeral is in
    (d, small, here ∙ is_digit)

ends : (b : ℕ) (numbers text : List ℕ) → IsNumerals b numbers text → EndsBefore b text
ends b [] text none = rw none tt
ends b (n ∷ numbers) text (numeral, rest, is, are, same) = rw same refl

-- numerals begin with the numeral that their text begins with
pub first_is : (b n : ℕ) (numeral tail rest : List ℕ) (numbers : List ℕ) → b < 48 → IsNumeral n numeral → rest ≡ numeral ++ tail → EndsBefore b tail
    → IsNumerals b numbers (b ∷ rest) → (others : List ℕ) × (numbers ≡ n ∷ others) × IsNumerals b others tail
first_is b n numeral tail rest [] low is begins stops none = cc
first_is b n numeral tail rest (m ∷ numbers) low is begins stops (other, behind, also, are, same) =
    let alike : numeral ++ tail ≡ other ++ behind = sym begins ∙ tails same in
    let (digits, texts) = same_digits b numeral other tail behind low (numeral_is_digits n numeral is) (numeral_is_digits m other also) alike stops
    (ends b numbers behind are) in
    let number : m ≡ n = same_number m n other also (subst (IsNumeral n) digits is) in
    (numbers, ap (λ k. k ∷ numbers) number, subst (IsNumerals b numbers) (sym texts) are)

-- the numbers were read of a text, up to the rest: numerals of the rest are behind theirs, and all numerals of the text begin with theirs
pub record AreRead (b : ℕ) (text rest numbers : List ℕ) : Type 0 where
  pub to : (more : List ℕ) → IsNumerals b more (b ∷ rest) → IsNumerals b (numbers ++ more) (b ∷ text)
  pub from : (all : List ℕ) → IsNumerals b all (b ∷ text) → (more : List ℕ) × (all ≡ numbers ++ more) × IsNumerals b more (b ∷ rest)

pub one_read : (b n : ℕ) (text rest numeral others numbers more : List ℕ) → b < 48 → AreRead b text rest numbers → IsNumeral n numeral
    → rest ≡ numeral ++ b ∷ others → more ≡ numbers ++ n ∷ [] → AreRead b text others more
one_read b n text rest numeral others numbers more low so_far is begins longer = rw longer (record {
  to = λ ns are.
      subst (λ xs. IsNumerals b xs (b ∷ text)) (sym (append_assoc numbers (n ∷ []) ns))
      (so_far.to (n ∷ ns) (numeral, b ∷ others, is, are, ap (λ t. b ∷ t) begins));
  from = λ all are.
      let (behind, same, behind_are) = so_far.from all are in
      let (ns, first, ns_are) = first_is b n numeral (b ∷ others) rest behind low is begins refl behind_are in
      (ns, same ∙ ap (λ xs. numbers ++ xs) first ∙ sym (append_assoc numbers (n ∷ []) ns), ns_are);
})

-- where the rest is one numeral, all were read with it
pub last_read : (b n : ℕ) (text rest numeral numbers more : List ℕ) → AreRead b text rest numbers → IsNumeral n numeral → rest ≡ numeral ++ []
    → more ≡ numbers ++ n ∷ [] → IsNumerals b more (b ∷ text)
last_read b n text rest numeral numbers more so_far is begins longer =
    subst (λ xs. IsNumerals b xs (b ∷ text)) (sym longer) (so_far.to (n ∷ []) (numeral, [], is, refl, ap (λ t. b ∷ t) begins))

no_others : (b : ℕ) (numbers : List ℕ) → IsNumerals b numbers [] → numbers ≡ []
no_others b [] none = refl
no_others b (n ∷ numbers) (numeral, rest, is, are, same) = cc

pub no_more : (b n : ℕ) (text rest numeral numbers all : List ℕ) → b < 48 → AreRead b text rest numbers → IsNumeral n numeral → rest ≡ numeral ++ []
    → IsNumerals b all (b ∷ text) → length all ≡ length numbers + 1
no_more b n text rest numeral numbers all low so_far is begins are =
    let (behind, same, behind_are) = so_far.from all are in
    let (ns, first, ns_are) = first_is b n numeral [] rest behind low is begins tt behind_are in
    let alone = no_others b ns ns_are in
    let one : behind ≡ n ∷ [] = first ∙ ap (λ xs. n ∷ xs) alone in
    ap length same ∙ ap (λ xs. length (numbers ++ xs)) one ∙ length-append numbers (n ∷ [])

fits_behind : (numbers : List ℕ) (n : ℕ) (behind : List ℕ) → AllFit (numbers ++ n ∷ behind) → n ≤ greatest
fits_behind [] n behind fit = fit.0
fits_behind (m ∷ numbers) n behind fit = fits_behind numbers n behind fit.1

-- where the rest begins with no numeral of a number that fits, there are no such numbers
pub none_reads : (b : ℕ) (text rest numbers all : List ℕ) → AreRead b text rest numbers
    → ((n : ℕ) (numeral behind : List ℕ) → n ≤ greatest → IsNumeral n numeral → rest ≡ numeral ++ behind → ¬ EndsBefore b behind)
    → AllFit all → ¬ IsNumerals b all (b ∷ text)
none_reads b text rest numbers all so_far none fit are =
    let (behind, same, behind_are) = so_far.from all are in no_first b rest numbers behind none (subst AllFit same fit) behind_are
  where
    no_first : (b : ℕ) (rest numbers behind : List ℕ)
        → ((n : ℕ) (numeral behind : List ℕ) → n ≤ greatest → IsNumeral n numeral → rest ≡ numeral ++ behind → ¬ EndsBefore b behind)
        → AllFit (numbers ++ behind) → ¬ IsNumerals b behind (b ∷ rest)
    no_first b rest numbers [] none fit are = cc
    no_first b rest numbers (n ∷ behind) none fit (numeral, others, is, are, same) =
        none n numeral others (fits_behind numbers n behind fit) is (tails same) (ends b behind others are)

-- so many numerals, each after a byte, take twice as many bytes at least
pub long_enough : (b : ℕ) (numbers text : List ℕ) → IsNumerals b numbers text → 2 * length numbers ≤ length text
long_enough b [] text none = omega arith
long_enough b (n ∷ numbers) text ([], rest, is, are, same) = absurd (some_digit n is)
long_enough b (n ∷ numbers) text (c ∷ numeral, rest, is, are, same) =
    let others = long_enough b numbers rest are in
    let lengths = ap length same in
    let sum = length-append numeral rest in
    omega arith

-- one more number that fits
pub fit_pushed : (numbers : List ℕ) (n : ℕ) → AllFit numbers → n ≤ greatest → AllFit (numbers ++ n ∷ [])
fit_pushed [] n fit fits = (fits, tt)
fit_pushed (m ∷ numbers) n fit fits = (fit.0, fit_pushed numbers n fit.1 fits)
