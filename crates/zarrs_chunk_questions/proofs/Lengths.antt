-- How long the texts of trees are at least.
use Rattle.std.proofs.Common.{◌≡◌, ℕ, zero, suc, ◌+◌, ◌*◌, ◌<◌, ◌≤◌, ◌/◌, ◌%◌, ◌==◌, Bool, true, false, if◌then◌else◌, IfSome, List, [], ◌∷◌, ◌++◌}
use Rattle.std.proofs.Common.{codes, arith, decimal, length, length-append, map}
use Rattle.std.specs.Fmt.{digit_glyph, digits, digits_onto}
use Rattle.std.specs.List.{AllByRecursion}
use Rattle.serde_json.specs.Data.{Data, Members, array, boolean, member, no_members, object, string}
use Rattle.serde_json.specs.View.{items_of}
use Rattle.serde_json.specs.Written.{comma_if, compact_text, items_text, members_text}
use Rattle.streams.specs.OneLine.{line_break, line_of, long_break, unbroken, unbroken_behind, written}
use Rattle.zarrs_chunk_base.specs.ArraySubset.{Box}
use Rattle.zarrs_chunk_base.specs.Json.{size_tree}
use Rattle.zarrs_chunk_questions.specs.Pages.{page_tree}
use Rattle.zarrs_chunk_questions.specs.Trees.{box_tree, numbers_tree}

abbrev pub text_long : Data → ℕ
text_long d = length (compact_text d)

-- ---- a number has a digit

either_long : (b : Bool) (n : ℕ) (xs ys : List ℕ) → n ≤ length xs → n ≤ length ys → n ≤ length (if b then xs else ys)
either_long true n xs ys one other = one
either_long false n xs ys one other = other

digits_long : (k base : ℕ) (upper : Bool) (n : ℕ) (digits : List ℕ) → length digits ≤ length (digits_onto k base upper n digits)
digits_long zero base upper n digits = omega arith
digits_long (suc k) base upper n digits =
    let more = digit_glyph upper (n % base) ∷ digits in
    let rest = digits_long k base upper (n / base) more in
    either_long (n / base == 0) (length digits) more (digits_onto k base upper (n / base) more) (omega arith) (omega arith)

some_digit : (n : ℕ) → 1 ≤ length (decimal n)
unfolding digits
some_digit n =
    let one = digit_glyph false (n % 10) ∷ [] in
    either_long (n / 10 == 0) 1 one (digits_onto 63 10 false (n / 10) one) (omega arith) (digits_long 63 10 false (n / 10) one)

-- ---- lists

-- the texts of items, each with a byte that follows it
abbrev pub texts : List Data → ℕ
texts [] = 0
texts (d ∷ ds) = 1 + text_long d + texts ds

items_long : (ds : List Data) → texts ds + 1 ≤ length (items_text true (items_of ds))
items_long [] = omega arith
items_long (d ∷ ds) =
    let rest = items_long ds in
    let both = length-append (compact_text d) (items_text true (items_of ds)) in
    omega arith

pub array_long : (ds : List Data) → texts ds + 1 ≤ text_long (array (items_of ds))
array_long [] = omega arith
array_long (d ∷ ds) =
    let rest = items_long ds in
    let both = length-append (compact_text d) (items_text true (items_of ds)) in
    omega arith

-- so many items of a length
pub each_long : (least : ℕ) (ds : List Data) → AllByRecursion (λ d. least ≤ text_long d) ds → length ds * least ≤ texts ds
each_long least [] all = omega arith
each_long least (d ∷ ds) all =
    let rest = each_long least ds all.1 in
    let here = all.0 in
    let more : length (d ∷ ds) * least ≡ least + length ds * least = omega arith in
    omega arith

numbers_texts : (xs : List ℕ) → 2 * length xs ≤ texts (map size_tree xs)
numbers_texts [] = omega arith
numbers_texts (x ∷ xs) = let rest = numbers_texts xs in let here = some_digit x in omega arith

pub numbers_long : (xs : List ℕ) → 2 * length xs + 1 ≤ text_long (numbers_tree xs)
numbers_long xs = let all = numbers_texts xs in let long = array_long (map size_tree xs) in omega arith

pub box_long : (b : Box) → 2 * (length b.start + length b.shape) + 1 ≤ text_long (box_tree b)
box_long b =
    let start = numbers_long b.start in
    let shape = numbers_long b.shape in
    let long = array_long (numbers_tree b.start ∷ numbers_tree b.shape ∷ []) in
    omega arith

-- ---- objects

pub member_long : (later : Bool) (k : List ℕ) (d : Data) (ms : Members)
    → text_long d + length (members_text true ms) ≤ length (members_text later (member k d ms))
member_long later k d ms =
    let value = length-append (compact_text d) (members_text true ms) in
    behind_long (comma_if later) (compact_text (string k)) (58 ∷ (compact_text d ++ members_text true ms)) (text_long d + length (members_text true ms)) (omega arith)
  where
    behind_long : (comma name value : List ℕ) (n : ℕ) → n ≤ length value → n ≤ length (comma ++ (name ++ value))
    behind_long comma name value n le =
        let one = length-append comma (name ++ value) in let other = length-append name value in omega arith

pub first_member_long : (k : List ℕ) (d : Data) (ms : Members) → text_long d ≤ text_long (object (member k d ms))
first_member_long k d ms = let long = member_long false k d ms in omega arith

pub page_long : (items : List Data) (more : Bool) → texts items ≤ text_long (page_tree items more)
page_long items more =
    let long = array_long items in
    let first : text_long (array (items_of items)) ≤ text_long (page_tree items more) =
    first_member_long (codes "items") (array (items_of items)) (member (codes "more") (boolean more) no_members)
    in
    omega arith

-- a list of numbers and two boxes
pub three_long : (n : ℕ) (k l m : List ℕ) (xs : List ℕ) (b other : Box) (ms : Members) → length xs ≡ n → length b.start ≡ n → length b.shape ≡ n
    → length other.start ≡ n → length other.shape ≡ n
    → 2 * (5 * n) + 1 ≤ text_long (object (member k (numbers_tree xs) (member l (box_tree b) (member m (box_tree other) ms))))
three_long n k l m xs b other ms e f g h i =
    let numbers = numbers_long xs in
    let one = box_long b in
    let two = box_long other in
    let third = member_long true m (box_tree other) ms in
    let second = member_long true l (box_tree b) (member m (box_tree other) ms) in
    let first = member_long false k (numbers_tree xs) (member l (box_tree b) (member m (box_tree other) ms)) in
    omega arith

-- ---- lines

few_behind : (a : ℕ) (bytes : List ℕ) → IfSome (long_break a bytes) (λ escaped. escaped.1 ≤ 2)
few_behind a [] = tt
few_behind a (b ∷ []) = grind arith
few_behind a (b ∷ c ∷ bytes) = grind arith

escaped_long : (a : ℕ) (bytes : List ℕ) → 1 + (written a (line_break a bytes)).1 ≤ length (written a (line_break a bytes)).0
escaped_long a bytes = let few = few_behind a bytes in grind arith

unbroken_long : (more : ℕ) (bytes : List ℕ) → length bytes ≤ more + length (unbroken_behind more bytes)
unbroken_long more [] = omega arith
unbroken_long (suc more) (a ∷ bytes) = let rest = unbroken_long more bytes in omega arith
unbroken_long zero (a ∷ bytes) =
    let here = escaped_long a bytes in
    let rest = unbroken_long (written a (line_break a bytes)).1 bytes in
    let both = length-append (written a (line_break a bytes)).0 (unbroken_behind (written a (line_break a bytes)).1 bytes) in
    omega arith

-- the line of a text is longer than the text
pub line_long : (text : List ℕ) → length text < length (line_of text)
line_long text =
    let long = unbroken_long 0 text in
    let both = length-append (unbroken text) (10 ∷ []) in
    omega arith
