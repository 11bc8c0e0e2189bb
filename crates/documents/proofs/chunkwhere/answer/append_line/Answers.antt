use Rattle.std.proofs.Common.{◌++◌, codes, refl}
use Rattle.documents.specs.chunkwhere.Output.{found}
use Rattle.documents.proofs.chunkwhere.answer.append_line.Goals as goal

pub returns : goal.returns
returns g c =
    let (same_length, box, place) = rw c.if-not-branch.false at c.in_ok-find_home.ensures.answers in
    let (key, numbers, is_key, are_numerals, text) = c.in_ok-append_key_and_place.ensures in
    (same_length, key ++ numbers ++ codes "\n", found _ _ key numbers box place is_key are_numerals refl, text)
