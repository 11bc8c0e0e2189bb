use Rattle.programs.proofs.chunkplan.Common.{◌≡◌, ◌∙◌, ◌<◌, ◌≤◌, [], ◌∷◌, ◌++◌, ap, decimal, length, map, subst, sym, take, take_all, arith}
use Rattle.programs.proofs.chunkplan.Common.{map-append, take_more, end_array, number, Adds}
use Rattle.programs.proofs.chunkplan.Tokens.{nothing, numbers_tokens, then, wrote}
use Rattle.programs.proofs.chunkplan.line.write_list.Goals as goal

pub loop-number-init : goal.loop-number-init
loop-number-init c = nothing _

pub loop-number-preserved : goal.loop-number-preserved
loop-number-preserved c =
    let index = c.loop-number.number-index in
    let numbers = c.args.numbers.now in
    let within : index < length numbers = omega arith in
    let more = then _ _ _ _ _ c.loop-number.invariant (wrote _ _ _ c.in_ok-u64.ensures) in
    subst (Adds c.begin_array.new.self c.u64.new.self)
    (sym (ap (map (λ n. number (decimal n))) (take_more numbers index 0 within) ∙ map-append (λ n. number (decimal n)) _ _)) more

pub returns : goal.returns
returns c =
    let numbers = c.args.numbers.now in
    let index = c.loop-number.number-index in
    let past : length numbers ≤ index = omega arith in
    let all : take index numbers ≡ numbers = take_all index numbers past in
    let listed = then _ _ _ _ _ c.loop-number.invariant (wrote _ _ _ c.in_ok-end_array.ensures) in
    then _ _ _ _ _ (wrote _ _ _ c.in_ok-begin_array.ensures)
    (subst (Adds c.begin_array.new.self c.end_array.new.self)
    (ap (λ ns. map (λ n. number (decimal n)) ns ++ end_array ∷ []) all ∙ numbers_tokens numbers) listed)
