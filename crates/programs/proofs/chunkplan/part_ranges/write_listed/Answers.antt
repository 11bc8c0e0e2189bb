use Rattle.programs.proofs.chunkplan.Common.{◌≡◌, ◌∙◌, ◌<◌, ◌≤◌, [], ◌∷◌, ◌++◌, ap, length, subst, sym, take, take_all, arith, take_more, end_array}
use Rattle.programs.proofs.chunkplan.Common.{Adds}
use Rattle.programs.proofs.chunkplan.Tokens.{nothing, one_more_range, ranges_so_far, ranges_tokens, then, wrote}
use Rattle.programs.proofs.chunkplan.part_ranges.write_listed.Goals as goal

pub loop-start-init : goal.loop-start-init
loop-start-init c = nothing _

pub loop-start-preserved : goal.loop-start-preserved
loop-start-preserved c =
    let index = c.loop-start.start-index in
    let starts = c.args.starts.now in
    let within : index < length starts = omega arith in
    let more = then _ _ _ _ _ c.loop-start.invariant c.in_ok-write_list.ensures in
    subst (Adds c.begin_array.new.self c.write_list.new.json)
    (sym (ap (ranges_so_far c.args.length) (take_more starts index 0 within) ∙ one_more_range c.args.length (take index starts) _)) more

pub returns : goal.returns
returns c =
    let starts = c.args.starts.now in
    let index = c.loop-start.start-index in
    let past : length starts ≤ index = omega arith in
    let all : take index starts ≡ starts = take_all index starts past in
    let listed = then _ _ _ _ _ c.loop-start.invariant (wrote _ _ _ c.in_ok-end_array.ensures) in
    then _ _ _ _ _ (wrote _ _ _ c.in_ok-key.ensures)
    (then _ _ _ _ _ (wrote _ _ _ c.in_ok-begin_array.ensures)
    (subst (Adds c.begin_array.new.self c.end_array.new.self)
    (ap (λ ns. ranges_so_far c.args.length ns ++ end_array ∷ []) all ∙ ranges_tokens c.args.length starts) listed))
