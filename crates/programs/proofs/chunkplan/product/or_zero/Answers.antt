use Rattle.programs.proofs.chunkplan.Common.{◌≡◌, length, rules, nil_from_length}
use Rattle.programs.proofs.chunkplan.Digits.{zero_written}
use Rattle.programs.proofs.chunkplan.product.or_zero.Goals as goal

pub returns : goal.returns
returns c = λ n has.
    let empty : length c.args.text.items ≡ 0 = search rules in
    zero_written n c.args.text.items c.push.new.self.items has (nil_from_length c.args.text.items empty) c.in_ok-push.ensures.items
