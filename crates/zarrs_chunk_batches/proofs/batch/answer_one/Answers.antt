use Rattle.std.proofs.Common.{◌≡◌, ◌+◌, ◌-◌, ◌*◌, length, refl, rules, arith}
use Rattle.zarrs_chunk_batches.proofs.Batches.{list_at-other}
use Rattle.zarrs_chunk_batches.proofs.batch.answer_one.Goals as goal

pub returns-clause-other_first : goal.returns-clause-other_first
returns-clause-other_first g c =
    let room = c.requires.first_room in
    let long : length c.answer.new.first ≡ c.args.number * c.args.widths.0 + c.args.widths.0 - c.args.number * c.args.widths.0 = search rules in
    list_at-other c.args.widths.0 c.args.number _ _ c.args.first.now c.answer.new.first refl (omega arith) (omega arith) long

pub returns-clause-other_second : goal.returns-clause-other_second
returns-clause-other_second g c =
    let room = c.requires.second_room in
    let long : length c.answer.new.second ≡ c.args.number * c.args.widths.1 + c.args.widths.1 - c.args.number * c.args.widths.1 = search rules in
    list_at-other c.args.widths.1 c.args.number _ _ c.args.second.now c.answer.new.second refl (omega arith) (omega arith) long
