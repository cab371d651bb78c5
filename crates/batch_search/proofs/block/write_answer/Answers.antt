use Rattle.std.proofs.Common.{◌<◌, length, arith}
use Rattle.std.proofs.lemmas.List.{take_more_set, length-set}
use Rattle.batch_search.proofs.block.write_answer.Goals as goal

pub loop-at-init : goal.loop-at-init
loop-at-init c =
    let out = c.args.out.now in
    let some : 0 < length out = omega arith in
    record {
      front = take_more_set out 0 (length c.args.nears.now) some;
      size = length-set out 0 (length c.args.nears.now);
    }
