use Rattle.std.proofs.Common.{◌/◌, arith}
use Rattle.near_lists.proofs.Halving.{halved}
use Rattle.near_lists.proofs.list.place_of.Goals as goal

pub loop-left-preserved : goal.loop-left-preserved
loop-left-preserved c = halved c.args.list.now c.args.x c.requires.rises c.loop-left.low c.loop-left.left (c.loop-left.left / 2) c.is_before.result _ (omega arith) (omega arith) c.is_before.ensures c.loop-left.invariant
