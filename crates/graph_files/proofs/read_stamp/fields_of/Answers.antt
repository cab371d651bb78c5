use Rattle.std.proofs.Common.{arith, ap, ◌∙◌, Some}
use Rattle.graph_files.proofs.StampLaws.{field_short}
use Rattle.graph_files.proofs.read_stamp.fields_of.Goals as goal

pub returns-then-front-at : goal.returns-then-front-at
returns-then-front-at c = ap Some c.short.ensures ∙ field_short c.args.ranges.now c.args.front.now c.loop-range.range-index c.loop-range.at _ (omega arith) c.loop-range.invariant.so_far (omega arith)
