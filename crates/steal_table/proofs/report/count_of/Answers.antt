use Rattle.std.proofs.Common.{arith, get_or}
use lib.Dec.{eqb}
use Rattle.steal_table.proofs.Counts.{count_more, byte_most}
use Rattle.steal_table.proofs.report.count_of.Goals as goal

pub loop-task-preserved : goal.loop-task-preserved
loop-task-preserved c =
    let i = c.loop-task.invariant in
    record {
      count = count_more c.args.number c.loop-task.task c.loop-task.count c.from-count.result c.args.owners.now c.loop-task-test.true i.count c.from-count.ensures;
      most = omega (arith, i.most, byte_most (eqb (get_or c.args.owners.now c.loop-task.task 0) c.args.number) c.from-count.result c.from-count.ensures);
    }
