use Rattle.std.proofs.Common.{◌<◌, ◌≤◌, arith}
use Rattle.ann_defs.specs.BatchInsert.{bound_at, total_of}
use Rattle.prefix_batches.proofs.Bounds.{total_within, total_before, total_is}
use Rattle.prefix_batches.proofs.batches.count_batches.Goals as goal

pub overflow_add-count : goal.overflow_add-count
overflow_add-count c =
    let within : total_of c.args.n c.args.cap ≤ c.args.n = total_within c.args.n c.args.cap c.requires.points.0 c.requires.cap.0 in
    omega arith

pub loop-reached-preserved : goal.loop-reached-preserved
loop-reached-preserved c =
    let below : bound_at c.args.n c.args.cap c.loop-reached.count < c.args.n = omega arith in
    let more : c.loop-reached.count < total_of c.args.n c.args.cap = total_before c.args.n c.args.cap c.loop-reached.count c.requires.points.0 c.requires.cap.0 below in
    record {
      reached = c.bound_after-reached.ensures.next c.loop-reached.count c.loop-reached.invariant.reached;
      count = omega arith;
    }

pub returns : goal.returns
returns c = total_is c.args.n c.args.cap c.loop-reached.count c.requires.points.0 c.requires.cap.0 (omega arith) c.loop-reached.invariant.count
