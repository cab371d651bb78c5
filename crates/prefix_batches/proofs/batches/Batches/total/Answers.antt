use Rattle.std.proofs.Common.{◌≤◌, arith}
use Rattle.ann_defs.specs.BatchInsert.{total_of}
use Rattle.prefix_batches.proofs.Bounds.{total_within}
use Rattle.prefix_batches.proofs.batches.Batches.total.Goals as goal

pub returns-clause-bound : goal.returns-clause-bound
returns-clause-bound c =
    let within : total_of c.self.inside.n c.self.inside.cap ≤ c.self.inside.n = total_within c.self.inside.n c.self.inside.cap c.self.invariant.0 c.self.invariant.2 in
    rw (← c.self.view_is) (omega arith)
