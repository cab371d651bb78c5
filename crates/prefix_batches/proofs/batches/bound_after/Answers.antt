use Rattle.std.proofs.Common.{arith}
use Rattle.prefix_batches.proofs.Bounds.{bound_first}
use Rattle.prefix_batches.proofs.batches.bound_after.Goals as goal

pub returns-then-bound-eq0-clause-next : goal.returns-then-bound-eq0-clause-next
returns-then-bound-eq0-clause-next c = λ k e. bound_first c.args.n c.args.cap k c.args.bound (omega arith) (omega arith) e
