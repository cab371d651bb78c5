use Rattle.prefix_batches.proofs.Bounds.{ended_from_total, ended_late}
use Rattle.prefix_batches.proofs.laws.bounds_end_at_total.Goals as goal

pub returns : goal.returns
returns c = λ n cap k some wide. (ended_late n cap k some wide, ended_from_total n cap k some wide)
