use Rattle.prefix_batches.proofs.Bounds.{total_some, total_within}
use Rattle.prefix_batches.proofs.laws.total_is_within.Goals as goal

pub returns : goal.returns
returns c = λ n cap some wide. (total_some n cap some wide, total_within n cap some wide)
