use Rattle.std.proofs.Common.{add-one}
use Rattle.prefix_batches.proofs.Bounds.{bound_within, bound_rises}
use Rattle.prefix_batches.proofs.laws.bounds_rise.Goals as goal

pub returns : goal.returns
returns c = λ n cap k some wide. (bound_within n cap k some, λ below. rw add-one (bound_rises n cap k some wide below))
