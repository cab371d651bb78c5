use Rattle.std.proofs.Common.{refl}
use Rattle.ann_defs.proofs.LeastFirst.{prune_by_least}
use Rattle.ann_defs.proofs.laws.prune_takes_least.Goals as goal

pub returns : goal.returns
returns c = λ points p set num den r. (refl, prune_by_least points p set num den r)
