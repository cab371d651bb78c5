use Rattle.ann_defs.proofs.Alike.{prune_alike}
use Rattle.ann_defs.proofs.laws.prune_sees_members.Goals as goal

pub returns : goal.returns
returns c = λ points p xs ys num den degree a. prune_alike points p xs ys num den degree a
