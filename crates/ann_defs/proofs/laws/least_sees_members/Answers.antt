use Rattle.ann_defs.proofs.Alike.{least_alike}
use Rattle.ann_defs.proofs.laws.least_sees_members.Goals as goal

pub returns : goal.returns
returns c = λ points query xs ys k a. least_alike points query xs ys k a
