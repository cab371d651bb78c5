use Rattle.ann_defs.proofs.Alike.{search_alike}
use Rattle.ann_defs.proofs.laws.search_sees_members.Goals as goal

pub returns : goal.returns
returns c = λ points row other query beam starts others same a. search_alike points query row other beam same starts others a
