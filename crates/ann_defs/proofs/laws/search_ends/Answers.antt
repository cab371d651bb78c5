use Rattle.ann_defs.proofs.Ends.{nothing_left}
use Rattle.ann_defs.proofs.laws.search_ends.Goals as goal

pub returns : goal.returns
returns c = λ points held row query beam starts. nothing_left points row query beam held starts
