use Rattle.ann_defs.proofs.GoodGraphs.{graph_after_good}
use Rattle.ann_defs.proofs.laws.graphs_stay_good.Goals as goal

pub returns : goal.returns
returns c = λ b order cap k starts. graph_after_good b starts order cap k
