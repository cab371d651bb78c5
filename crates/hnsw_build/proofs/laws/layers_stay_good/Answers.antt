use Rattle.hnsw_build.proofs.GoodLayers.{layers_good}
use Rattle.hnsw_build.proofs.laws.layers_stay_good.Goals as goal

pub returns : goal.returns
returns c = λ b order cap k is. layers_good b is order cap k
