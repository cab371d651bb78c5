use Rattle.layered_search.proofs.Descending.{one_layer}
use Rattle.layered_search.proofs.laws.one_layer_is_searched.Goals as goal

pub returns : goal.returns
returns c = one_layer
