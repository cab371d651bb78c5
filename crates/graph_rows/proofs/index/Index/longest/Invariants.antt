use Rattle.std.proofs.Common.{◌≡◌, take, max}
use Rattle.std.specs.List.{fold}
use Rattle.graph_rows.specs.Index.{layer_rows, longest_in}
use Rattle.graph_rows.specs.Layers.{Layered}
use Rattle.graph_rows.proofs.index.Index.longest.Given as goal

abbrev pub invariant-loop-layer : goal.invariant-loop-layer
invariant-loop-layer l = l.longest ≡ fold (λ most (x : Layered). max most (longest_in (layer_rows x.entries))) (longest_in l.self.base.rows) (take l.layer-index l.self.upper.items)
