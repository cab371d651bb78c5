use Rattle.std.proofs.Common.{List, [], ◌∷◌, ◌++◌, ap, ◌∙◌}
use Rattle.graph_rows.specs.Layers.{Layered}
use Rattle.graph_rows.proofs.Examples.{two_built}
use Rattle.graph_tests.proofs.indexes.two_layers.Goals as goal

pub returns : goal.returns
returns c = two_built c.in_ok-base.base c.in_ok-layer.layer c.push.new.self.items c.in_ok-base.ensures c.in_ok-layer.ensures
    (c.in_ok-push.ensures.items ∙ ap (λ (ls : List Layered). ls ++ c.in_ok-layer.layer ∷ []) c.new-upper.ensures.items)
