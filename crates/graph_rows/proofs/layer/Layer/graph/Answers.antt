use Rattle.std.proofs.Common.{sym, ap, ◌∙◌}
use Rattle.graph_rows.specs.Index.{layer_rows}
use Rattle.graph_rows.specs.Layers.{Layered}
use Rattle.graph_rows.proofs.LayerLists.{rows_zip}
use Rattle.graph_rows.proofs.layer.Layer.graph.Goals as goal

pub returns : goal.returns
returns c = sym (rows_zip c.self.inside.ids.items c.self.inside.graph.rows c.self.invariant.same) ∙ ap (λ (l : Layered). layer_rows l.entries) c.self.view_is
