use Rattle.std.proofs.Common.{sym, ap, ◌∙◌}
use Rattle.graph_rows.specs.Index.{layer_rows, longest_in}
use Rattle.graph_rows.specs.Layers.{Layered}
use Rattle.graph_rows.proofs.LayerLists.{rows_zip}
use Rattle.graph_rows.proofs.layer.Layer.longest.Goals as goal

pub returns : goal.returns
returns c = c.longest.ensures ∙ ap longest_in (sym (rows_zip c.self.inside.ids.items c.self.inside.graph.rows c.self.invariant.same) ∙ ap (λ (l : Layered). layer_rows l.entries) c.self.view_is)
