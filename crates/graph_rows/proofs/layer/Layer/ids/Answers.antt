use Rattle.std.proofs.Common.{sym, ap, ◌∙◌}
use Rattle.graph_rows.specs.Index.{layer_ids}
use Rattle.graph_rows.specs.Layers.{Layered}
use Rattle.graph_rows.proofs.LayerLists.{ids_zip}
use Rattle.graph_rows.proofs.layer.Layer.ids.Goals as goal

pub returns-clause-value : goal.returns-clause-value
returns-clause-value c = c.deref.ensures.value ∙ sym (ids_zip c.self.inside.ids.items c.self.inside.graph.rows c.self.invariant.same) ∙ ap (λ (l : Layered). layer_ids l.entries) c.self.view_is
