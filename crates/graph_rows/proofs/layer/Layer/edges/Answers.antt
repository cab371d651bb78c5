use Rattle.std.proofs.Common.{List, ℕ, length, sym, ap, ◌∙◌}
use Rattle.std.specs.List.{sum_by}
use Rattle.graph_rows.specs.Index.{layer_rows}
use Rattle.graph_rows.specs.Layers.{Layered}
use Rattle.graph_rows.proofs.LayerLists.{rows_zip}
use Rattle.graph_rows.proofs.layer.Layer.edges.Goals as goal

pub returns-clause-value : goal.returns-clause-value
returns-clause-value c =
    c.edges.ensures.value
    ∙ ap (λ (rows : List (List ℕ)). sum_by (λ (row : List ℕ). length row) rows) (sym (rows_zip c.self.inside.ids.items c.self.inside.graph.rows c.self.invariant.same) ∙ ap (λ (l : Layered). layer_rows l.entries) c.self.view_is)
