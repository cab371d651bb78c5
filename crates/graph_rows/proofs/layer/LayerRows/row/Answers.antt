use Rattle.std.proofs.Common.{sym, ◌∙◌}
use Rattle.std.proofs.lemmas.Bool.{true≢false}
use Rattle.graph_rows.proofs.LayerRowFacts.{layer_has, layer_get}
use Rattle.graph_rows.proofs.layer.LayerRows.row.Goals as goal

pub returns-in-Some : goal.returns-in-Some
returns-in-Some c =
    c.at.ensures.row
    ∙ layer_get c.args.self.now c.self.inside.graph.width c.self.inside.ids.items c.deref.result.now c.self.inside.graph.rows c.args.id c.self.view_is c.self.invariant.same c.deref.ensures.value
    c.in-Some.i c.in-Some.ensures.1

pub returns-in-None : goal.returns-in-None
returns-in-None c = absurd (true≢false (sym c.requires
    ∙ sym (layer_has c.args.self.now c.self.inside.graph.width c.self.inside.ids.items c.deref.result.now c.self.inside.graph.rows c.args.id c.self.view_is c.self.invariant.same c.deref.ensures.value)
    ∙ c.in-None.ensures))
