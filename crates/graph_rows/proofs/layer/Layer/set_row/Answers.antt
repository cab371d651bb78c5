use Rattle.std.proofs.Common.{sym, ap, ◌∙◌}
use Rattle.std.specs.List.{zip}
use Rattle.std.proofs.lemmas.Bool.{true≢false}
use Rattle.graph_rows.specs.Flat.{Flat}
use Rattle.graph_rows.proofs.LayerRowFacts.{layered, layer_has, layer_set}
use Rattle.graph_rows.proofs.layer.Layer.set_row.Goals as goal

pub returns-in-Some : goal.returns-in-Some
returns-in-Some c =
    ap (λ (g : Flat). layered g.width (zip c.self.inside.ids.items g.rows)) c.set_row.ensures
    ∙ layer_set c.args.self.now c.self.inside.graph.width c.self.inside.ids.items c.deref.result.now c.self.inside.graph.rows c.args.id c.self.view_is c.self.invariant.same c.deref.ensures.value
    c.in-Some.i c.args.ids.now c.in-Some.ensures.0 c.in-Some.ensures.1

pub returns-in-None : goal.returns-in-None
returns-in-None c = absurd (true≢false (sym c.requires.held
    ∙ sym (layer_has c.args.self.now c.self.inside.graph.width c.self.inside.ids.items c.deref.result.now c.self.inside.graph.rows c.args.id c.self.view_is c.self.invariant.same c.deref.ensures.value)
    ∙ c.in-None.ensures))
