use Rattle.std.proofs.Common.{◌≡◌, true, false, ℕ, List, Option, Some, None, sym, ◌∙◌, MatchOption}
use Rattle.std.specs.Prelude.{is_some, ◌<◌, length}
use Rattle.ann_defs.specs.Graph.{has}
use Rattle.graph_rows.specs.Layers.{place_in}
use Rattle.graph_rows.proofs.LayerRowFacts.{layer_has}
use Rattle.graph_rows.proofs.layer.LayerRows.holds.Goals as goal

told : (ids : List ℕ) (id : ℕ) (r : Option ℕ) → MatchOption r (has ids id ≡ false) (λ i. (i < length ids) × (i ≡ place_in ids id) × (has ids id ≡ true)) → is_some r ≡ has ids id
told ids id None m = sym m
told ids id (Some i) m = sym m.2

pub returns : goal.returns
returns c =
    c.is_some.ensures ∙ told c.deref.result.now c.args.id c.place_of.result c.place_of.ensures
    ∙ layer_has c.args.self.now c.self.inside.graph.width c.self.inside.ids.items c.deref.result.now c.self.inside.graph.rows c.args.id c.self.view_is c.self.invariant.same c.deref.ensures.value
