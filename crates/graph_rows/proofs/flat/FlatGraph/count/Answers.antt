use Rattle.std.proofs.Common.{sym, ap, ◌∙◌, length}
use Rattle.graph_rows.specs.Flat.{Flat}
use Rattle.graph_rows.proofs.BlockRows.{length-rows_in}
use Rattle.graph_rows.proofs.flat.FlatGraph.count.Goals as goal

pub returns : goal.returns
returns c = sym (length-rows_in c.self.inside.count c.self.inside.width c.self.inside.words.items) ∙ ap (λ (g : Flat). length g.rows) c.self.view_is
