use Rattle.std.proofs.Common.{◌≡◌, ◌∙◌, [], ◌∷◌, ap, sym, subst}
use Rattle.ann_defs.specs.Graph.{AreGoodRows}
use Rattle.graph_rows.specs.Flat.{Flat, with_row}
use Rattle.graph_rows.proofs.Examples.{four_flat, four_good}
use Rattle.part_tests.proofs.line.line_graph.Goals as goal

pub returns : goal.returns
returns c =
    let first : c.set_row.new.self ≡ _ = c.set_row.ensures ∙ ap (λ (g : Flat). with_row g 0 (1 ∷ [])) c.in_ok-graph.ensures in
    let second : c.set_row-2.new.self ≡ _ = c.set_row-2.ensures ∙ ap (λ (g : Flat). with_row g 1 (0 ∷ 2 ∷ [])) first in
    let third : c.set_row-3.new.self ≡ _ = c.set_row-3.ensures ∙ ap (λ (g : Flat). with_row g 2 (1 ∷ [])) second in
    let fourth : c.set_row-4.new.self ≡ four_flat = c.set_row-4.ensures ∙ ap (λ (g : Flat). with_row g 3 (1 ∷ [])) third in
    record { value = fourth; good = subst (λ (g : Flat). AreGoodRows 4 2 g.rows) (sym fourth) four_good }
