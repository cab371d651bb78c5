use Rattle.std.proofs.Common.{◌≡◌, ℕ, List, [], length, replicate, ap, ◌∙◌, rules}
use Rattle.std.specs.List.{zip}
use Rattle.graph_rows.specs.Flat.{Flat}
use Rattle.graph_rows.specs.Layers.{Layered}
use Rattle.graph_rows.proofs.LayerLists.{zip_empty}
use Rattle.graph_rows.proofs.layer.Layer.new.Goals as goal

abbrev layered : ℕ → List (ℕ × List ℕ) → Layered
layered width entries = record { width = width; entries = entries }

pub returns : goal.returns
returns c =
    let rows : c.in_ok-graph.graph.rows ≡ replicate (length c.args.ids.items) [] = ap (λ (g : Flat). g.rows) c.in_ok-graph.ensures ∙ ap (λ n. replicate n []) (search rules) in
    let width : c.in_ok-graph.graph.width ≡ c.args.width = ap (λ (g : Flat). g.width) c.in_ok-graph.ensures in
    ap (λ w. layered w (zip c.args.ids.items c.in_ok-graph.graph.rows)) width
    ∙ ap (λ (r : List (List ℕ)). layered c.args.width (zip c.args.ids.items r)) rows
    ∙ ap (layered c.args.width) (zip_empty c.args.ids.items)
