use Rattle.std.proofs.Common.{◌≡◌, ◌+◌, ℕ, List, ◌∷◌, map, length, get_or, sym, ap, ◌∙◌, arith}
use Rattle.std.specs.List.{sum_by, enumerate_from}
use Rattle.std.proofs.lemmas.List.{take_all, length-map}
use Rattle.std.proofs.lemmas.List.Sums.{sum_by_more}
use Rattle.graph_rows.specs.Layers.{Layered}
use Rattle.graph_rows.proofs.Totals.{edges_in, entries_of, edges_are, layers_few}
use Rattle.graph_rows.specs.View.{kind_code}
use Rattle.graph_rows.proofs.index.Index.edges.Goals as goal

pub overflow_add-edges : goal.overflow_add-edges
overflow_add-edges c =
    let few = layers_few (kind_code c.args.self.now.kind) (length (enumerate_from 0 c.args.self.now.base.rows ∷ map entries_of c.args.self.now.upper.items)) c.requires.layers in
    let many : length (map entries_of c.args.self.now.upper.items) ≡ length c.args.self.now.upper.items = length-map c.args.self.now.upper.items entries_of in
    let same : length c.deref-layer-items.result.now ≡ length c.args.self.now.upper.items = ap length c.deref-layer-items.ensures.value in
    omega arith

pub loop-layer-preserved : goal.loop-layer-preserved
loop-layer-preserved c =
    let same : length c.deref-layer-items.result.now ≡ length c.args.self.now.upper.items = ap length c.deref-layer-items.ensures.value in
    let is : get_or c.args.self.now.upper.items c.loop-layer.layer-index c.layer-item.result ≡ c.layer-item.result =
    ap (λ (ls : List Layered). get_or ls c.loop-layer.layer-index c.layer-item.result) (sym c.deref-layer-items.ensures.value) ∙ sym c.layer-item.is in
    let more = sum_by_more (λ (x : Layered). edges_in x.entries) c.args.self.now.upper.items c.loop-layer.layer-index c.layer-item.result (omega arith) in
    let here : edges_in (get_or c.args.self.now.upper.items c.loop-layer.layer-index c.layer-item.result).entries ≡ c.edges-more.result =
    ap (λ (x : Layered). edges_in x.entries) is ∙ sym c.edges-more.ensures.value in
    record { sum = omega arith; bound = omega arith }

pub returns : goal.returns
returns c =
    let same : length c.deref-layer-items.result.now ≡ length c.args.self.now.upper.items = ap length c.deref-layer-items.ensures.value in
    c.loop-layer.invariant.sum
    ∙ ap (λ (ls : List Layered). sum_by (λ (row : List ℕ). length row) c.args.self.now.base.rows + sum_by (λ (x : Layered). edges_in x.entries) ls) (take_all c.loop-layer.layer-index c.args.self.now.upper.items (omega arith))
    ∙ sym (edges_are c.args.self.now.base.rows c.args.self.now.upper.items)
