use Rattle.std.proofs.Common.{◌≡◌, ℕ, List, take, length, get_or, max, sym, ap, ◌∙◌, arith}
use Rattle.std.specs.List.{fold}
use Rattle.std.proofs.lemmas.List.{take_all}
use Rattle.std.proofs.lemmas.List.Sums.{fold_more}
use Rattle.graph_rows.specs.Index.{layer_rows, longest_in}
use Rattle.graph_rows.specs.Layers.{Layered}
use Rattle.graph_rows.proofs.Totals.{longest_is}
use Rattle.graph_rows.proofs.index.Index.longest.Goals as goal

abbrev longest_with : ℕ → List Layered → ℕ
longest_with first layers = fold (λ most (x : Layered). max most (longest_in (layer_rows x.entries))) first layers

pub loop-layer-preserved : goal.loop-layer-preserved
loop-layer-preserved c =
    let same : length c.deref-layer-items.result.now ≡ length c.args.self.now.upper.items = ap length c.deref-layer-items.ensures.value in
    let is : get_or c.args.self.now.upper.items c.loop-layer.layer-index c.layer-item.result ≡ c.layer-item.result =
    ap (λ (ls : List Layered). get_or ls c.loop-layer.layer-index c.layer-item.result) (sym c.deref-layer-items.ensures.value) ∙ sym c.layer-item.is in
    let first = longest_in c.args.self.now.base.rows in
    let so_far = longest_with first (take c.loop-layer.layer-index c.args.self.now.upper.items) in
    c.max-longest.ensures ∙ ap (λ n. max n c.longest.result) c.loop-layer.invariant ∙ ap (λ n. max so_far n) c.longest.ensures
    ∙ ap (λ (x : Layered). max so_far (longest_in (layer_rows x.entries))) (sym is)
    ∙ sym (fold_more (λ most (x : Layered). max most (longest_in (layer_rows x.entries))) first c.args.self.now.upper.items c.loop-layer.layer-index c.layer-item.result (omega arith))

pub returns : goal.returns
returns c =
    let same : length c.deref-layer-items.result.now ≡ length c.args.self.now.upper.items = ap length c.deref-layer-items.ensures.value in
    c.loop-layer.invariant ∙ ap (longest_with (longest_in c.args.self.now.base.rows)) (take_all c.loop-layer.layer-index c.args.self.now.upper.items (omega arith))
    ∙ sym (longest_is c.args.self.now.base.rows c.args.self.now.upper.items)
