use Rattle.std.proofs.Common.{◌≡◌, ◌-◌, ◌≤◌, ◌∙◌, ℕ, List, Bool, true, length, get_or, sym, ap, subst, arith}
use Rattle.std.specs.List.{All}
use Rattle.ann_defs.specs.Graph.{row_in, IsGraph}
use Rattle.ann_defs.specs.GreedySearch.{found_of}
use Rattle.beam_search.specs.Measured.{AreMeasured}
use Rattle.beam_search.specs.Room.{Room}
use Rattle.graph_rows.specs.Layers.{layer_row}
use Rattle.hnsw_build.specs.Layering.{is_in}
use Rattle.hnsw_build.specs.Grown.{build_in, layers_in}
use Rattle.hnsw_build.proofs.PlanFacts.{plan_layered, plan_low}
use Rattle.hnsw_build.proofs.GoodLayers.{layer_graph}
use Rattle.hnsw_build.proofs.LayersFacts.{base_held_is, base_row_is, upper_len, upper_held_is, upper_row_is, good_in}
use Rattle.hnsw_build.proofs.point_rows.search_layer.Goals as goal

pub search-requires-clause-graph : goal.search-requires-clause-graph
search-requires-clause-graph c =
    let w = c.args.layers.now in
    let n = length w.plan.now.points.now.vectors in
    let zero_layer : 0 ≡ c.args.layer = sym c.if-layer-eq0.true in
    subst (λ (h : ℕ → Bool). IsGraph n h (row_in w.base.now.rows)) (sym (base_held_is w))
    (subst (λ (r : ℕ → List ℕ). IsGraph n (is_in w.plan.now.levels.items 0) r) (sym (base_row_is w))
    (layer_graph (build_in w) (plan_layered w.plan.now) (layers_in w) (good_in w) 0 (omega arith)))

pub search-requires-clause-starts : goal.search-requires-clause-starts
search-requires-clause-starts c =
    let w = c.args.layers.now in
    let levels = w.plan.now.levels.items in
    subst (λ (h : ℕ → Bool). All (λ u. h u ≡ true) c.args.entries.now) (sym (base_held_is w))
    (subst (λ l. All (λ u. is_in levels l u ≡ true) c.args.entries.now) c.if-layer-eq0.true c.requires.entries)

pub offset_bounds-layers-layer : goal.offset_bounds-layers-layer
offset_bounds-layers-layer c =
    let w = c.args.layers.now in
    let low = plan_low w.plan.now in
    let at = c.requires.layer in
    omega (arith, low, at)

pub bounds-layers-layer : goal.bounds-layers-layer
bounds-layers-layer c =
    let w = c.args.layers.now in
    let many = upper_len w in
    let at = c.requires.layer in
    let some = c.if-layer-eq0.false in
    omega (arith, many, at, some)

pub search-requires-else-layer-eq0-clause-graph : goal.search-requires-else-layer-eq0-clause-graph
search-requires-else-layer-eq0-clause-graph c =
    let w = c.args.layers.now in
    let n = length w.plan.now.points.now.vectors in
    let l = c.args.layer in
    let some : 1 ≤ l = let above = c.if-layer-eq0.false in omega (arith, above) in
    let here = c.index-layers-layer.result in
    subst (λ (h : ℕ → Bool). IsGraph n h (layer_row (get_or w.upper.now (l - 1) here))) (sym (upper_held_is w l some c.requires.layer here))
    (subst (λ (r : ℕ → List ℕ). IsGraph n (is_in w.plan.now.levels.items l) r) (sym (upper_row_is w l some c.requires.layer here))
    (layer_graph (build_in w) (plan_layered w.plan.now) (layers_in w) (good_in w) l c.requires.layer))

pub search-requires-else-layer-eq0-clause-starts : goal.search-requires-else-layer-eq0-clause-starts
search-requires-else-layer-eq0-clause-starts c =
    let some : 1 ≤ c.args.layer = let above = c.if-layer-eq0.false in omega (arith, above) in
    subst (λ (h : ℕ → Bool). All (λ u. h u ≡ true) c.args.entries.now) (sym (upper_held_is c.args.layers.now c.args.layer some c.requires.layer c.index-layers-layer.result)) c.requires.entries

pub returns-else-layer-eq0-clause-found : goal.returns-else-layer-eq0-clause-found
returns-else-layer-eq0-clause-found c =
    let w = c.args.layers.now in
    let some : 1 ≤ c.args.layer = let above = c.if-layer-eq0.false in omega (arith, above) in
    ap (λ (r : Room). r.last.found) c.search-else-layer-eq0.ensures.walk
    ∙ ap (λ (r : ℕ → List ℕ). found_of w.plan.now.points.now.vectors r c.args.query.now w.plan.now.settings.beam c.args.entries.now) (upper_row_is w c.args.layer some c.requires.layer c.index-layers-layer.result)

pub returns-else-layer-eq0-clause-measured : goal.returns-else-layer-eq0-clause-measured
returns-else-layer-eq0-clause-measured c =
    let w = c.args.layers.now in
    let some : 1 ≤ c.args.layer = let above = c.if-layer-eq0.false in omega (arith, above) in
    subst (λ (h : ℕ → Bool). AreMeasured w.plan.now.points.now.vectors c.args.query.now h c.search-else-layer-eq0.new.scratch.last.found) (upper_held_is w c.args.layer some c.requires.layer c.index-layers-layer.result) c.search-else-layer-eq0.ensures.found
