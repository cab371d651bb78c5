use Rattle.std.proofs.Common.{◌≡◌, ◌∙◌, ◌≤◌, ◌∷◌, ℕ, List, None, map, sym, ap, subst}
use Rattle.std.specs.List.{enumerate_from}
use Rattle.graph_rows.specs.Index.{Contents}
use Rattle.graph_rows.specs.Layers.{Layered}
use Rattle.graph_rows.specs.WellFormed.{IsWellFormed}
use Rattle.hnsw_build.specs.Building.{Building}
use Rattle.hnsw_build.specs.HnswBuilds.{batches_of, base_at, upper_at}
use Rattle.hnsw_build.specs.HnswIndex.{hnsw_index}
use Rattle.hnsw_build.proofs.PlanFacts.{plan_layered}
use Rattle.hnsw_build.proofs.IndexFacts.{layers_entries, well_formed}
use Rattle.hnsw_build.proofs.hnsw.Hnsw.into_index.Goals as goal

-- an index of kind 2
abbrev laid : ℕ → ℕ → ℕ → ℕ → List (List (ℕ × List ℕ)) → Contents
laid count dim degree start layers = record { kind = 2; count = count; dim = dim; degree = degree; start = start; layers = layers; stamp = None }

pub returns : goal.returns
returns c =
    let v = c.self.inside in
    let plan = v.plan.now in
    let points = plan.points.now.vectors in
    let s = plan.settings in
    let levels = plan.levels.items in
    let total = batches_of points s in
    let done : v.batch ≡ total = subst (λ (b : Building). b.batch ≡ batches_of b.points b.settings) (sym c.self.view_is) c.requires in
    let base = c.self.invariant.base_is ∙ ap (base_at points s levels) done in
    let upper = c.self.invariant.upper_is ∙ ap (upper_at points s levels) done in
    let layers = layers_entries points s levels (plan_layered plan) total v.base v.upper.items base upper in
    let is : laid c.count.result c.dim.result s.degree c.start.result (enumerate_from 0 v.base.rows ∷ map (λ (l : Layered). l.entries) v.upper.items) ≡ hnsw_index points s levels =
    λ i. laid (c.count.ensures.value i) (c.dim.ensures.value i) s.degree (c.start.ensures.value i) (layers i) in
    let wide = subst (λ (d : ℕ). 1 ≤ d) c.dim.ensures.value c.dim.ensures.some in
    let narrow = subst (λ (d : ℕ). d ≤ 2048) c.dim.ensures.value c.dim.ensures.bound in
    record {
      contents = is ∙ ap (λ (b : Building). hnsw_index b.points b.settings b.levels) c.self.view_is;
      well_formed = subst IsWellFormed (sym is) (well_formed plan wide narrow);
    }
