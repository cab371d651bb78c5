use Rattle.std.proofs.Common.{◌≡◌, ◌∙◌, ◌≤◌, ℕ, ◌∷◌, List, None, length, map, inl, refl, sym, ap, subst}
use Rattle.std.specs.List.{enumerate_from}
use Rattle.ann_defs.specs.Distance.{dim_of}
use Rattle.graph_rows.specs.Flat.{Flat}
use Rattle.graph_rows.specs.Index.{Contents}
use Rattle.graph_rows.specs.Layers.{Layered}
use Rattle.graph_rows.specs.WellFormed.{IsWellFormed}
use Rattle.graph_rows.proofs.FlatIndex.{flat_well_formed}
use Rattle.vamana_build.specs.Builds.{batches_of, start_of, rows_at, graph_at}
use Rattle.vamana_build.specs.Building.{Building}
use Rattle.vamana_build.specs.VamanaIndex.{vamana_index}
use Rattle.vamana_build.proofs.Plans.{start_below}
use Rattle.vamana_build.proofs.Stepping.{rows_good}
use Rattle.vamana_build.proofs.vamana.Vamana.into_index.Goals as goal

-- an index of kind 1 without further layers
abbrev laid : ℕ → ℕ → ℕ → ℕ → Flat → List Layered → Contents
laid count dim degree start graph upper = record {
  kind = 1;
  count = count;
  dim = dim;
  degree = degree;
  start = start;
  layers = enumerate_from 0 graph.rows ∷ map (λ (l : Layered). l.entries) upper;
  stamp = None;
}

pub returns : goal.returns
returns c =
    let v = c.self.inside in
    let plan = v.plan.now in
    let points = plan.points.now.vectors in
    let s = plan.settings in
    let n = length points in
    let built = c.self.invariant.0 in
    let total = batches_of points s in
    let done : v.batch ≡ total = subst (λ (b : Building). b.batch ≡ batches_of b.points b.settings) (sym c.self.view_is) c.requires in
    let graph : v.graph ≡ graph_at points s total = built.graph_is ∙ ap (graph_at points s) done in
    let is : laid c.count.result c.dim.result s.degree c.start.result v.graph v.upper.items ≡ vamana_index points s =
    λ i. laid (c.count.ensures.value i) (c.dim.ensures.value i) s.degree (c.start.ensures.value i) (graph i) (c.self.invariant.1 i) in
    let starts = start_below plan in
    let wide = subst (λ (d : ℕ). 1 ≤ d) c.dim.ensures.value c.dim.ensures.some in
    let narrow = subst (λ (d : ℕ). d ≤ 2048) c.dim.ensures.value c.dim.ensures.bound in
    record {
      contents = is ∙ ap (λ (b : Building). vamana_index b.points b.settings) c.self.view_is;
      well_formed = subst IsWellFormed (sym is) (flat_well_formed 1 n (dim_of points) s.degree (start_of points s) (rows_at points s total) (rows_good points s starts total) plan.count.0 plan.count.1 wide narrow plan.degree.0 plan.degree.1 starts (inl refl));
    }
