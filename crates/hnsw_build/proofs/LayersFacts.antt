-- What the layers before a batch hold.
use Rattle.std.proofs.Common.{◌≡◌, ◌∙◌, ℕ, suc, ◌-◌, ◌≤◌, List, [], length, get_or, sym, ap, arith}
use Rattle.std.specs.Prelude.{nat_lt}
use Rattle.std.proofs.lemmas.List.{get_or_default}
use Rattle.ann_defs.specs.Graph.{has, row_in}
use Rattle.graph_rows.specs.Flat.{Flat}
use Rattle.graph_rows.specs.Index.{layer_ids}
use Rattle.graph_rows.specs.Layers.{Layered, layer_row}
use Rattle.layered_search.specs.Entering.{layer_at}
use Rattle.hnsw_build.specs.declared.layers.Layers.{Layers}
use Rattle.hnsw_build.specs.Layering.{is_in, top_of}
use Rattle.hnsw_build.specs.LayeredInsert.{row_of_layer}
use Rattle.hnsw_build.specs.Laws.{AreGoodLayers}
use Rattle.hnsw_build.specs.Grown.{build_in, layers_in}
use Rattle.hnsw_build.proofs.LevelFacts.{base_held}
use Rattle.hnsw_build.proofs.PlanFacts.{plan_layered}
use Rattle.hnsw_build.proofs.Memory.{good, count_is, held_is, row_is}

module _ (w : Layers) where
  abbrev points : List (List ℕ)
  points = w.plan.now.points.now.vectors

  abbrev levels : List ℕ
  levels = w.plan.now.levels.items

  pub good_in : AreGoodLayers (build_in w) (layers_in w)
  good_in = good points w.plan.now.settings levels (plan_layered w.plan.now) w.done

  pub base_count : length w.base.now.rows ≡ length points
  base_count = ap (λ (g : Flat). length g.rows) w.base_is ∙ good_in.count 0 (omega arith)

  pub base_row_is : row_in w.base.now.rows ≡ row_of_layer (layers_in w) 0
  base_row_is = ap (λ (g : Flat). row_in g.rows) w.base_is

  pub base_held_is : (λ u. nat_lt u (length w.base.now.rows)) ≡ is_in levels 0
  base_held_is = λ i u. (ap (nat_lt u) (base_count ∙ sym w.plan.now.levelled) ∙ sym (base_held levels u)) i

  pub upper_len : length w.upper.now ≡ top_of levels
  upper_len = count_is points w.plan.now.settings levels (plan_layered w.plan.now) w.done w.upper.now w.upper_is

  module _ (l : ℕ) (some : 1 ≤ l) (le : l ≤ top_of levels) where
    here : suc (l - 1) ≡ l
    here = omega arith

    -- the layer there, with any other in the place of one that isn't there
    module _ (d : Layered) where
      there : get_or w.upper.now (l - 1) d ≡ layer_at w.upper.now (l - 1)
      there = let many = upper_len in get_or_default w.upper.now (l - 1) d (record { width = 0; entries = [] }) (omega (arith, many, some, le))

      pub upper_held_is : (λ u. has (layer_ids (get_or w.upper.now (l - 1) d).entries) u) ≡ is_in levels l
      upper_held_is =
          ap (λ (k : Layered). λ u. has (layer_ids k.entries) u) there
          ∙ (λ i u. held_is points w.plan.now.settings levels (plan_layered w.plan.now) w.done w.upper.now w.upper_is (l - 1) u (omega arith) i)
          ∙ ap (is_in levels) here

      pub upper_row_is : layer_row (get_or w.upper.now (l - 1) d) ≡ row_of_layer (layers_in w) l
      upper_row_is =
          ap (λ (k : Layered). layer_row k) there
          ∙ (λ i u. row_is points w.plan.now.settings levels (plan_layered w.plan.now) w.done w.upper.now w.upper_is (l - 1) u (omega arith) i)
          ∙ ap (row_of_layer (layers_in w)) here
