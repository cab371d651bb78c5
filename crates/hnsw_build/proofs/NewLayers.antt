-- The layers before the first batch.
use Rattle.std.proofs.Common.{◌≡◌, ℕ, zero, suc, ◌+◌, ◌*◌, ◌<◌, ◌≤◌, List, [], ◌∷◌, map, replicate, length, get_or, refl, sym, ap, ◌∙◌, arith}
use Rattle.std.specs.List.{range_with_len}
use Rattle.std.proofs.lemmas.List.FromFn.{length-range_with_len}
use Rattle.std.proofs.Math.Nat.{mul-le-mul_right, mul-le-mul_left}
use Rattle.ann_defs.specs.Ordered.{Has}
use Rattle.ann_defs.proofs.Members.{has_true}
use Rattle.graph_rows.specs.Layers.{Layered}
use Rattle.graph_rows.specs.WellFormed.{layer_words}
use Rattle.hnsw_build.specs.declared.plan.HnswPlan.{HnswPlan}
use Rattle.hnsw_build.specs.Layering.{top_of, is_in, ids_in, words_in}
use Rattle.hnsw_build.specs.LayeredInsert.{row_of_layer}
use Rattle.hnsw_build.specs.HnswBuilds.{order_of, batch_cap, build_of, layers_at, base_at, upper_at}
use Rattle.hnsw_build.proofs.LevelFacts.{has_ids}
use Rattle.hnsw_build.proofs.PlanFacts.{plan_layered}
use Rattle.hnsw_build.proofs.GoodLayers.{start_held, none_rows, none_layer}
use Rattle.hnsw_build.proofs.LayerBatch.{few_pass}
use Rattle.hnsw_build.proofs.Memory.{entry_of_row}

pub has_some : (ids : List ℕ) (u : ℕ) → Has ids u → 1 ≤ length ids
has_some [] u h = absurd h
has_some (x ∷ ids) u h = omega arith

pub map_agree : {X : Type 0} (f g : ℕ → X) (from count : ℕ) → ((l : ℕ) → from ≤ l → l < from + count → f l ≡ g l) → map f (range_with_len from count) ≡ map g (range_with_len from count)
map_agree f g from zero same = refl
map_agree f g from (suc count) same =
    let first = same from (omega arith) (omega arith) in
    let rest = map_agree f g (from + 1) count (λ l low high. same l (omega arith) (omega arith)) in
    λ i. first i ∷ rest i

abbrev pub bare_entry : ℕ → ℕ × List ℕ
bare_entry id = (id, [])

pub map_same : (row : ℕ → List ℕ) (ids : List ℕ) → ((u : ℕ) → row u ≡ []) → map bare_entry ids ≡ map (entry_of_row row) ids
map_same row [] none = refl
map_same row (x ∷ ids) none = let first = sym (none x) in let rest = map_same row ids none in λ i. (x, first i) ∷ rest i

module _ (p : HnswPlan) where
  abbrev points : List (List ℕ)
  points = p.points.now.vectors

  abbrev levels : List ℕ
  levels = p.levels.items

  abbrev degree : ℕ
  degree = p.settings.degree

  -- each layer holds the entry point
  pub ids_some : (l : ℕ) → l ≤ top_of levels → 1 ≤ length (ids_in levels l)
  ids_some l le =
      let b = build_of points p.settings levels in
      has_some (ids_in levels l) b.start (has_true (ids_in levels l) b.start (has_ids levels l b.start ∙ start_held b (plan_layered p) l le))

  pub ids_few : (l : ℕ) → length (ids_in levels l) ≤ length points
  ids_few l =
      let pass = few_pass (is_in levels l) (range_with_len 0 (length levels)) in
      let all = length-range_with_len 0 (length levels) in
      let same = p.levelled in
      omega (arith, pass, all, same)

  module _ (limit : words_in levels degree ≤ 134217728) where
    pub base_words : length points * (degree + degree + 1) ≤ 134217728
    base_words =
        let same : layer_words (length levels) (degree + degree) ≡ length points * (degree + degree + 1) = ap (λ n. n * (degree + degree + 1)) p.levelled in
        omega (arith, same, limit)

    pub layer_fits : (l : ℕ) → length (ids_in levels l) * (degree + 1) ≤ 134217728
    layer_fits l =
        let few : length (ids_in levels l) * (degree + 1) ≤ length points * (degree + 1) = mul-le-mul_right {m = length (ids_in levels l)} {n = length points} (degree + 1) (ids_few l) in
        let narrow : length points * (degree + 1) ≤ length points * (degree + degree + 1) = mul-le-mul_left (length points) (omega arith) in
        let all = base_words in
        omega (arith, few, narrow, all)

  pub base_first : record { width = degree + degree; rows = replicate (length points) [] } ≡ base_at points p.settings levels 0
  base_first =
      let none : get_or (layers_at points p.settings levels 0) 0 [] ≡ replicate (length points) [] = none_layer (build_of points p.settings levels) (plan_layered p) 0 (order_of points p.settings levels) (batch_cap points p.settings) (omega arith) in
      λ i. record { width = degree + degree; rows = sym none i }

  abbrev pub first_layer : ℕ → Layered
  first_layer l = record { width = degree; entries = map bare_entry (ids_in levels l) }

  pub upper_first : map first_layer (range_with_len 1 (top_of levels)) ≡ upper_at points p.settings levels 0
  upper_first = map_agree first_layer (λ l. record { width = degree; entries = map (entry_of_row (row_of_layer (layers_at points p.settings levels 0) l)) (ids_in levels l) }) 1 (top_of levels) (λ l low high.
      let same = map_same (row_of_layer (layers_at points p.settings levels 0) l) (ids_in levels l) (λ u. none_rows (build_of points p.settings levels) (plan_layered p) l u (order_of points p.settings levels) (batch_cap points p.settings) (omega arith)) in
      λ i. record { width = degree; entries = same i })
