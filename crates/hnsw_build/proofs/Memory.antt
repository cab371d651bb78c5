-- The layers in memory are those of the definition.
use Rattle.std.proofs.Common.{◌≡◌, ℕ, suc, ◌+◌, ◌<◌, ◌≤◌, Bool, true, false, List, [], ◌∷◌, map, length, get_or, refl, sym, ap, ◌∙◌, subst, arith}
use Rattle.std.proofs.lemmas.List.{get_or-map}
use Rattle.std.proofs.lemmas.List.FromFn.{length-map-range_with_len, get_or-map-range_with_len}
use Rattle.ann_defs.specs.Distance.{point}
use Rattle.ann_defs.specs.Graph.{has, IsGraph}
use Rattle.ann_defs.specs.Ordered.{Ascends}
use Rattle.graph_rows.specs.Index.{layer_ids}
use Rattle.graph_rows.specs.Layers.{Layered, layer_row, place_in}
use Rattle.layered_search.specs.Descent.{row_of_id}
use Rattle.layered_search.specs.Entering.{AreEnterable, layer_at, holds_at, upper_row}
use Rattle.layered_search.specs.KnnSearch.{entries_down}
use Rattle.layered_search.proofs.HeldRows.{entry_held, row_missing, place_held}
use Rattle.layered_search.proofs.Walking.{entries_same, entries_done}
use Rattle.hnsw_build.specs.declared.settings.HnswSettings.{HnswSettings}
use Rattle.hnsw_build.specs.Layering.{level_in, top_of, is_in, ids_in}
use Rattle.hnsw_build.specs.LayeredInsert.{LayeredBuild, row_of_layer, entries_for}
use Rattle.hnsw_build.specs.HnswBuilds.{order_of, start_of, batch_cap, build_of, layers_at, entries_at, upper_at}
use Rattle.hnsw_build.specs.Laws.{IsLayered, AreGoodLayers}
use Rattle.hnsw_build.proofs.LevelFacts.{ids_ascend, has_ids, held_down}
use Rattle.hnsw_build.proofs.GoodLayers.{layers_good, layer_graph, start_held, point_level}

abbrev pub entry_of_row : (ℕ → List ℕ) → ℕ → ℕ × List ℕ
entry_of_row row id = (id, row id)

pub ids_again : (row : ℕ → List ℕ) (ids : List ℕ) → layer_ids (map (entry_of_row row) ids) ≡ ids
ids_again row [] = refl
ids_again row (x ∷ ids) = ap (λ xs. x ∷ xs) (ids_again row ids)

-- a layer of ids with their rows has the row of each id, and none for any other
pub rows_again : (row : ℕ → List ℕ) (ids : List ℕ) (u : ℕ) → Ascends ids → (has ids u ≡ false → row u ≡ []) → row_of_id (map (entry_of_row row) ids) u ≡ row u
rows_again row ids u up empty =
    let layer = map (entry_of_row row) ids in
    let same = ids_again row ids in
    elim (has ids u) as (λ b. has ids u ≡ b → row_of_id layer u ≡ row u) [
      | true ↦ λ h.
          let at = place_held ids u up h in
          let entry = entry_held layer u (subst Ascends (sym same) up) (ap (λ xs. has xs u) same ∙ h) in
          let place : place_in (layer_ids layer) u ≡ place_in ids u = ap (λ xs. place_in xs u) same in
          entry.2
          ∙ ap (λ k. (get_or layer k (0, [])).1) place
          ∙ ap (λ (e : ℕ × List ℕ). e.1) (get_or-map (entry_of_row row) ids (place_in ids u) 0 (0, []) at.0)
          ∙ ap row at.1
      | false ↦ λ h. row_missing layer u (ap (λ xs. has xs u) same ∙ h) ∙ sym (empty h)
    ] refl

module _ (points : List (List ℕ)) (s : HnswSettings) (levels : List ℕ) (is : IsLayered (build_of points s levels)) (k : ℕ) where
  abbrev n : ℕ
  n = length points

  abbrev b : LayeredBuild
  b = build_of points s levels

  abbrev top : ℕ
  top = top_of levels

  abbrev layers : List (List (List ℕ))
  layers = layers_at points s levels k

  abbrev entries : ℕ → List (ℕ × List ℕ)
  entries = entries_at points s levels k

  abbrev pub layer_in : ℕ → Layered
  layer_in l = record { width = s.degree; entries = entries l }

  pub good : AreGoodLayers b layers
  good = layers_good b is (order_of points s levels) (batch_cap points s) k

  -- the ids and the rows of a layer
  pub entries_held : (l u : ℕ) → has (layer_ids (entries l)) u ≡ is_in levels l u
  entries_held l u = ap (λ ids. has ids u) (ids_again (row_of_layer layers l) (ids_in levels l)) ∙ has_ids levels l u

  pub entries_row : (l u : ℕ) → l ≤ top → row_of_id (entries l) u ≡ row_of_layer layers l u
  entries_row l u le = rows_again (row_of_layer layers l) (ids_in levels l) u (ids_ascend levels l) (λ h. good.empty l u le (sym (has_ids levels l u) ∙ h))

  pub upper_count : length (upper_at points s levels k) ≡ top
  upper_count = length-map-range_with_len layer_in 1 top

  -- the layer at a place
  pub upper_layer : (j : ℕ) → j < top → layer_at (upper_at points s levels k) j ≡ layer_in (suc j)
  upper_layer j lt = get_or-map-range_with_len layer_in 1 top j (suc j) (record { width = 0; entries = [] }) lt (omega arith)

  module _ (upper : List Layered) (same : upper ≡ upper_at points s levels k) where
    pub count_is : length upper ≡ top
    count_is = ap (λ (ls : List Layered). length ls) same ∙ upper_count

    pub layer_is : (j : ℕ) → j < top → layer_at upper j ≡ layer_in (suc j)
    layer_is j lt = ap (λ (ls : List Layered). layer_at ls j) same ∙ upper_layer j lt

    pub held_is : (j u : ℕ) → j < top → holds_at upper j u ≡ is_in levels (suc j) u
    held_is j u lt = ap (λ (l : Layered). has (layer_ids l.entries) u) (layer_is j lt) ∙ entries_held (suc j) u

    pub row_is : (j u : ℕ) → j < top → layer_row (layer_at upper j) u ≡ row_of_layer layers (suc j) u
    row_is j u lt = ap (λ (l : Layered). layer_row l u) (layer_is j lt) ∙ entries_row (suc j) u (omega arith)

    pub graph_at : (j : ℕ) → j < top → IsGraph n (holds_at upper j) (layer_row (layer_at upper j))
    graph_at j lt =
        let held : holds_at upper j ≡ is_in levels (suc j) = λ i u. held_is j u lt i in
        let row : layer_row (layer_at upper j) ≡ row_of_layer layers (suc j) = λ i u. row_is j u lt i in
        subst (λ (h : ℕ → Bool). IsGraph n h (layer_row (layer_at upper j))) (sym held)
        (subst (λ (r : ℕ → List ℕ). IsGraph n (is_in levels (suc j)) r) (sym row) (layer_graph b is layers good (suc j) (omega arith)))

    -- they can be walked down
    pub enterable : (start : ℕ) → start ≡ start_of points s levels → AreEnterable n start upper
    enterable start first = record {
      start_below = subst (λ u. u < n) (sym first) is.start_below;
      graphs = λ j lt. graph_at j (subst (λ m. j < m) count_is lt);
      starts = λ j lt. let within : j < top = subst (λ m. j < m) count_is lt in
          held_is j start within ∙ ap (is_in levels (suc j)) first ∙ start_held b is (suc j) (omega arith);
      nested = λ j lt id h.
          let within : j + 1 < top = subst (λ m. j + 1 < m) count_is lt in
          held_is j id (omega arith) ∙ held_down levels (suc j) (suc (j + 1)) id (omega arith) (sym (held_is (j + 1) id within) ∙ h);
    }

    -- and the walk is the definition's
    pub entered : (p start level entry : ℕ) (query : List ℕ) → p < n → query ≡ point points p → start ≡ start_of points s levels → level ≡ level_in levels p
        → entry ∷ [] ≡ entries_down points (upper_row upper) query 1 (start ∷ []) (length upper) level → (j : ℕ) → level + 1 ≡ suc j → entry ∷ [] ≡ entries_for b layers p j
    entered p start level entry query at asked first own walked j here =
        let row = row_of_layer layers in
        let low : j ≡ level_in levels p = omega (arith, own, here) in
        let most = point_level b is p at in
        let first_entries = entries_down points row (point points p) 1 (start_of points s levels ∷ []) top (level_in levels p) in
        walked
        ∙ (λ i. entries_down points (upper_row upper) (asked i) 1 (first i ∷ []) (count_is i) (own i))
        ∙ entries_same points (upper_row upper) row (point points p) 1 (start_of points s levels ∷ []) top (level_in levels p) (λ l lt. λ i u. row_is l u lt i)
        ∙ sym (entries_done points row (point points p) s.beam first_entries (level_in levels p) (level_in levels p) (omega arith))
        ∙ ap (λ l. entries_down points row (point points p) s.beam first_entries (level_in levels p) l) (sym low)
