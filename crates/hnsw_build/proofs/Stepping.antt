-- From the layers before a batch to those after it.
use Rattle.std.proofs.Common.{◌≡◌, ℕ, suc, ◌+◌, ◌<◌, ◌≤◌, cond, List, [], map, length, get_or, sym, ap, ◌∙◌, subst, arith}
use Rattle.std.proofs.lemmas.Bool.{ne_eqb}
use Rattle.std.specs.List.{range_with_len}
use Rattle.std.specs.Ordering.{nat_cmp}
use Rattle.std.proofs.lemmas.List.{same_lists}
use Rattle.std.proofs.lemmas.List.FromFn.{get_or-map-range_with_len}
use Rattle.ann_defs.specs.Graph.{has, row_in}
use Rattle.ann_defs.specs.Ordered.{Ascends, ordered}
use Rattle.ann_defs.specs.BatchInsert.{batch_at}
use Rattle.graph_rows.specs.Index.{layer_ids}
use Rattle.graph_rows.specs.Layers.{Layered}
use Rattle.batch_insert.specs.Changes.{differing, put_all, put_all_in_layer}
use Rattle.batch_insert.proofs.Differing.{put_differing, flat_of}
use Rattle.batch_insert.proofs.LayerPut.{put_differing_in_layer}
use Rattle.hnsw_build.specs.declared.settings.HnswSettings.{HnswSettings}
use Rattle.hnsw_build.specs.Layering.{top_of, is_in, ids_in}
use Rattle.hnsw_build.specs.LayeredInsert.{LayeredBuild, row_of_layer, bound_of, row_next}
use Rattle.hnsw_build.specs.HnswBuilds.{order_of, batch_cap, build_of, layers_at, entries_at, base_at, upper_at}
use Rattle.hnsw_build.specs.Laws.{IsLayered, AreGoodLayers}
use Rattle.hnsw_build.specs.Wanted.{change_in}
use Rattle.hnsw_build.proofs.LevelFacts.{ids_ascend}
use Rattle.hnsw_build.proofs.GoodLayers.{held_point, next_good, row_empty, step_layer, step_rows, next_sorted}
use Rattle.hnsw_build.proofs.Memory.{good, entry_of_row, ids_again, entries_held, entries_row, layer_in, upper_count}

-- what a batch changes goes by which ids are in it
pub change_sorted : (b : LayeredBuild) (is : IsLayered b) (layers : List (List (List ℕ))) (batch : List ℕ) (l : ℕ) → change_in b layers (ordered nat_cmp batch) l ≡ change_in b layers batch l
change_sorted b is layers batch l = ap (λ (new : ℕ → List ℕ). differing (row_of_layer layers l) new (range_with_len 0 (length b.points))) (next_sorted b is layers batch l)

module _ (points : List (List ℕ)) (s : HnswSettings) (levels : List ℕ) (is : IsLayered (build_of points s levels)) (k : ℕ) where
  abbrev b : LayeredBuild
  b = build_of points s levels

  abbrev layers : List (List (List ℕ))
  layers = layers_at points s levels k

  abbrev batch : List ℕ
  batch = batch_at (order_of points s levels) (batch_cap points s) (suc k)

  abbrev new : ℕ → ℕ → List ℕ
  new l = row_next b layers batch l

  before : AreGoodLayers b layers
  before = good points s levels is k

  next : suc k ≡ k + 1
  next = omega arith

  short : (l u : ℕ) → l ≤ top_of levels → u < length points → length (new l u) ≤ bound_of s.degree l
  short l u le at = (next_good b is layers before l le batch u at).short

  -- layer 0
  pub base_next : put_all (base_at points s levels k) (change_in b layers batch 0) ≡ base_at points s levels (k + 1)
  base_next =
      let rows = get_or layers 0 [] in
      let width = s.degree + s.degree in
      let count : length rows ≡ length points = before.count 0 (omega arith) in
      ap (λ m. put_all (flat_of width rows) (differing (row_in rows) (new 0) (range_with_len 0 m))) (sym count)
      ∙ put_differing rows (new 0) width (λ u at. short 0 u (omega arith) (subst (λ m. u < m) count at))
      ∙ ap (λ m. flat_of width (map (new 0) (range_with_len 0 m))) count
      ∙ ap (flat_of width) (sym (step_layer b is layers before batch 0 (omega arith)))
      ∙ ap (base_at points s levels) next

  -- a layer above it
  pub layer_after : (l : ℕ) → 1 ≤ l → l ≤ top_of levels → put_all_in_layer (layer_in points s levels is k l) (change_in b layers batch l) ≡ layer_in points s levels is (k + 1) l
  layer_after l some le =
      let entries = entries_at points s levels k l in
      let same : layer_ids entries ≡ ids_in levels l = ids_again (row_of_layer layers l) (ids_in levels l) in
      let bound : bound_of s.degree l ≡ s.degree = upper_bound s.degree l some in
      let held : (u : ℕ) → has (layer_ids entries) u ≡ is_in levels l u = entries_held points s levels is k l in
      put_differing_in_layer (length points) s.degree (row_of_layer layers l) (new l) entries
      (subst Ascends (sym same) (ids_ascend levels l))
      (λ u h. held_point b is l u (sym (held u) ∙ h))
      (λ u _. entries_row points s levels is k l u le)
      (λ u h. row_empty b is layers before batch l u le (sym (held u) ∙ h) ∙ sym (before.empty l u le (sym (held u) ∙ h)))
      (λ u h. subst (λ m. length (new l u) ≤ m) bound (short l u le (held_point b is l u (sym (held u) ∙ h))))
      ∙ (λ i. record { width = s.degree; entries = map (entry_of_row (sym (step_rows b is layers before batch l le) i)) (same i) })
      ∙ ap (λ m. layer_in points s levels is m l) next
    where
      upper_bound : (degree l : ℕ) → 1 ≤ l → bound_of degree l ≡ degree
      upper_bound degree l some = ap (λ t. cond t (degree + degree) degree) (ne_eqb l 0 (omega arith))

  -- and all of them
  pub upper_next : (upper after : List Layered) (changes : List (List (ℕ × List ℕ))) → upper ≡ upper_at points s levels k → changes ≡ map (change_in b layers batch) (range_with_len 1 (top_of levels)) → length after ≡ length upper
      → ((j : ℕ) (d : Layered) → j < length upper → get_or after j d ≡ put_all_in_layer (get_or upper j d) (get_or changes j [])) → after ≡ upper_at points s levels (k + 1)
  upper_next upper after changes old put same each =
      let many : length upper ≡ top_of levels = ap (λ (ls : List Layered). length ls) old ∙ upper_count points s levels is k in
      same_lists after (upper_at points s levels (k + 1)) (same ∙ many ∙ sym (upper_count points s levels is (k + 1)))
      (λ j d lt.
      let at : j < top_of levels = subst (λ m. j < m) (same ∙ many) lt in
      each j d (subst (λ m. j < m) same lt)
      ∙ (λ i. put_all_in_layer (get_or (old i) j d) (get_or (put i) j []))
      ∙ (λ i. put_all_in_layer (get_or-map-range_with_len (layer_in points s levels is k) 1 (top_of levels) j (suc j) d at (omega arith) i) (get_or-map-range_with_len (change_in b layers batch) 1 (top_of levels) j (suc j) [] at (omega arith) i))
      ∙ layer_after (suc j) (omega arith) (omega arith)
      ∙ sym (get_or-map-range_with_len (layer_in points s levels is (k + 1)) 1 (top_of levels) j (suc j) d at (omega arith)))
