-- One turn of the walk down.
use Rattle.std.proofs.Common.{◌≡◌, ℕ, zero, suc, ◌+◌, ◌-◌, ◌<◌, ◌≤◌, true, List, [], ◌∷◌, length, get_or, sym, ap, ◌∙◌, subst, inl, inr, arith}
use Rattle.std.proofs.lemmas.Bool.{cases_lt}
use Rattle.std.proofs.lemmas.List.{get_or_default}
use Rattle.ann_defs.specs.Nearness.{ids_of}
use Rattle.ann_defs.specs.GreedySearch.{found_of}
use Rattle.ann_defs.specs.Graph.{has, IsGraph}
use Rattle.graph_rows.specs.Index.{layer_ids}
use Rattle.graph_rows.specs.Layers.{Layered, layer_row}
use Rattle.layered_search.specs.KnnSearch.{entries_down}
use Rattle.layered_search.specs.Entering.{AreEnterable, layer_at, holds_at, upper_row}
use Rattle.layered_search.proofs.Walking.{entries_next}

module _ (layers : List Layered) (layer : ℕ) (here : Layered) (some : 0 < layer) (within : layer ≤ length layers) (is : here ≡ get_or layers (layer - 1) here) where
  pub layer_is : here ≡ layer_at layers (layer - 1)
  layer_is = is ∙ get_or_default layers (layer - 1) here (record { width = 0; entries = [] }) (omega arith)

  module _ (n start : ℕ) (can : AreEnterable n start layers) where
    pub graph_here : IsGraph n (λ u. has (layer_ids here.entries) u) (layer_row here)
    graph_here = subst (λ (l : Layered). IsGraph n (λ u. has (layer_ids l.entries) u) (layer_row l)) (sym layer_is) (can.graphs (layer - 1) (omega arith))

    pub below_here : (id : ℕ) → has (layer_ids here.entries) id ≡ true → id < n
    below_here id h = graph_here.below id h

    held_under : (k id : ℕ) → k < length layers → holds_at layers k id ≡ true → (j : ℕ) → j ≤ k → holds_at layers j id ≡ true
    held_under zero id lt h j le = let e : 0 ≡ j = omega arith in subst (λ i. holds_at layers i id ≡ true) e h
    held_under (suc k) id lt h j le = elim (cases_lt j (suc k)) as (λ _. holds_at layers j id ≡ true) [
      | inl less ↦
          let next : suc k ≡ k + 1 = omega arith in
          held_under k id (omega arith) (can.nested k (omega arith) id (subst (λ i. holds_at layers i id ≡ true) next h)) j (omega (arith, less))
      | inr not ↦ let e : suc k ≡ j = omega (arith, not, le) in subst (λ i. holds_at layers i id ≡ true) e h
    ]

    -- what is found here is held by each layer below
    pub held_here : (id : ℕ) → has (layer_ids here.entries) id ≡ true → (k : ℕ) → k < layer - 1 → holds_at layers k id ≡ true
    held_here id h k lt = held_under (layer - 1) id (omega arith) (subst (λ (l : Layered). has (layer_ids l.entries) id ≡ true) layer_is h) k (omega arith)

  -- one layer down
  pub walked_here : (points : List (List ℕ)) (query : List ℕ) (entry next to : ℕ) → to < layer → next ∷ [] ≡ ids_of (found_of points (layer_row here) query 1 (entry ∷ []))
      → entries_down points (upper_row layers) query 1 (next ∷ []) (layer - 1) to ≡ entries_down points (upper_row layers) query 1 (entry ∷ []) layer to
  walked_here points query entry next to above found =
      let row = upper_row layers in
      let same : suc (layer - 1) ≡ layer = omega arith in
      ap (λ (ids : List ℕ). entries_down points row query 1 ids (layer - 1) to) (found ∙ ap (λ (l : Layered). ids_of (found_of points (layer_row l) query 1 (entry ∷ []))) layer_is)
      ∙ sym (entries_next points row query 1 (entry ∷ []) (layer - 1) to (omega arith))
      ∙ ap (λ l. entries_down points row query 1 (entry ∷ []) l to) same
