-- One row of a layer.
use Rattle.std.proofs.Common.{◌≡◌, ℕ, ◌<◌, List, [], length, get_or, set, sym, ap, subst, ◌∙◌}
use Rattle.std.specs.Prelude.{◌==◌}
use Rattle.std.specs.List.{zip}
use Rattle.std.proofs.lemmas.Bool.{eqb-true}
use Rattle.std.proofs.lemmas.List.Sums.{passes_at_first}
use Rattle.ann_defs.specs.Graph.{has}
use Rattle.graph_rows.specs.Index.{layer_ids, layer_rows}
use Rattle.graph_rows.specs.Layers.{Layered, place_in, layer_row, with_layer_row}
use Rattle.graph_rows.proofs.LayerLists.{ids_zip, rows_zip, zip_set}

abbrev pub layered : ℕ → List (ℕ × List ℕ) → Layered
layered width entries = record { width = width; entries = entries }

-- what stands at an id's place is the id
at_place : (ids : List ℕ) (id i : ℕ) → i < length ids → i ≡ place_in ids id → get_or ids i 0 ≡ id
at_place ids id i lt is =
    ap (λ k. get_or ids k 0) is ∙ eqb-true (get_or ids (place_in ids id) 0) id (passes_at_first (λ x. x == id) ids 0 (subst (λ k. k < length ids) is lt))

module _ (l : Layered) (w : ℕ) (ids shown : List ℕ) (rows : List (List ℕ)) (id : ℕ) (view : layered w (zip ids rows) ≡ l) (same : length rows ≡ length ids) (are : shown ≡ ids) where
  ids_are : shown ≡ layer_ids l.entries
  ids_are = are ∙ sym (ids_zip ids rows same) ∙ ap (λ (k : Layered). layer_ids k.entries) view

  pub layer_has : has shown id ≡ has (layer_ids l.entries) id
  layer_has = ap (λ xs. has xs id) ids_are

  pub layer_get : (i : ℕ) → i ≡ place_in shown id → get_or rows i [] ≡ layer_row l id
  layer_get i is =
      let at : i ≡ place_in (layer_ids l.entries) id = is ∙ ap (λ xs. place_in xs id) ids_are in
      let all : rows ≡ layer_rows l.entries = sym (rows_zip ids rows same) ∙ ap (λ (k : Layered). layer_rows k.entries) view in
      ap (λ (rs : List (List ℕ)). get_or rs i []) all ∙ ap (λ k. get_or (layer_rows l.entries) k []) at

  pub layer_set : (i : ℕ) (row : List ℕ) → i < length shown → i ≡ place_in shown id → layered w (zip ids (set rows i row)) ≡ with_layer_row l id row
  layer_set i row lt is =
      let at : i ≡ place_in (layer_ids l.entries) id = is ∙ ap (λ xs. place_in xs id) ids_are in
      let within : i < length ids = subst (λ xs. i < length xs) are lt in
      let here : get_or ids i 0 ≡ id = at_place ids id i within (is ∙ ap (λ xs. place_in xs id) are) in
      ap (layered w) (zip_set ids rows i id row within here)
      ∙ ap (λ (k : Layered). layered k.width (set k.entries i (id, row))) view
      ∙ ap (λ k. layered l.width (set l.entries k (id, row))) at
