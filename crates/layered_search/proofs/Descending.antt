-- The rows of an index by their layers.
use Rattle.std.proofs.Common.{◌≡◌, ℕ, suc, ◌-◌, ◌<◌, List, [], ◌∷◌, map, length, get_or, sym, ap, ◌∙◌, subst, inl, inr, arith}
use Rattle.std.specs.List.{range_with_len}
use Rattle.std.proofs.lemmas.Bool.{cases_lt}
use Rattle.std.proofs.lemmas.List.{length-map}
use Rattle.std.proofs.Math.ListN.{get_or-map, get_or-eq_default}
use Rattle.std.proofs.lemmas.List.FromFn.{get_or-range_with_len, length-range_with_len}
use Rattle.ann_defs.specs.Graph.{row_in}
use Rattle.ann_defs.specs.GreedySearch.{found_of}
use Rattle.graph_rows.specs.Index.{Contents, layer_ids, layer_rows}
use Rattle.graph_rows.specs.Layers.{place_in}
use Rattle.graph_rows.specs.View.{contents}
use Rattle.graph_rows.specs.WellFormed.{base_of}
use Rattle.graph_rows.specs.declared.index.Index.{Index}
use Rattle.graph_rows.proofs.Finding.{found}
use Rattle.graph_rows.proofs.LayerLists.{rows_enumerate}
use Rattle.layered_search.specs.Descent.{row_of_id, contents_row, descent_in}
use Rattle.layered_search.specs.Entering.{upper_row}
use Rattle.layered_search.specs.KnnSearch.{entries_down}
use Rattle.layered_search.proofs.HeldRows.{place_missing, range_ascends, range_missing}
use Rattle.layered_search.proofs.Walking.{entries_same}
use Rattle.layered_search.proofs.Enterable.{entries_of}

-- in a layer of all ids below a count each row stands at its id
pub row_of_all : (n : ℕ) (layer : List (ℕ × List ℕ)) → layer_ids layer ≡ range_with_len 0 n → row_of_id layer ≡ row_in (layer_rows layer)
row_of_all n layer are = λ i u. at u i
  where
    many : length (layer_rows layer) ≡ n
    many = length-map layer (λ (e : ℕ × List ℕ). e.1) ∙ sym (length-map layer (λ (e : ℕ × List ℕ). e.0)) ∙ ap length are ∙ length-range_with_len 0 n

    at : (u : ℕ) → row_of_id layer u ≡ row_in (layer_rows layer) u
    at u = elim (cases_lt u n) as (λ _. row_of_id layer u ≡ row_in (layer_rows layer) u) [
      | inl less ↦
          let within : u < length (range_with_len 0 n) = subst (λ m. u < m) (sym (length-range_with_len 0 n)) less in
          let here : get_or (range_with_len 0 n) u 0 ≡ u = get_or-range_with_len 0 n u 0 less ∙ omega arith in
          ap (λ k. get_or (layer_rows layer) k []) (ap (λ (ids : List ℕ). place_in ids u) are ∙ sym (found (range_with_len 0 n) u u (range_ascends n) within here).0)
      | inr more ↦
          let place : place_in (layer_ids layer) u ≡ n = ap (λ (ids : List ℕ). place_in ids u) are ∙ place_missing (range_with_len 0 n) u (range_missing n u more) ∙ length-range_with_len 0 n in
          get_or-eq_default (layer_rows layer) [] (omega (arith, place, many)) ∙ sym (get_or-eq_default (layer_rows layer) [] (omega (arith, many, more)))
    ]

-- with one layer
pub one_layer : (points : List (List ℕ)) (i : Contents) (query : List ℕ) (beam : ℕ) → length i.layers ≡ 1 → layer_ids (base_of i) ≡ range_with_len 0 i.count
    → descent_in points i query beam ≡ found_of points (row_in (layer_rows (base_of i))) query beam (i.start ∷ [])
unfolding descent_in
one_layer points i query beam one all =
    let top : length i.layers - 1 ≡ 0 = omega arith in
    ap (λ t. found_of points (contents_row i 0) query beam (entries_down points (contents_row i) query 1 (i.start ∷ []) t 0)) top
    ∙ ap (λ (r : ℕ → List ℕ). found_of points r query beam (i.start ∷ [])) (row_of_all i.count (base_of i) all)

-- the rows of an index in memory
module _ (i : Index) where
  pub upper_rows : (l : ℕ) → upper_row i.upper.items (suc l) ≡ contents_row (contents i) (suc l)
  upper_rows l = ap (λ (e : List (ℕ × List ℕ)). row_of_id e) (sym (get_or-map entries_of i.upper.items l (record { width = 0; entries = [] })))

  pub descended : (points : List (List ℕ)) (query : List ℕ) (beam entry : ℕ) → layer_ids (base_of (contents i)) ≡ range_with_len 0 i.count
      → entry ∷ [] ≡ entries_down points (upper_row i.upper.items) query 1 (i.start ∷ []) (length i.upper.items) 0
      → found_of points (row_in i.base.rows) query beam (entry ∷ []) ≡ descent_in points (contents i) query beam
  unfolding descent_in
  descended points query beam entry all walked =
      let layers = contents_row (contents i) in
      let top : length i.upper.items ≡ length (contents i).layers - 1 = let many : length (map entries_of i.upper.items) ≡ length i.upper.items = length-map i.upper.items entries_of in omega arith in
      let base : row_in i.base.rows ≡ layers 0 = ap row_in (sym (rows_enumerate 0 i.base.rows)) ∙ sym (row_of_all i.count (base_of (contents i)) all) in
      let entries = walked ∙ entries_same points (upper_row i.upper.items) layers query 1 (i.start ∷ []) (length i.upper.items) 0 (λ l _. upper_rows l)
      ∙ ap (λ t. entries_down points layers query 1 (i.start ∷ []) t 0) top in
      λ k. found_of points (base k) query beam (entries k)
