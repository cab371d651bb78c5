-- The layers of a well-formed index can be walked down.
use Rattle.std.proofs.Common.{◌≡◌, ℕ, zero, suc, ◌+◌, ◌<◌, Bool, true, List, [], ◌∷◌, map, length, get_or, sym, ap, ◌∙◌, subst, arith}
use Rattle.std.specs.Prelude.{nat_lt}
use Rattle.std.proofs.Math.ListN.{get_or-map}
use Rattle.std.proofs.lemmas.Bool.{ltb-true}
use Rattle.std.proofs.lemmas.List.{length-map}
use Rattle.ann_defs.specs.Graph.{has, IsGraph, AreGoodRows}
use Rattle.ann_defs.proofs.Members.{has_true}
use Rattle.ann_defs.proofs.Order.{All_has}
use Rattle.graph_rows.specs.Index.{layer_ids}
use Rattle.graph_rows.specs.Layers.{Layered}
use Rattle.graph_rows.specs.View.{contents}
use Rattle.graph_rows.specs.WellFormed.{IsFurtherLayer, AreFurtherLayers, IsWellFormed, base_bound}
use Rattle.graph_rows.specs.declared.index.Index.{Index}
use Rattle.graph_rows.proofs.FlatIndex.{base_good}
use Rattle.graph_rows.proofs.LayerLists.{rows_enumerate}
use Rattle.layered_search.specs.Descent.{row_of_id}
use Rattle.layered_search.specs.Entering.{AreEnterable, layer_at, holds_at}
use Rattle.layered_search.proofs.HeldRows.{layer_graph}

abbrev Entries : Type 0
Entries = List (ℕ × List ℕ)

abbrev holds : List Entries → ℕ → ℕ → Bool
holds layers k id = has (layer_ids (get_or layers k [])) id

module _ (start degree : ℕ) where
  further_starts : (below : ℕ → Bool) (layers : List Entries) (k : ℕ) → AreFurtherLayers start degree below layers → k < length layers → holds layers k start ≡ true
  further_starts below [] k f lt = absurd (omega arith)
  further_starts below (layer ∷ layers) zero f lt = f.0.has_start
  further_starts below (layer ∷ layers) (suc k) f lt = further_starts (λ v. has (layer_ids layer) v) layers k f.1 (omega arith)

  further_nested : (below : ℕ → Bool) (layers : List Entries) (k : ℕ) → AreFurtherLayers start degree below layers → suc k < length layers → (id : ℕ) → holds layers (suc k) id ≡ true → holds layers k id ≡ true
  further_nested below [] k f lt id h = absurd (omega arith)
  further_nested below (layer ∷ []) k f lt id h = absurd (omega arith)
  further_nested below (layer ∷ next ∷ layers) zero f lt id h = All_has (λ v. has (layer_ids layer) v ≡ true) (layer_ids next) id f.1.0.inside (has_true (layer_ids next) id h)
  further_nested below (layer ∷ next ∷ layers) (suc k) f lt id h = further_nested (λ v. has (layer_ids layer) v) (next ∷ layers) k f.1 (omega arith) id h

  module _ (n : ℕ) where
    further_graph : (below : ℕ → Bool) (layers : List Entries) (k : ℕ) → ((v : ℕ) → below v ≡ true → v < n) → AreFurtherLayers start degree below layers → k < length layers → IsGraph n (holds layers k) (row_of_id (get_or layers k []))
    further_graph below [] k within f lt = absurd (omega arith)
    further_graph below (layer ∷ layers) zero within f lt = layer_graph layer n degree f.0.ascend (inner below layer within f.0) f.0.rows
      where
        inner : (below : ℕ → Bool) (layer : Entries) → ((v : ℕ) → below v ≡ true → v < n) → IsFurtherLayer start degree below layer → (u : ℕ) → has (layer_ids layer) u ≡ true → u < n
        inner below layer within f u h = within u (All_has (λ v. below v ≡ true) (layer_ids layer) u f.inside (has_true (layer_ids layer) u h))
    further_graph below (layer ∷ layers) (suc k) within f lt = further_graph (λ v. has (layer_ids layer) v) layers k
        (λ v h. within v (All_has (λ u. below u ≡ true) (layer_ids layer) v f.0.inside (has_true (layer_ids layer) v h))) f.1 (omega arith)

abbrev pub entries_of : Layered → Entries
entries_of l = l.entries

module _ (n start degree : ℕ) (layers : List Layered) (f : AreFurtherLayers start degree (λ v. nat_lt v n) (map entries_of layers)) where
  same : (k : ℕ) → get_or (map entries_of layers) k [] ≡ (layer_at layers k).entries
  same k = get_or-map entries_of layers k (record { width = 0; entries = [] })

  many : length (map entries_of layers) ≡ length layers
  many = length-map layers entries_of

  within : (k : ℕ) → k < length layers → k < length (map entries_of layers)
  within k lt = subst (λ m. k < m) (sym many) lt

  pub further_enterable : start < n → AreEnterable n start layers
  further_enterable low = record {
    start_below = low;
    graphs = λ k lt. subst (λ (e : Entries). IsGraph n (λ u. has (layer_ids e) u) (row_of_id e)) (same k)
        (further_graph start degree n (λ v. nat_lt v n) (map entries_of layers) k (λ v h. ltb-true v n h) f (within k lt));
    starts = λ k lt. subst (λ (e : Entries). has (layer_ids e) start ≡ true) (same k) (further_starts start degree (λ v. nat_lt v n) (map entries_of layers) k f (within k lt));
    nested = λ k lt id h.
        let next : k + 1 ≡ suc k = omega arith in
        let above : holds (map entries_of layers) (suc k) id ≡ true = ap (λ (e : Entries). has (layer_ids e) id) (same (suc k)) ∙ subst (λ j. holds_at layers j id ≡ true) next h in
        sym (ap (λ (e : Entries). has (layer_ids e) id) (same k)) ∙ further_nested start degree (λ v. nat_lt v n) (map entries_of layers) k f (subst (λ j. j < length (map entries_of layers)) next (within (k + 1) lt)) id above;
  }

-- the rows of the lowest layer are good
pub base_rows : (n : ℕ) (x : Index) → IsWellFormed (contents x) → x.count ≡ n → AreGoodRows n (base_bound (contents x).kind x.degree) x.base.rows
base_rows n x well many =
    let bound = base_bound (contents x).kind x.degree in
    subst (λ (m : ℕ). AreGoodRows m bound x.base.rows) many (subst (λ (held : List (List ℕ)). AreGoodRows x.count bound held) (rows_enumerate 0 x.base.rows) (base_good (contents x) well))
