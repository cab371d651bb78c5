-- The rows of the ids that a layer holds.
use Rattle.std.proofs.Common.{◌≡◌, ℕ, ◌<◌, ◌≤◌, true, false, List, [], length, get_or, refl, sym, ◌∙◌, subst, arith}
use Rattle.std.specs.Prelude.{◌==◌, nat_eq}
use Rattle.std.specs.List.{All, IsDistinct, range_with_len}
use Rattle.std.proofs.lemmas.Bool.{true≢false, ne_eqb}
use Rattle.std.proofs.lemmas.List.{length-map, get_or-map, get_or_default}
use Rattle.std.proofs.Math.ListN.{get_or-eq_default}
use Rattle.std.proofs.lemmas.List.Sums.{position_or_len_is}
use Rattle.std.proofs.lemmas.List.Folds.{list_any_at, list_any_none}
use Rattle.std.proofs.lemmas.List.FromFn.{get_or-range_with_len, length-range_with_len}
use Rattle.std.proofs.lemmas.List.Elements.{All-get_or, All-from_get_or}
use Rattle.ann_defs.specs.Graph.{has, IsGraph}
use Rattle.ann_defs.specs.Ordered.{Ascends}
use Rattle.ann_defs.proofs.Members.{has_true}
use Rattle.ann_defs.proofs.Order.{Contains-from_has}
use Rattle.graph_rows.specs.Index.{layer_ids, layer_rows}
use Rattle.graph_rows.specs.Layers.{place_in}
use Rattle.graph_rows.specs.WellFormed.{IsRowIn, AreRowsOf}
use Rattle.graph_rows.proofs.Finding.{found}
use Rattle.layered_search.specs.Descent.{row_of_id}

-- an id that is held has a place
pub place_held : (ids : List ℕ) (u : ℕ) → Ascends ids → has ids u ≡ true → (place_in ids u < length ids) × (get_or ids (place_in ids u) 0 ≡ u)
place_held ids u up h =
    let at = Contains-from_has ids u (has_true ids u h) in
    let within : at.0 < length ids = at.1 in
    let here : get_or ids at.0 0 ≡ u = get_or_default ids at.0 0 u within ∙ at.2 in
    let place : at.0 ≡ place_in ids u = (found ids u at.0 up within here).0 in
    (subst (λ k. k < length ids) place within, subst (λ k. get_or ids k 0 ≡ u) place here)

-- one that isn't is sought behind the last
pub place_missing : (ids : List ℕ) (u : ℕ) → has ids u ≡ false → place_in ids u ≡ length ids
place_missing ids u h = position_or_len_is (λ x. x == u) ids (length ids) 0 (omega arith)
    (λ k less. elim (get_or ids k 0 == u) as (λ b. (get_or ids k 0 == u) ≡ b → b ≡ false) [
      | true ↦ λ e. absurd (true≢false (sym (list_any_at (λ x. x == u) ids k 0 less e) ∙ h))
      | false ↦ λ _. refl
    ] refl)
    (λ less. absurd (omega arith))

pub range_ascends : (n : ℕ) → Ascends (range_with_len 0 n)
range_ascends n j k less within =
    let k_below : k < n = subst (λ m. k < m) (length-range_with_len 0 n) within in
    let first = get_or-range_with_len 0 n j 0 (omega arith) in
    let second = get_or-range_with_len 0 n k 0 k_below in
    omega (arith, first, second)

module _ (layer : List (ℕ × List ℕ)) where
  abbrev ids : List ℕ
  ids = layer_ids layer

  abbrev entry : ℕ → ℕ × List ℕ
  entry u = get_or layer (place_in ids u) (0, [])

  count : length ids ≡ length layer
  count = length-map layer (λ (e : ℕ × List ℕ). e.0)

  -- the entry of an id that is held
  pub entry_held : (u : ℕ) → Ascends ids → has ids u ≡ true → (place_in ids u < length layer) × ((entry u).0 ≡ u) × (row_of_id layer u ≡ (entry u).1)
  entry_held u up h =
      let at = place_held ids u up h in
      let within : place_in ids u < length layer = subst (λ m. place_in ids u < m) count at.0 in (
        within,
        sym (get_or-map (λ (e : ℕ × List ℕ). e.0) layer (place_in ids u) (0, []) 0 within) ∙ at.1,
        get_or-map (λ (e : ℕ × List ℕ). e.1) layer (place_in ids u) (0, []) [] within,
      )

  -- an id that isn't held has no row
  pub row_missing : (u : ℕ) → has ids u ≡ false → row_of_id layer u ≡ []
  row_missing u h =
      let place = place_missing ids u h in
      let few : length (layer_rows layer) ≤ place_in ids u = let rows = length-map layer (λ (e : ℕ × List ℕ). e.1) in let all = count in omega (arith, rows, all, place) in
      get_or-eq_default (layer_rows layer) [] few

  -- a layer whose rows are its own is a graph of as many points as its ids are below
  pub layer_graph : (n bound : ℕ) → Ascends ids → ((u : ℕ) → has ids u ≡ true → u < n) → AreRowsOf (λ v. has ids v) bound layer → IsGraph n (λ u. has ids u) (row_of_id layer)
  layer_graph n bound up below rows = record {
    below = below;
    inside = λ u h. let at = entry_held u up h in
        subst (λ row. All (λ v. has ids v ≡ true) row) (sym at.2) (right u at.0).inside;
    distinct = λ u h. let at = entry_held u up h in
        subst (λ row. IsDistinct nat_eq row) (sym at.2) (right u at.0).distinct;
  }
    where
      right : (u : ℕ) → place_in ids u < length layer → IsRowIn (λ v. has ids v) bound (entry u).0 (entry u).1
      right u lt = All-get_or (λ (e : ℕ × List ℕ). IsRowIn (λ v. has ids v) bound e.0 e.1) layer (place_in ids u) (0, []) lt rows

-- no id at or above a count is below it
pub range_missing : (n u : ℕ) → n ≤ u → has (range_with_len 0 n) u ≡ false
range_missing n u le = list_any_none (λ x. x == u) (range_with_len 0 n) (All-from_get_or (λ x. (x == u) ≡ false) (range_with_len 0 n) 0 (λ k lt.
    let below : k < n = subst (λ m. k < m) (length-range_with_len 0 n) lt in
    let here = get_or-range_with_len 0 n k 0 below in
    ne_eqb (get_or (range_with_len 0 n) k 0) u (λ e. absurd (omega (arith, here, e, below, le)))))
