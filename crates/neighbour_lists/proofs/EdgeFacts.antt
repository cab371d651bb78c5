-- What holds of the edges of lists.
use Rattle.std.proofs.Common.{◌≡◌, ℕ, ◌<◌, List, [], take, length, true, get_or, sym, ap, ◌∙◌, subst, inl, inr, arith}
use Rattle.std.specs.Prelude.{◌==◌, min}
use Rattle.std.specs.List.{All, filter, flat_map, range_with_len}
use Rattle.std.proofs.lemmas.List.{take-map, take_min}
use Rattle.std.proofs.lemmas.List.Elements.{All-take, All-map, All-filter, Contains-get_or}
use Rattle.ann_defs.specs.Graph.{has, row_in, AreGoodRows}
use Rattle.ann_defs.specs.Ordered.{Has}
use Rattle.ann_defs.proofs.Order.{fold_has, has-map, has_from_Contains, All_has}
use Rattle.ann_defs.proofs.Members.{all_from_has, has-mapped, has-flat, has_true, true_has, range_has}
use Rattle.neighbour_lists.specs.declared.edge.Edge.{Edge}
use Rattle.neighbour_lists.specs.Edges.{edge_cmp, edge_to, edges_from, edges_of}
use Rattle.neighbour_lists.specs.Reversed.{reverse_in, edge_ids}

module _ (points rows : List (List ℕ)) where
  -- what holds of the edge from each point to each of its list
  pub all_edges : (P : Edge → Type 0) → ((u v : ℕ) → u < length rows → Has (row_in rows u) v → P (edge_to points u v)) → All P (edges_of points rows)
  all_edges P h =
      let all = flat_map (edges_from points rows) (range_with_len 0 (length rows)) in
      all_from_has P (edges_of points rows) (λ z m.
      let there : Has all z = elim (fold_has edge_cmp [] all z m) as (λ _. Has all z) [ inl n ↦ absurd n | inr k ↦ k ] in
      let from = has-flat (edges_from points rows) (range_with_len 0 (length rows)) z there in
      let item = has-map (edge_to points from.0) (row_in rows from.0) z from.2 in
      let below = (range_has 0 (length rows) from.0 from.1).1 in
      subst P item.2 (h from.0 item.0 (omega arith) item.1))

  pub sources_inside : All (λ (e : Edge). e.source.id < length rows) (edges_of points rows)
  sources_inside = all_edges (λ (e : Edge). e.source.id < length rows) (λ u v h m. h)

  pub targets_inside : (n list : ℕ) → AreGoodRows n list rows → All (λ (e : Edge). e.target < n) (edges_of points rows)
  targets_inside n list good = all_edges (λ (e : Edge). e.target < n) (λ u v h m. All_has (λ w. w < n) (row_in rows u) v (good.good u (omega (arith, h, good.count))).inside m)

-- the nearest reverse edges
pub nearest_edges : (edges : List Edge) (list v m : ℕ) (to : List Edge) → to ≡ filter (λ (e : Edge). e.target == v) edges → m ≡ min (length to) list → edge_ids (take m to) ≡ reverse_in edges list v
nearest_edges edges list v m to is least =
    let same : m ≡ min list (length to) = omega arith in
    ap (λ (es : List Edge). edge_ids es) (ap (λ k. take k to) same ∙ take_min list to)
    ∙ sym (take-map (λ (e : Edge). e.source.id) list to)
    ∙ ap (λ (es : List Edge). take list (edge_ids es)) is

-- the nearest reverse neighbours are among all sources
pub reverse_inside : (edges : List Edge) (list v n : ℕ) → All (λ (e : Edge). e.source.id < n) edges → All (λ u. u < n) (reverse_in edges list v)
reverse_inside edges list v n h =
    let mine = filter (λ (e : Edge). e.target == v) edges in
    All-take (λ u. u < n) list (edge_ids mine) (All-map (λ u. u < n) (λ (e : Edge). e.source.id) mine (All-filter (λ (e : Edge). e.target == v) (λ (e : Edge). e.source.id < n) edges h))

-- a source at a place is among the sources
pub source_there : (edges : List Edge) (i id : ℕ) (d : Edge) → i < length edges → (get_or edges i d).source.id ≡ id → has (edge_ids edges) id ≡ true
source_there edges i id d within is =
    true_has (edge_ids edges) id (subst (Has (edge_ids edges)) is (has-mapped (λ (e : Edge). e.source.id) edges (get_or edges i d) (has_from_Contains edges (get_or edges i d) (Contains-get_or edges i d within))))

-- what holds of the source of each edge
pub all_sources : (P : ℕ → Type 0) (edges : List Edge) → All (λ (e : Edge). P e.source.id) edges → (u : ℕ) → has (edge_ids edges) u ≡ true → P u
all_sources P edges all u h =
    let from = has-map (λ (e : Edge). e.source.id) edges u (has_true (edge_ids edges) u h) in
    subst P from.2 (All_has (λ (e : Edge). P e.source.id) edges from.0 all from.1)
