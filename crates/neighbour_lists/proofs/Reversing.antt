-- The edges to a target, in order, are its reverse neighbours.
use Rattle.std.proofs.Common.{◌≡◌, ◌≢◌, ℕ, ◌<◌, Bool, not, List, [], ◌∷◌, map, take, length, refl, sym, ap, ◌∙◌, subst, inl, inr, arith}
use Rattle.std.specs.Prelude.{◌==◌}
use Rattle.std.specs.List.{filter, flat_map, range_with_len, All}
use Rattle.std.specs.declared.cmp.Ordering.TheVariants.{Less, Equal}
use Rattle.std.specs.Ordering.{nat_cmp, ordering_then}
use Rattle.std.specs.Cmp.{nat_cmp_is}
use Rattle.std.proofs.lemmas.Cmp.{on_total, then_total, nat_cmp_total}
use Rattle.std.proofs.lemmas.Map.Lookups.{exact_pairs, exact_unsigned}
use Rattle.std.proofs.lemmas.Bool.{eqb-true, eq-eqb, ne_eqb}
use Rattle.std.proofs.lemmas.List.{take-map}
use Rattle.std.proofs.lemmas.Simd.{map-map}
use Rattle.ann_defs.specs.declared.near.Near.{Near}
use Rattle.ann_defs.specs.Distance.{point}
use Rattle.ann_defs.specs.Nearness.{near_cmp, near_of, all_near, ids_of, least}
use Rattle.ann_defs.specs.Ordered.{Has, Rises, IsBelow, ordered}
use Rattle.ann_defs.specs.Graph.{has, without, row_in, AreGoodRows}
use Rattle.ann_defs.proofs.Order.{IsExactOrder, Rises-fold_put, ordered_is, fold_has, has_fold_new, has-map, has-take, All_has}
use Rattle.ann_defs.proofs.NearOrder.{near_order}
use Rattle.ann_defs.proofs.Members.{has-mapped, has-flat, flat-has, filter_has, has-filter, has_true, true_has, range_has, all_from_has}
use Rattle.batch_insert.proofs.Ascending.{Rises-filter}
use Rattle.neighbour_lists.specs.declared.edge.Edge.{Edge}
use Rattle.neighbour_lists.specs.Edges.{edge_cmp, edge_to, edges_from, edges_of}
use Rattle.neighbour_lists.specs.Reversed.{reverse_in}
use Rattle.neighbour_lists.specs.ListRound.{sources_of, reverse_of}

pub edge_order : IsExactOrder edge_cmp
edge_order = record {
  total = then_total (on_total (λ (e : Edge). e.target) nat_cmp_total) (on_total (λ (e : Edge). e.source) near_order.total);
  exact = λ a b h. ap (λ (p : ℕ × Near). record { target = p.0; source = p.1 }) (exact_pairs nat_cmp near_cmp exact_unsigned near_order.exact (a.target, a.source) (b.target, b.source) h);
}

-- edges of one target rise by their sources
less_sources : (a b : Edge) → a.target ≡ b.target → edge_cmp a b ≡ Less → near_cmp a.source b.source ≡ Less
less_sources a b e h =
    let tie : nat_cmp a.target b.target ≡ Equal = sym (nat_cmp_is a.target b.target Equal e) in
    sym (ap (λ r. ordering_then r (near_cmp a.source b.source)) tie) ∙ h

sources_below : (t : ℕ) (x : Edge) (xs : List Edge) → x.target ≡ t → ((z : Edge) → Has xs z → z.target ≡ t) → IsBelow edge_cmp x xs → IsBelow near_cmp x.source (map (λ (e : Edge). e.source) xs)
sources_below t x [] e f h = tt
sources_below t x (y ∷ xs) e f h = (less_sources x y (e ∙ sym (f y (inl refl))) h.0, sources_below t x xs e (λ z m. f z (inr m)) h.1)

sources_rise : (t : ℕ) (xs : List Edge) → ((z : Edge) → Has xs z → z.target ≡ t) → Rises edge_cmp xs → Rises near_cmp (map (λ (e : Edge). e.source) xs)
sources_rise t [] f h = tt
sources_rise t (x ∷ xs) f h = (sources_below t x xs (f x (inl refl)) (λ z m. f z (inr m)) h.0, sources_rise t xs (λ z m. f z (inr m)) h.1)

module _ (points : List (List ℕ)) (list : ℕ) (rows : List (List ℕ)) (good : AreGoodRows (length points) list rows) (u : ℕ) where
  abbrev ids : List ℕ
  ids = range_with_len 0 (length rows)

  abbrev all : List Edge
  all = flat_map (edges_from points rows) ids

  abbrev to : Edge → Bool
  to e = e.target == u

  abbrev kept : List Edge
  kept = filter to (edges_of points rows)

  abbrev holds : ℕ → Bool
  holds w = has (row_in rows w) u

  abbrev near : List Near
  near = all_near points (point points u) (without u (sources_of rows u))

  -- an edge to u comes from a point whose row holds u
  edge_from : (e : Edge) → Has kept e → (w : ℕ) × Has (without u (sources_of rows u)) w × (near_of points (point points u) w ≡ e.source)
  edge_from e h =
      let is = filter_has to (edges_of points rows) e h in
      let among : Has all e = elim (fold_has edge_cmp [] all e is.0) as (λ _. Has all e) [ inl n ↦ absurd n | inr m ↦ m ] in
      let from = has-flat (edges_from points rows) ids e among in
      let w = from.0 in
      let item = has-map (edge_to points w) (row_in rows w) e from.2 in
      let target : item.0 ≡ u = ap (λ (x : Edge). x.target) item.2 ∙ eqb-true e.target u is.1 in
      let in_row : Has (row_in rows w) u = subst (Has (row_in rows w)) target item.1 in
      let below : w < length points = let range = range_has 0 (length rows) w from.1 in let count = good.count in omega (arith, range, count) in
      let apart : w ≢ u = λ same. All_has (λ x. x ≢ w) (row_in rows w) u (good.good w below).others in_row (sym same) in
      let there : Has (sources_of rows u) w = has-filter holds ids w (true_has (row_in rows w) u in_row) from.1 in (
        w,
        has-filter (λ x. not (x == u)) (sources_of rows u) w (ap not (ne_eqb w u apart)) there,
        ap (λ t. near_of points (point points t) w) (sym target) ∙ ap (λ (x : Edge). x.source) item.2,
      )

  -- a point whose row holds u has an edge to it
  edge_there : (w : ℕ) → Has (sources_of rows u) w → Has kept (edge_to points w u)
  edge_there w h =
      let is = filter_has holds ids w h in
      let item = has-mapped (edge_to points w) (row_in rows w) u (has_true (row_in rows w) u is.1) in
      let among : Has all (edge_to points w u) = flat-has (edges_from points rows) ids w (edge_to points w u) is.0 item in
      has-filter to (edges_of points rows) (edge_to points w u) (eq-eqb u u refl) (has_fold_new edge_cmp edge_order.exact [] all (edge_to points w u) among)

  -- the sources of the edges to u, nearest first
  pub sources_are : ordered near_cmp near ≡ map (λ (e : Edge). e.source) kept
  sources_are =
      ordered_is near_cmp near_order near (map (λ (e : Edge). e.source) kept)
      (sources_rise u kept (λ e h. eqb-true e.target u (filter_has to (edges_of points rows) e h).1) (Rises-filter edge_cmp to (edges_of points rows) (Rises-fold_put edge_cmp edge_order [] all tt)))
      (λ z h.
      let from = has-map (near_of points (point points u)) (without u (sources_of rows u)) z h in
      let source = (filter_has (λ x. not (x == u)) (sources_of rows u) from.0 from.1).0 in
      subst (Has (map (λ (e : Edge). e.source) kept)) from.2 (has-mapped (λ (e : Edge). e.source) kept (edge_to points from.0 u) (edge_there from.0 source)))
      (λ z h.
      let from = has-map (λ (e : Edge). e.source) kept z h in
      let source = edge_from from.0 from.1 in
      subst (Has near) (source.2 ∙ from.2) (has-mapped (near_of points (point points u)) (without u (sources_of rows u)) source.0 source.1))

  pub reversed : reverse_in (edges_of points rows) list u ≡ reverse_of points list rows u
  reversed =
      ap (take list) (sym (map-map (λ (z : Near). z.id) (λ (e : Edge). e.source) kept))
      ∙ ap (λ (zs : List Near). take list (ids_of zs)) (sym sources_are)
      ∙ take-map (λ (z : Near). z.id) list (ordered near_cmp near)

  -- reverse neighbours are points
  pub reverse_inside : All (λ w. w < length points) (reverse_of points list rows u)
  reverse_inside = all_from_has (λ w. w < length points) (reverse_of points list rows u) (λ w h.
      let from = has-map (λ (z : Near). z.id) (least near list) w h in
      let item = has-take list (ordered near_cmp near) from.0 from.1 in
      let member : Has near from.0 = elim (fold_has near_cmp [] near from.0 item) as (λ _. Has near from.0) [ inl n ↦ absurd n | inr m ↦ m ] in
      let source = has-map (near_of points (point points u)) (without u (sources_of rows u)) from.0 member in
      let is : source.0 ≡ w = ap (λ (z : Near). z.id) source.2 ∙ from.2 in
      let there = filter_has (λ x. not (x == u)) (sources_of rows u) source.0 source.1 in
      let range = range_has 0 (length rows) source.0 (filter_has holds ids source.0 there.0).0 in
      let count = good.count in
      omega (arith, range, count, is))
