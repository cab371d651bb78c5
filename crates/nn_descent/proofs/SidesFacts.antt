-- What is gathered of both directions.
use Rattle.std.proofs.Common.{◌≡◌, ℕ, ◌<◌, ◌≤◌, true, not, List, [], ◌++◌, map, take, drop, length, sym, ap, ◌∙◌, subst, inl, inr, arith}
use Rattle.std.specs.Prelude.{◌==◌}
use Rattle.std.specs.List.{All, filter, range_with_len}
use Rattle.std.proofs.lemmas.List.{length-map}
use Rattle.ann_defs.specs.declared.near.Near.{Near}
use Rattle.ann_defs.specs.Distance.{point}
use Rattle.ann_defs.specs.Nearness.{near_cmp, near_of, all_near, ids_of}
use Rattle.ann_defs.specs.Graph.{has, without, row_in, AreGoodRows}
use Rattle.ann_defs.specs.Ordered.{Has, Rises, ordered}
use Rattle.ann_defs.specs.RobustPrune.{pruned_row}
use Rattle.ann_defs.proofs.Alike.{prune_alike}
use Rattle.ann_defs.proofs.Order.{has-map, fold_has, has_fold_new, Rises-fold_put, All_has}
use Rattle.ann_defs.proofs.NearOrder.{near_order}
use Rattle.ann_defs.proofs.GoodRows.{rising_once}
use Rattle.ann_defs.proofs.Members.{all_from_has, has-mapped, has-append, append-has, has-filter, filter_has, has_true, true_has, same_bool, range_has, distinct_once}
use Rattle.near_lists.specs.Gathered.{gathered, IsGathered}
use Rattle.near_lists.proofs.Gathering.{is_gathered, few_distinct}
use Rattle.neighbour_lists.specs.declared.edge.Edge.{Edge}
use Rattle.neighbour_lists.specs.Edges.{edges_of}
use Rattle.neighbour_lists.specs.ListRound.{sources_of}
use Rattle.neighbour_lists.proofs.Offers.{written_is}
use Rattle.neighbour_lists.proofs.Reversing.{sources_are}

module _ (points rows : List (List ℕ)) (list v : ℕ) (good : AreGoodRows (length points) list rows) where
  abbrev pub edges_to : List Edge
  edges_to = filter (λ e. e.target == v) (edges_of points rows)

  abbrev nears : List Near
  nears = map (λ (e : Edge). e.source) edges_to

  abbrev sources : List ℕ
  sources = without v (sources_of rows v)

  abbrev both : List ℕ
  both = row_in rows v ++ sources_of rows v

  abbrev by_source : List Near
  by_source = all_near points (point points v) sources

  listed : ordered near_cmp by_source ≡ nears
  listed = sources_are points list rows good v

  near_from : (z : Near) → Has nears z → (w : ℕ) × Has sources w × (near_of points (point points v) w ≡ z)
  near_from z h =
      let there : Has by_source z = elim (fold_has near_cmp [] by_source z (subst (λ zs. Has zs z) (sym listed) h)) as (λ _. Has by_source z) [ inl n ↦ absurd n | inr m ↦ m ] in
      has-map (near_of points (point points v)) sources z there

  near_there : (w : ℕ) → Has sources w → Has nears (near_of points (point points v) w)
  near_there w h = subst (λ zs. Has zs (near_of points (point points v) w)) listed
      (has_fold_new near_cmp near_order.exact [] by_source (near_of points (point points v) w) (has-mapped (near_of points (point points v)) sources w h))

  source_below : (w : ℕ) → Has (sources_of rows v) w → w < length points
  source_below w h =
      let range = range_has 0 (length rows) w (filter_has (λ u. has (row_in rows u) v) (range_with_len 0 (length rows)) w h).0 in
      omega (arith, range, good.count)

  member : (w : ℕ) → Has sources w → Has (sources_of rows v) w
  member w h = (filter_has (λ x. not (x == v)) (sources_of rows v) w h).0

  near_right : (z : Near) → Has nears z → z ≡ near_of points (point points v) z.id
  near_right z h = let from = near_from z h in sym from.2 ∙ ap (λ (y : Near). near_of points (point points v) y.id) from.2

  pub sources_inside : All (λ (x : Near). x.id < length points) nears
  sources_inside = all_from_has (λ (x : Near). x.id < length points) nears (λ z h.
      let from = near_from z h in subst (λ (y : Near). y.id < length points) from.2 (source_below from.0 (member from.0 from.1)))

  pub sources_near : All (λ (x : Near). x ≡ near_of points (point points v) x.id) nears
  sources_near = all_from_has (λ (x : Near). x ≡ near_of points (point points v) x.id) nears near_right

  -- no more sources than points
  pub sources_few : length edges_to ≤ length points
  sources_few =
      let up : Rises near_cmp nears = subst (Rises near_cmp) listed (Rises-fold_put near_cmp near_order [] by_source tt) in
      let once = rising_once points (point points v) nears up near_right in
      subst (λ k. k ≤ length points) (length-map edges_to (λ (e : Edge). e.source)) (few_distinct (length points) nears sources_inside (distinct_once (ids_of nears) once))

  -- the sources that were copied over the front of a list as long
  pub copied : (n count : ℕ) (written old lent : List Near) (to edges : List Edge) → length written ≡ n → lent ≡ take n (written ++ drop (length written) old) → take count written ≡ map (λ (e : Edge). e.source) to → to ≡ filter (λ e. e.target == v) edges → edges ≡ edges_of points rows → take count lent ≡ nears
  copied n count written old lent to edges long is list of_v all =
      ap (take count) (is ∙ written_is n written old long) ∙ list ∙ ap (map (λ (e : Edge). e.source)) (of_v ∙ ap (filter (λ (e : Edge). e.target == v)) all)

  to_both : (u : ℕ) → Has (ids_of nears ++ row_in rows v) u → Has both u
  to_both u h =
      elim (has-append (ids_of nears) (row_in rows v) u h) as (λ _. Has both u) [
        | inl m ↦
            let from = has-map (λ (x : Near). x.id) nears u m in
            let by = near_from from.0 from.1 in
            let id : by.0 ≡ u = ap (λ (x : Near). x.id) by.2 ∙ from.2 in
            append-has (row_in rows v) (sources_of rows v) u (inr (subst (Has (sources_of rows v)) id (member by.0 by.1)))
        | inr m ↦ append-has (row_in rows v) (sources_of rows v) u (inl m)
      ]

  -- an id other than v of both directions is gathered
  of_both : (u : ℕ) → not (u == v) ≡ true → Has both u → Has (ids_of nears ++ row_in rows v) u
  of_both u other h =
      elim (has-append (row_in rows v) (sources_of rows v) u h) as (λ _. Has (ids_of nears ++ row_in rows v) u) [
        | inl m ↦ append-has (ids_of nears) (row_in rows v) u (inr m)
        | inr m ↦ append-has (ids_of nears) (row_in rows v) u (inl
            (has-mapped (λ (x : Near). x.id) nears (near_of points (point points v) u) (near_there u (has-filter (λ x. not (x == v)) (sources_of rows v) u other m))))
      ]

  others : (u : ℕ) (xs ys : List ℕ) → ((w : ℕ) → not (w == v) ≡ true → Has xs w → Has ys w) → has (without v xs) u ≡ true → has (without v ys) u ≡ true
  others u xs ys same h =
      let parts = filter_has (λ x. not (x == v)) xs u (has_true (without v xs) u h) in
      true_has (without v ys) u (has-filter (λ x. not (x == v)) ys u parts.1 (same u parts.1 parts.0))

  pub alike : (u : ℕ) → has (without v (ids_of nears ++ row_in rows v)) u ≡ has (without v both) u
  alike u = same_bool _ _ (others u (ids_of nears ++ row_in rows v) both (λ w _. to_both w)) (others u both (ids_of nears ++ row_in rows v) of_both)

  -- both directions are gathered
  pub both_gathered : v < length points → IsGathered points v both (gathered v (nears ++ all_near points (point points v) (row_in rows v)))
  both_gathered lt =
      let g = is_gathered points v nears (row_in rows v) sources_inside sources_near (good.good v lt).inside in
      record { in_range = g.in_range; near = g.near; distinct = g.distinct; others = g.others; members = λ u. g.members u ∙ alike u }

-- pruned, they are the row of the set
pub pruned_gathered : (points : List (List ℕ)) (v : ℕ) (set : List ℕ) (nears : List Near) (num den degree : ℕ) → IsGathered points v set nears
    → pruned_row points v (ids_of nears) num den degree ≡ pruned_row points v (without v set) num den degree
pruned_gathered points v set nears num den degree g = prune_alike points v (ids_of nears) (without v set) num den degree g.members
