-- The finished index.
use Rattle.std.proofs.Common.{◌≡◌, ℕ, zero, suc, ◌+◌, ◌<◌, ◌≤◌, Bool, true, cond, List, [], ◌∷◌, map, drop, length, get_or, refl, sym, ap, ◌∙◌, subst, inl, inr, arith, lit≤}
use Rattle.std.specs.Prelude.{nat_lt}
use Rattle.std.specs.List.{filter, range_with_len, enumerate_from}
use Rattle.std.proofs.lemmas.Bool.{lt-ltb, ne_eqb}
use Rattle.std.proofs.lemmas.List.{length-map, get_or_default, same_lists}
use Rattle.std.proofs.lemmas.Simd.{map-map}
use Rattle.std.proofs.lemmas.List.FromFn.{length-map-range_with_len, get_or-map-range_with_len, length-enumerate_from, get_or-enumerate_from}
use Rattle.ann_defs.specs.Distance.{dim_of}
use Rattle.ann_defs.specs.Graph.{has, row_in}
use Rattle.ann_defs.specs.Ordered.{Has, Ascends}
use Rattle.ann_defs.proofs.Order.{has-map}
use Rattle.ann_defs.proofs.Members.{all_from_has, filter_has, true_has, has_true, both_and, range_has}
use Rattle.graph_rows.specs.Flat.{Flat}
use Rattle.graph_rows.specs.Index.{layer_ids}
use Rattle.graph_rows.specs.Layers.{Layered}
use Rattle.graph_rows.specs.WellFormed.{layers_fit, base_of, IsRowIn, AreRowsOf, IsFurtherLayer, AreFurtherLayers, IsWellFormed}
use Rattle.hnsw_build.specs.declared.plan.HnswPlan.{HnswPlan}
use Rattle.hnsw_build.specs.declared.settings.HnswSettings.{HnswSettings}
use Rattle.hnsw_build.specs.Layering.{top_of, is_in, ids_in}
use Rattle.hnsw_build.specs.LayeredInsert.{row_of_layer, bound_of}
use Rattle.hnsw_build.specs.HnswBuilds.{start_of, batches_of, build_of, layers_at, entries_at, base_at, upper_at}
use Rattle.hnsw_build.specs.HnswIndex.{hnsw_index}
use Rattle.hnsw_build.specs.Laws.{IsLayered, AreGoodLayers}
use Rattle.hnsw_build.proofs.LevelFacts.{ids_ascend, held_down, base_held}
use Rattle.hnsw_build.proofs.PlanFacts.{plan_layered, plan_low}
use Rattle.hnsw_build.proofs.GoodLayers.{start_held}
use Rattle.hnsw_build.proofs.NewLayers.{has_some}
use Rattle.hnsw_build.proofs.Memory.{good, entry_of_row, ids_again, entries_held, layer_in}

-- where each passes, all stay
all_pass : (t : ℕ → Bool) (xs : List ℕ) → ((u : ℕ) → Has xs u → t u ≡ true) → filter t xs ≡ xs
all_pass t [] h = refl
all_pass t (x ∷ xs) h = ap (λ b. cond b (x ∷ filter t xs) (filter t xs)) (h x (inl refl)) ∙ ap (λ ys. x ∷ ys) (all_pass t xs (λ u m. h u (inr m)))

module _ (points : List (List ℕ)) (s : HnswSettings) (levels : List ℕ) (is : IsLayered (build_of points s levels)) (k : ℕ) where
  abbrev layers : List (List (List ℕ))
  layers = layers_at points s levels k

  abbrev entries : ℕ → List (ℕ × List ℕ)
  entries = entries_at points s levels k

  whole : AreGoodLayers (build_of points s levels) layers
  whole = good points s levels is k

  pub base_ids : ids_in levels 0 ≡ range_with_len 0 (length points)
  base_ids =
      all_pass (is_in levels 0) (range_with_len 0 (length levels)) (λ u h.
      let within = range_has 0 (length levels) u h in
      base_held levels u ∙ lt-ltb u (length levels) (omega (arith, within.1)))
      ∙ ap (range_with_len 0) is.levelled

  -- layer 0 as a file tells it
  pub base_entries : enumerate_from 0 (get_or layers 0 []) ≡ entries 0
  base_entries =
      let rows = get_or layers 0 [] in
      let count : length rows ≡ length points = whole.count 0 (omega arith) in
      let listed : entries 0 ≡ map (entry_of_row (row_in rows)) (range_with_len 0 (length points)) = ap (map (entry_of_row (row_in rows))) base_ids in
      let many : length (map (entry_of_row (row_in rows)) (range_with_len 0 (length points))) ≡ length points = length-map-range_with_len (entry_of_row (row_in rows)) 0 (length points) in
      same_lists (enumerate_from 0 rows) (map (entry_of_row (row_in rows)) (range_with_len 0 (length points))) (length-enumerate_from 0 rows ∙ count ∙ sym many)
      (λ j d lt.
      let at : j < length points = subst (λ m. j < m) (length-enumerate_from 0 rows ∙ count) lt in
      let within : j < length rows = subst (λ m. j < m) (sym count) at in
      get_or-enumerate_from 0 rows j d within
      ∙ (λ i. (zero_plus j i, get_or_default rows j d.1 [] within i))
      ∙ sym (get_or-map-range_with_len (entry_of_row (row_in rows)) 0 (length points) j j d at (omega arith)))
      ∙ sym listed
    where
      zero_plus : (j : ℕ) → 0 + j ≡ j
      zero_plus j = omega arith

  -- all layers as a file tells them
  pub layers_entries : (base : Flat) (upper : List Layered) → base ≡ base_at points s levels k → upper ≡ upper_at points s levels k → enumerate_from 0 base.rows ∷ map (λ (l : Layered). l.entries) upper ≡ map entries (range_with_len 0 (top_of levels + 1))
  layers_entries base upper base_is upper_is =
      let more : suc (top_of levels) ≡ top_of levels + 1 = omega arith in
      (λ i. enumerate_from 0 (base_is i).rows ∷ map (λ (l : Layered). l.entries) (upper_is i))
      ∙ (λ i. base_entries i ∷ map-map (λ (l : Layered). l.entries) (layer_in points s levels is k) (range_with_len 1 (top_of levels)) i)
      ∙ ap (λ m. map entries (range_with_len 0 m)) more

  -- the rows of a layer are right
  pub entries_right : (l : ℕ) → l ≤ top_of levels → AreRowsOf (is_in levels l) (bound_of s.degree l) (entries l)
  entries_right l le = all_from_has (λ (e : ℕ × List ℕ). IsRowIn (is_in levels l) (bound_of s.degree l) e.0 e.1) (entries l) (λ e h.
      let from = has-map (entry_of_row (row_of_layer layers l)) (ids_in levels l) e h in
      let u = from.0 in
      let held : is_in levels l u ≡ true = (filter_has (is_in levels l) (range_with_len 0 (length levels)) u from.1).1 in
      let row = whole.good l u le held in
      subst (λ (x : ℕ × List ℕ). IsRowIn (is_in levels l) (bound_of s.degree l) x.0 x.1) from.2
      (record { inside = whole.inside l u le held; distinct = row.distinct; others = row.others; short = row.short }))

  held_path : (l : ℕ) → (λ v. has (layer_ids (entries l)) v) ≡ is_in levels l
  held_path l = λ i v. entries_held points s levels is k l v i

  upper_bound : (l : ℕ) → 1 ≤ l → bound_of s.degree l ≡ s.degree
  upper_bound l some = ap (λ t. cond t (s.degree + s.degree) s.degree) (ne_eqb l 0 (omega arith))

  start_there : (l : ℕ) → l ≤ top_of levels → has (layer_ids (entries l)) (start_of points s levels) ≡ true
  start_there l le = entries_held points s levels is k l (start_of points s levels) ∙ start_held (build_of points s levels) is l le

  some_entries : (l : ℕ) → l ≤ top_of levels → 1 ≤ length (entries l)
  some_entries l le =
      let ids = has_some (layer_ids (entries l)) (start_of points s levels) (has_true (layer_ids (entries l)) (start_of points s levels) (start_there l le)) in
      let same = length-map (entries l) (λ (e : ℕ × List ℕ). e.0) in
      omega (arith, ids, same)

  -- a layer over another
  further : (l : ℕ) (below : ℕ → Bool) → 1 ≤ l → l ≤ top_of levels → ((v : ℕ) → is_in levels l v ≡ true → below v ≡ true) → IsFurtherLayer (start_of points s levels) s.degree below (entries l)
  further l below some le under = record {
    some = some_entries l le;
    ascend = subst Ascends (sym (ids_again (row_of_layer layers l) (ids_in levels l))) (ids_ascend levels l);
    inside = all_from_has (λ v. below v ≡ true) (layer_ids (entries l)) (λ v h. under v (sym (entries_held points s levels is k l v) ∙ true_has (layer_ids (entries l)) v h));
    has_start = start_there l le;
    rows = subst (λ (h : ℕ → Bool). AreRowsOf h s.degree (entries l)) (sym (held_path l)) (subst (λ m. AreRowsOf (is_in levels l) m (entries l)) (upper_bound l some) (entries_right l le));
  }

  pub all_further : (l count : ℕ) (below : ℕ → Bool) → 1 ≤ l → l + count ≤ top_of levels + 1 → ((v : ℕ) → is_in levels l v ≡ true → below v ≡ true) → AreFurtherLayers (start_of points s levels) s.degree below (map entries (range_with_len l count))
  all_further l zero below some le under = tt
  all_further l (suc count) below some le under = (
    further l below some (omega arith) under,
    all_further (l + 1) count (λ v. has (layer_ids (entries l)) v) (omega arith) (omega arith) (λ v h. entries_held points s levels is k l v ∙ held_down levels l (l + 1) v (omega arith) h),
  )

-- the definition's index is well formed
pub well_formed : (p : HnswPlan) → 1 ≤ dim_of p.points.now.vectors → dim_of p.points.now.vectors ≤ 2048 → IsWellFormed (hnsw_index p.points.now.vectors p.settings p.levels.items)
well_formed p wide narrow =
    let points = p.points.now.vectors in
    let n = length points in
    let s = p.settings in
    let levels = p.levels.items in
    let is = plan_layered p in
    let T = batches_of points s in
    let top = top_of levels in
    let low = plan_low p in
    let entries = entries_at points s levels T in
    let more : top + 1 ≡ suc top = omega arith in
    let all : map entries (range_with_len 0 (top + 1)) ≡ entries 0 ∷ map entries (range_with_len 1 top) = ap (λ m. map entries (range_with_len 0 m)) more in
    let many : length (map entries (range_with_len 0 (top + 1))) ≡ top + 1 = length-map-range_with_len entries 0 (top + 1) in
    let base : base_of (hnsw_index points s levels) ≡ entries 0 = ap (λ (ls : List (List (ℕ × List ℕ))). get_or ls 0 []) all in
    let held : is_in levels 0 ≡ (λ v. nat_lt v n) = λ i v. (base_held levels v ∙ ap (nat_lt v) p.levelled) i in
    let few = p.count.1 in
    let thin = p.degree.1 in
    record {
      kind = (lit≤ tt, lit≤ tt);
      count = (p.count.0, omega (arith, few));
      dim = (wide, omega (arith, narrow));
      degree = (p.degree.0, omega (arith, thin));
      start = is.start_below;
      layers = ap (layers_fit 2) many ∙ both_and (nat_lt 0 (top + 1)) (nat_lt (top + 1) 17) (lt-ltb 0 (top + 1) (omega arith)) (lt-ltb (top + 1) 17 (omega (arith, low)));
      base = ap layer_ids base ∙ ids_again (row_of_layer (layers_at points s levels T) 0) (ids_in levels 0) ∙ base_ids points s levels is T;
      rows = subst (λ (layer : List (ℕ × List ℕ)). AreRowsOf (λ v. nat_lt v n) (s.degree + s.degree) layer) (sym base)
          (subst (λ (h : ℕ → Bool). AreRowsOf h (s.degree + s.degree) (entries 0)) held (entries_right points s levels is T 0 (omega arith)));
      upper = subst (λ (ls : List (List (ℕ × List ℕ))). AreFurtherLayers (start_of points s levels) s.degree (λ v. nat_lt v n) (drop 1 ls)) (sym all)
          (all_further points s levels is T 1 top (λ v. nat_lt v n) (omega arith) (omega arith)
          (λ v h. sym (ap (λ (f : ℕ → Bool). f v) held) ∙ held_down levels 0 1 v (omega arith) h));
      stamp = tt;
    }
