-- Batch after batch the layers stay good.
use Rattle.std.proofs.Common.{◌≡◌, ◌≢◌, ℕ, zero, suc, ◌+◌, ◌<◌, ◌≤◌, Bool, true, false, cond, List, [], ◌∷◌, ◌++◌, length, get_or, refl, sym, ap, ◌∙◌, subst, inl, inr, arith}
use Rattle.std.specs.Prelude.{◌⊎◌, ◌==◌, ◌&&◌, not, nat_le, replicate}
use Rattle.std.specs.List.{All, IsDistinct, filter, range_with_len}
use Rattle.std.specs.Ordering.{nat_cmp}
use Rattle.std.proofs.lemmas.Bool.{cases_lt}
use Rattle.std.proofs.lemmas.List.{length-replicate, get_or-replicate}
use Rattle.std.proofs.Math.ListN.{get_or-eq_default}
use Rattle.std.proofs.lemmas.List.Elements.{All-nil}
use Rattle.std.proofs.lemmas.List.FromFn.{length-map-range_with_len, get_or-map-range_with_len}
use Rattle.ann_defs.specs.declared.near.Near.{Near}
use Rattle.ann_defs.specs.Distance.{point}
use Rattle.ann_defs.specs.Ordered.{Has, Ascends, ordered}
use Rattle.ann_defs.specs.Nearness.{ids_of}
use Rattle.ann_defs.specs.Graph.{has, without, row_in, IsGraph, IsGoodRow}
use Rattle.ann_defs.specs.GreedySearch.{start_of, found_of}
use Rattle.ann_defs.specs.RobustPrune.{pruned_row}
use Rattle.ann_defs.specs.BatchInsert.{batch_at, merge_with, laid_row, sources_to, row_then}
use Rattle.ann_defs.proofs.Order.{has-map, All_has}
use Rattle.ann_defs.proofs.Members.{all_from_has, has-append, filter_has, and_both}
use Rattle.ann_defs.proofs.SearchStates.{sound_start, sound_walk}
use Rattle.ann_defs.proofs.GoodRows.{prune_has, prune_without_good}
use Rattle.ann_defs.proofs.GoodGraphs.{row_then_good}
use Rattle.batch_insert.specs.Batch.{IsBatch}
use Rattle.batch_insert.proofs.Ascending.{Rises-filter, rises, ascends, ordered_rises, has_same}
use Rattle.batch_insert.proofs.LayerPut.{unheld_stays}
use Rattle.layered_search.specs.KnnSearch.{entries_down}
use Rattle.layered_search.proofs.Walking.{entries_next, entries_done}
use Rattle.hnsw_build.specs.Layering.{level_in, top_of, is_in}
use Rattle.hnsw_build.specs.LayeredInsert.{LayeredBuild, row_of_layer, bound_of, entries_for, found_for, new_row_in, inserts, merged_in, row_next, layer_next, layered_step, layers_after}
use Rattle.hnsw_build.specs.Laws.{IsLayered, AreGoodLayers}
use Rattle.hnsw_build.specs.Wanted.{batch_in}
use Rattle.hnsw_build.proofs.LevelFacts.{level_most, held_below, held_level, level_held, held_down, has_filtered}

none_good : (n degree u : ℕ) → IsGoodRow n degree u []
unfolding IsDistinct
none_good n degree u = record { inside = All-nil (λ v. v < n); distinct = tt; others = All-nil (λ v. v ≢ u); short = omega arith }

pub degree_fits : (degree l : ℕ) → degree ≤ bound_of degree l
degree_fits degree l = elim (l == 0) as (λ b. degree ≤ cond b (degree + degree) degree) [ true ↦ omega arith | false ↦ omega arith ]

-- a merged row has members of the row and the sources
merge_has : (prune : ℕ → List ℕ → List ℕ) (bound t : ℕ) (row sources : List ℕ) → ((set : List ℕ) (u : ℕ) → Has (prune t set) u → Has set u) → (u : ℕ) → Has (merge_with prune bound t row sources) u → Has row u ⊎ Has sources u
merge_has prune bound t row sources members u h =
    let added = row ++ filter (λ s. not (has row s)) sources in
    let from : Has added u → Has row u ⊎ Has sources u = λ m. elim (has-append row (filter (λ s. not (has row s)) sources) u m) as (λ _. Has row u ⊎ Has sources u) [ inl k ↦ inl k | inr k ↦ inr (filter_has (λ s. not (has row s)) sources u k).0 ] in
    elim (nat_le (length added) bound) as (λ b. Has (cond b added (prune t (without t added))) u → Has row u ⊎ Has sources u) [
      | true ↦ from
      | false ↦ λ m. from (filter_has (λ x. not (x == t)) added u (members (without t added) u m)).0
    ] h

module _ (b : LayeredBuild) (is : IsLayered b) where
  abbrev n : ℕ
  n = length b.points

  abbrev top : ℕ
  top = top_of b.levels

  abbrev held : ℕ → ℕ → Bool
  held l = is_in b.levels l

  pub held_point : (l u : ℕ) → held l u ≡ true → u < n
  held_point l u h = subst (λ m. u < m) is.levelled (held_below b.levels l u h)

  pub point_level : (u : ℕ) → u < n → level_in b.levels u ≤ top
  point_level u lt = level_most b.levels u (subst (λ m. u < m) (sym is.levelled) lt)

  pub point_held : (l u : ℕ) → u < n → l ≤ level_in b.levels u → held l u ≡ true
  point_held l u lt low = level_held b.levels l u (subst (λ m. u < m) (sym is.levelled) lt) low

  -- each layer holds the entry point
  pub start_held : (l : ℕ) → l ≤ top → held l b.start ≡ true
  start_held l le = let high = is.start_top in point_held l b.start is.start_below (omega (arith, high))

  module _ (layers : List (List (List ℕ))) (good : AreGoodLayers b layers) where
    abbrev row : ℕ → ℕ → List ℕ
    row = row_of_layer layers

    pub layer_graph : (l : ℕ) → l ≤ top → IsGraph n (held l) (row l)
    layer_graph l le = record {
      below = held_point l;
      inside = λ u h. good.inside l u le h;
      distinct = λ u h. (good.good l u le h).distinct;
    }

    -- a search in a layer finds ids of the layer
    pub found_held : (query : List ℕ) (beam : ℕ) (entries : List ℕ) (l : ℕ) → l ≤ top → ((u : ℕ) → Has entries u → held l u ≡ true) → (u : ℕ) → Has (ids_of (found_of b.points (row l) query beam entries)) u → held l u ≡ true
    found_held query beam entries l le all u h =
        let sound = sound_walk b.points (row l) query beam (held l) (layer_graph l le) n (start_of b.points (row l) query beam entries)
        (sound_start b.points (row l) query beam (held l) entries (all_from_has (λ v. held l v ≡ true) entries all)) in
        let from = has-map (λ (y : Near). y.id) (found_of b.points (row l) query beam entries) u h in
        subst (λ v. held l v ≡ true) from.2 (sound.found_right from.0 from.1).0

    -- so the entries into a layer are of the layer
    pub entries_held : (query : List ℕ) (beam : ℕ) (entries : List ℕ) (from to : ℕ) → from ≤ top → to ≤ from → ((u : ℕ) → Has entries u → held from u ≡ true) → (u : ℕ) → Has (entries_down b.points row query beam entries from to) u → held to u ≡ true
    entries_held query beam entries zero to high le all u h = let e : 0 ≡ to = omega arith in subst (λ l. held l u ≡ true) e (all u h)
    entries_held query beam entries (suc l) to high le all u h = elim (cases_lt to (suc l)) as (λ _. held to u ≡ true) [
      | inl less ↦
          let under : to ≤ l = omega (arith, less) in
          entries_held query beam (ids_of (found_of b.points (row (suc l)) query beam entries)) l to (omega arith) under
          (λ v m. held_down b.levels l (suc l) v (omega arith) (found_held query beam entries (suc l) high all v m)) u
          (subst (λ (ids : List ℕ). Has ids u) (entries_next b.points row query beam entries l to under) h)
      | inr more ↦
          let e : suc l ≡ to = omega (arith, more, le) in
          subst (λ k. held k u ≡ true) e (all u (subst (λ (ids : List ℕ). Has ids u) (entries_done b.points row query beam entries (suc l) to (omega (arith, more))) h))
    ]

    start_only : (l : ℕ) → l ≤ top → (u : ℕ) → Has (b.start ∷ []) u → held l u ≡ true
    start_only l le u h = elim h as (λ _. held l u ≡ true) [ inl e ↦ subst (λ v. held l v ≡ true) e (start_held l le) | inr m ↦ absurd m ]

    module _ (p : ℕ) (at : p < n) where
      abbrev query : List ℕ
      query = point b.points p

      abbrev level : ℕ
      level = level_in b.levels p

      -- the entries with which the level of p is entered
      pub first_held : (u : ℕ) → Has (entries_down b.points row query 1 (b.start ∷ []) top level) u → held level u ≡ true
      first_held = entries_held query 1 (b.start ∷ []) top level (omega arith) (point_level p at) (start_only top (omega arith))

      pub entries_for_held : (l : ℕ) → l ≤ level → (u : ℕ) → Has (entries_for b layers p l) u → held l u ≡ true
      entries_for_held l le = entries_held query b.beam (entries_down b.points row query 1 (b.start ∷ []) top level) level l (point_level p at) le first_held

      pub found_for_held : (l : ℕ) → l ≤ level → (u : ℕ) → Has (ids_of (found_for b layers p l)) u → held l u ≡ true
      found_for_held l le = let high = point_level p at in found_held query b.beam (entries_for b layers p l) l (omega (arith, high)) (entries_for_held l le)

      -- the new row of p in a layer
      pub new_row_good : (l : ℕ) → l ≤ level → IsGoodRow n b.degree p (new_row_in b layers l p)
      new_row_good l le = prune_without_good b.points p (ids_of (found_for b layers p l)) 1 1 b.degree n (λ u h. held_point l u (found_for_held l le u h))

      pub new_row_fits : (l : ℕ) → l ≤ level → IsGoodRow n (bound_of b.degree l) p (new_row_in b layers l p)
      new_row_fits l le =
          let is = new_row_good l le in
          let fits = degree_fits b.degree l in
          let short = is.short in
          record { inside = is.inside; distinct = is.distinct; others = is.others; short = omega (arith, fits, short) }

      pub new_row_held : (l : ℕ) → l ≤ level → All (λ v. held l v ≡ true) (new_row_in b layers l p)
      new_row_held l le =
          let found = ids_of (found_for b layers p l) in
          all_from_has (λ v. held l v ≡ true) (new_row_in b layers l p) (λ u h. found_for_held l le u (filter_has (λ x. not (x == p)) found u (prune_has b.points p (without p found) 1 1 b.degree u h)).0)

    -- a batch over a layer
    module _ (l : ℕ) (le : l ≤ top) (ids : List ℕ) where
      inserted : (u : ℕ) → inserts b ids l u ≡ true → held l u ≡ true
      inserted u h = (and_both (has ids u) (held l u) h).1

      inserted_point : (u : ℕ) → inserts b ids l u ≡ true → u < n
      inserted_point u h = held_point l u (inserted u h)

      pub batch_over : Ascends ids → IsBatch n (bound_of b.degree l) (held l) (row l) (inserts b ids l) (new_row_in b layers l) (batch_in b ids l)
      batch_over up = record {
        ascend = ascends (batch_in b ids l) (Rises-filter nat_cmp (held l) ids (rises ids up));
        listed = λ u. has_filtered (held l) ids u;
        below = held_point l;
        batch_held = inserted;
        old_good = λ u h. good.good l u le h;
        fresh_good = λ u h. new_row_fits u (inserted_point u h) l (held_level b.levels l u (inserted u h));
        fresh_held = λ u h. new_row_held u (inserted_point u h) l (held_level b.levels l u (inserted u h));
      }

      abbrev next : ℕ → List ℕ
      next = row_next b layers ids l

      all_good : (u : ℕ) → u < n → IsGoodRow n (bound_of b.degree l) u (row l u)
      all_good u at = elim (held l u) as (λ t. held l u ≡ t → IsGoodRow n (bound_of b.degree l) u (row l u)) [
        | true ↦ λ h. good.good l u le h
        | false ↦ λ h. subst (IsGoodRow n (bound_of b.degree l) u) (sym (good.empty l u le h)) (none_good n (bound_of b.degree l) u)
      ] refl

      pub next_good : (u : ℕ) → u < n → IsGoodRow n (bound_of b.degree l) u (next u)
      next_good = row_then_good n (bound_of b.degree l) (row l) (new_row_in b layers l) (inserts b ids l) (λ t set. pruned_row b.points t set 1 1 (bound_of b.degree l))
          (λ u at h. new_row_fits u at l (held_level b.levels l u (inserted u h))) all_good
          (λ t set inside. prune_without_good b.points t set 1 1 (bound_of b.degree l) n inside)

      laid_held : (u : ℕ) → held l u ≡ true → (v : ℕ) → Has (laid_row n (row l) (new_row_in b layers l) (inserts b ids l) (merged_in b l) u) v → held l v ≡ true
      laid_held u h v = elim (inserts b ids l u) as (λ t. inserts b ids l u ≡ t → Has (cond t (new_row_in b layers l u) (row l u)) v → held l v ≡ true) [
        | true ↦ λ e m. All_has (λ w. held l w ≡ true) (new_row_in b layers l u) v (new_row_held u (inserted_point u e) l (held_level b.levels l u h)) m
        | false ↦ λ _ m. All_has (λ w. held l w ≡ true) (row l u) v (good.inside l u le h) m
      ] refl

      pub next_held : (u : ℕ) → held l u ≡ true → All (λ v. held l v ≡ true) (next u)
      next_held u h =
          let laid = laid_row n (row l) (new_row_in b layers l) (inserts b ids l) (merged_in b l) u in
          let sources = sources_to n (row l) (new_row_in b layers l) (inserts b ids l) (merged_in b l) u in
          let prune : ℕ → List ℕ → List ℕ = λ t set. pruned_row b.points t set 1 1 (bound_of b.degree l) in
          all_from_has (λ v. held l v ≡ true) (next u) (λ v.
          elim (length sources == 0) as (λ t. Has (cond t laid (merge_with prune (bound_of b.degree l) u laid sources)) v → held l v ≡ true) [
            | true ↦ laid_held u h v
            | false ↦ λ m. elim (merge_has prune (bound_of b.degree l) u laid sources (λ set w k. prune_has b.points u set 1 1 (bound_of b.degree l) w k) v m) as (λ _. held l v ≡ true) [
              | inl k ↦ laid_held u h v k
              | inr k ↦ inserted v (and_both (inserts b ids l v) (has (new_row_in b layers l v) u) (filter_has _ (range_with_len 0 n) v k).1).0
            ]
          ])

      pub next_empty : Ascends ids → (u : ℕ) → held l u ≡ false → next u ≡ []
      next_empty up u h = unheld_stays n (bound_of b.degree l) (held l) (row l) (inserts b ids l) (new_row_in b layers l) (batch_in b ids l) (merged_in b l) (batch_over up) u h ∙ good.empty l u le h

  -- which ids are in a batch counts, and not their order
  pub next_sorted : (layers : List (List (List ℕ))) (batch : List ℕ) (l : ℕ) → row_next b layers (ordered nat_cmp batch) l ≡ row_next b layers batch l
  next_sorted layers batch l = ap (λ (h : ℕ → Bool). row_then n (row_of_layer layers l) (new_row_in b layers l) (λ u. h u && held l u) (merged_in b l)) (λ i u. has_same batch u i)

  module _ (layers : List (List (List ℕ))) (good : AreGoodLayers b layers) (batch : List ℕ) where
    sorted : Ascends (ordered nat_cmp batch)
    sorted = ascends (ordered nat_cmp batch) (ordered_rises batch)

    pub step_layer : (l : ℕ) → l ≤ top → get_or (layered_step b layers batch) l [] ≡ layer_next b layers batch l
    step_layer l le = get_or-map-range_with_len (layer_next b layers batch) 0 (top + 1) l l [] (omega arith) (omega arith)

    pub row_empty : (l u : ℕ) → l ≤ top → held l u ≡ false → row_next b layers batch l u ≡ []
    row_empty l u le h = ap (λ (f : ℕ → List ℕ). f u) (sym (next_sorted layers batch l)) ∙ next_empty layers good l le (ordered nat_cmp batch) sorted u h

    -- the rows after a batch
    pub step_rows : (l : ℕ) → l ≤ top → row_of_layer (layered_step b layers batch) l ≡ row_next b layers batch l
    step_rows l le = λ i u. at u i
      where
        at : (u : ℕ) → row_of_layer (layered_step b layers batch) l u ≡ row_next b layers batch l u
        at u = ap (λ (rows : List (List ℕ)). row_in rows u) (step_layer l le) ∙ elim (cases_lt u n) as (λ _. row_in (layer_next b layers batch l) u ≡ row_next b layers batch l u) [
          | inl less ↦ get_or-map-range_with_len (row_next b layers batch l) 0 n u u [] less (omega arith)
          | inr more ↦
              let long : length (layer_next b layers batch l) ≡ n = length-map-range_with_len (row_next b layers batch l) 0 n in
              let out : held l u ≡ false = elim (held l u) as (λ t. held l u ≡ t → t ≡ false) [ true ↦ λ h. let below = held_point l u h in absurd (omega (arith, below, more)) | false ↦ λ _. refl ] refl in
              get_or-eq_default (layer_next b layers batch l) [] (omega (arith, long, more)) ∙ sym (row_empty l u le out)
        ]

    pub step_good : AreGoodLayers b (layered_step b layers batch)
    step_good = record {
      count = λ l le. ap (λ (rows : List (List ℕ)). length rows) (step_layer l le) ∙ length-map-range_with_len (row_next b layers batch l) 0 n;
      good = λ l u le h. subst (λ (f : ℕ → List ℕ). IsGoodRow n (bound_of b.degree l) u (f u)) (next_sorted layers batch l ∙ sym (step_rows l le)) (next_good layers good l le (ordered nat_cmp batch) u (held_point l u h));
      inside = λ l u le h. subst (λ (f : ℕ → List ℕ). All (λ v. held l v ≡ true) (f u)) (next_sorted layers batch l ∙ sym (step_rows l le)) (next_held layers good l le (ordered nat_cmp batch) u h);
      empty = λ l u le h. ap (λ (f : ℕ → List ℕ). f u) (step_rows l le) ∙ row_empty l u le h;
    }

  pub none_layer : (l : ℕ) (order : List ℕ) (cap : ℕ) → l ≤ top → get_or (layers_after b order cap 0) l [] ≡ replicate n []
  none_layer l order cap le = get_or-replicate (top + 1) l (replicate n []) [] (omega arith)

  pub none_rows : (l u : ℕ) (order : List ℕ) (cap : ℕ) → l ≤ top → row_of_layer (layers_after b order cap 0) l u ≡ []
  none_rows l u order cap le = ap (λ (rows : List (List ℕ)). row_in rows u) (none_layer l order cap le) ∙ elim (cases_lt u n) as (λ _. get_or {A = List ℕ} (replicate n []) u [] ≡ []) [
    | inl less ↦ get_or-replicate n u [] [] less
    | inr more ↦ get_or-eq_default (replicate n []) [] (let long : length (replicate {A = List ℕ} n []) ≡ n = length-replicate n [] in omega (arith, long, more))
  ]

  pub layers_good : (order : List ℕ) (cap k : ℕ) → AreGoodLayers b (layers_after b order cap k)
  layers_good order cap zero = record {
    count = λ l le. ap (λ (rows : List (List ℕ)). length rows) (none_layer l order cap le) ∙ length-replicate n [];
    good = λ l u le h. subst (IsGoodRow n (bound_of b.degree l) u) (sym (none_rows l u order cap le)) (none_good n (bound_of b.degree l) u);
    inside = λ l u le h. subst (λ (r : List ℕ). All (λ v. held l v ≡ true) r) (sym (none_rows l u order cap le)) (All-nil (λ v. held l v ≡ true));
    empty = λ l u le h. none_rows l u order cap le;
  }
  layers_good order cap (suc k) = step_good (layers_after b order cap k) (layers_good order cap k) (batch_at order cap (suc k))
