-- From one graph of a build to the next.
use Rattle.std.proofs.Common.{◌≡◌, ℕ, suc, ◌+◌, ◌%◌, ◌<◌, ◌≤◌, Bool, List, [], length, map, sym, ap, ◌∙◌, subst, arith}
use Rattle.std.specs.List.{range_with_len}
use Rattle.std.specs.Ordering.{nat_cmp}
use Rattle.std.proofs.lemmas.List.FromFn.{get_or-map-range_with_len}
use Rattle.ann_defs.specs.Ordered.{ordered}
use Rattle.ann_defs.specs.Graph.{row_in, AreGoodRows}
use Rattle.ann_defs.specs.BatchInsert.{Build, new_row_of, merged_row_of, last_row_of, row_then, batch_step, batch_at, at_batch, total_of}
use Rattle.ann_defs.proofs.Members.{range_has}
use Rattle.ann_defs.proofs.GoodGraphs.{graph_after_good, last_row_good}
use Rattle.vamana_build.specs.declared.settings.VamanaSettings.{VamanaSettings}
use Rattle.vamana_build.specs.Builds.{order_of, batch_cap, pass_of, build_of, build_at, start_of, rows_at, graph_at}
use Rattle.batch_insert.specs.Changes.{differing, put_all}
use Rattle.vamana_build.specs.Changes.{change_at}
use Rattle.batch_insert.proofs.Ascending.{has_same}
use Rattle.batch_insert.proofs.Differing.{differing_same, put_differing, flat_of}

-- the row after a batch goes by which ids are in the batch
last_row_sorted : (b : Build) (graph : List (List ℕ)) (batch : List ℕ) (t : ℕ) → last_row_of b graph (ordered nat_cmp batch) t ≡ last_row_of b graph batch t
last_row_sorted b graph batch t = ap (λ (h : ℕ → Bool). row_then (length b.points) (row_in graph) (new_row_of b graph) h (merged_row_of b) t) (λ i u. has_same batch u i)

-- the rows that differ after a batch are those that differ after the step
plain_step : (b : Build) (graph : List (List ℕ)) (batch : List ℕ) → differing (row_in graph) (last_row_of b graph batch) (range_with_len 0 (length b.points)) ≡ differing (row_in graph) (row_in (batch_step b graph batch)) (range_with_len 0 (length b.points))
plain_step b graph batch =
    let n = length b.points in
    differing_same (row_in graph) (last_row_of b graph batch) (row_in (batch_step b graph batch)) (range_with_len 0 n) (λ u h.
    let within = range_has 0 n u h in
    sym (get_or-map-range_with_len (last_row_of b graph batch) 0 n u u [] (omega (arith, within.1)) (omega arith)))

-- so they are where the batch is in ascending order
sorted_step : (b : Build) (graph : List (List ℕ)) (batch : List ℕ) → differing (row_in graph) (last_row_of b graph (ordered nat_cmp batch)) (range_with_len 0 (length b.points)) ≡ differing (row_in graph) (row_in (batch_step b graph batch)) (range_with_len 0 (length b.points))
sorted_step b graph batch =
    let n = length b.points in
    differing_same (row_in graph) (last_row_of b graph (ordered nat_cmp batch)) (last_row_of b graph batch) (range_with_len 0 n) (λ u _. last_row_sorted b graph batch u)
    ∙ plain_step b graph batch

module _ (points : List (List ℕ)) (s : VamanaSettings) (starts : start_of points s < length points) (k : ℕ) where
  abbrev n : ℕ
  n = length points

  abbrev b : Build
  b = build_at points s k

  next : k + 1 ≡ suc k
  next = omega arith

  pub rows_good : AreGoodRows n s.degree (rows_at points s k)
  rows_good = graph_after_good (build_of points s) starts (order_of points s) (batch_cap points s) k

  abbrev pub batch_of : List ℕ
  batch_of = batch_at (order_of points s) (batch_cap points s) (k % pass_of points s + 1)

  module _ (whole : length (order_of points s) ≡ n) where
    -- the next graph is one step on
    step_is : rows_at points s (suc k) ≡ batch_step b (rows_at points s k) batch_of
    step_is =
        let order = order_of points s in
        let cap = batch_cap points s in
        λ i. batch_step (at_batch (build_of points s) (total_of (whole i) cap) (sym next i)) (rows_at points s k) (batch_at order cap (k % total_of (whole i) cap + 1))

    -- the rows after the batch, in ascending order, are the next graph's
    pub next_row : (u : ℕ) → u < n → last_row_of b (rows_at points s k) (ordered nat_cmp batch_of) u ≡ row_in (rows_at points s (k + 1)) u
    next_row u at =
        last_row_sorted b (rows_at points s k) batch_of u
        ∙ sym (get_or-map-range_with_len (last_row_of b (rows_at points s k) batch_of) 0 n u u [] at (omega arith))
        ∙ ap (λ (rows : List (List ℕ)). row_in rows u) (sym step_is)
        ∙ ap (λ m. row_in (rows_at points s m) u) (sym next)

    -- the rows that differ after the batch, in ascending order, are the change
    pub change_right : differing (row_in (rows_at points s k)) (last_row_of b (rows_at points s k) (ordered nat_cmp batch_of)) (range_with_len 0 n) ≡ (change_at points s k).rows
    change_right =
        sorted_step b (rows_at points s k) batch_of
        ∙ ap (λ (rows : List (List ℕ)). differing (row_in (rows_at points s k)) (row_in rows) (range_with_len 0 n)) (sym step_is)
        ∙ ap (λ m. differing (row_in (rows_at points s k)) (row_in (rows_at points s m)) (range_with_len 0 n)) (sym next)

    -- and it leads to the next graph
    pub change_leads : put_all (graph_at points s k) (change_at points s k).rows ≡ graph_at points s (k + 1)
    change_leads =
        let graph = rows_at points s k in
        let new = last_row_of b graph batch_of in
        let good = rows_good in
        let short : (u : ℕ) → u < length graph → length (new u) ≤ s.degree = λ u h. (last_row_good b starts graph good batch_of u (subst (λ m. u < m) good.count h)).short in
        ap (put_all (graph_at points s k)) (sym change_right ∙ sorted_step b graph batch_of ∙ sym (plain_step b graph batch_of))
        ∙ ap (λ m. put_all (graph_at points s k) (differing (row_in graph) new (range_with_len 0 m))) (sym good.count)
        ∙ put_differing graph new s.degree short
        ∙ ap (λ m. flat_of s.degree (map new (range_with_len 0 m))) good.count
        ∙ ap (flat_of s.degree) (sym step_is)
        ∙ ap (graph_at points s) (sym next)
