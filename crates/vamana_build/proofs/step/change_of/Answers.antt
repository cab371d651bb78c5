use Rattle.std.proofs.Common.{◌≡◌, ◌∙◌, suc, ◌+◌, ◌-◌, ◌%◌, ◌<◌, ◌≤◌, ap, sym, subst, ℕ, List, length, take, drop, arith, rules, length-take, length-drop}
use Rattle.std.specs.List.{All, range_with_len}
use Rattle.std.specs.Ordering.{nat_cmp}
use Rattle.std.proofs.lemmas.List.Elements.{All-take, All-drop}
use Rattle.ann_defs.specs.Graph.{row_in, AreGoodRows}
use Rattle.ann_defs.specs.Ordered.{Ascends, ordered}
use Rattle.ann_defs.specs.BatchInsert.{Build, at_batch, batch_at, last_row_of}
use Rattle.ann_defs.specs.declared.alpha.Alpha.{Alpha}
use Rattle.vamana_build.proofs.Factors.{settled_on}
use Rattle.graph_rows.specs.Flat.{Flat}
use Rattle.vamana_build.specs.declared.settings.VamanaSettings.{VamanaSettings}
use Rattle.vamana_build.specs.Builds.{order_of, batch_cap, pass_of, build_of, build_at, build_by, start_of, rows_at, graph_at}
use Rattle.vamana_build.specs.Settled.{AreSettled}
use Rattle.vamana_build.specs.Changes.{Change, change_at}
use Rattle.batch_insert.specs.Changes.{differing}
use Rattle.batch_insert.proofs.Ascending.{All-ordered, some_ordered}
use Rattle.vamana_build.proofs.Plans.{start_below, batch_is}
use Rattle.vamana_build.proofs.Stepping.{rows_good, batch_of, change_right, next_row}
use Rattle.vamana_build.proofs.SettledRows.{settled_same}
use Rattle.vamana_build.proofs.step.change_of.Goals as goal

pub invariant_of-rows : goal.invariant_of-rows
invariant_of-rows g c =
    let plan = c.args.plan.now in
    let n = length plan.points.now.vectors in
    let part = take (c.args.to - c.args.from) (drop c.args.from plan.order.items) in
    let items : c.in_ok-batch.batch.items ≡ take (c.args.to - c.args.from) (drop c.args.from c.deref.result.now) = search rules in
    let list : c.in_ok-batch.batch.items ≡ part = items ∙ ap (λ (xs : List ℕ). take (c.args.to - c.args.from) (drop c.args.from xs)) c.deref.ensures.value in
    let sorted : c.as_slice.result.now ≡ ordered nat_cmp part = c.as_slice.ensures.value ∙ c.sort_ids.ensures.items ∙ ap (ordered nat_cmp) list in
    let short : length part ≤ n = simp (length-take, length-drop) (omega arith) in
    record {
      good = subst (λ (f : Flat). AreGoodRows n plan.settings.degree f.rows) (sym c.requires.graph) (rows_good plan.points.now.vectors plan.settings (start_below plan) c.args.k);
      batch_fits = subst (All (λ p. p < n)) (sym sorted) (All-ordered (λ p. p < n) part (All-take (λ p. p < n) (c.args.to - c.args.from) (drop c.args.from plan.order.items) (All-drop (λ p. p < n) c.args.from plan.order.items plan.inside)));
      ascend = subst Ascends (sym c.as_slice.ensures.value) c.sort_ids.ensures.ascend;
      few =
          let many : length c.as_slice.result.now ≤ length c.in_ok-batch.batch.items = subst (λ (xs : List ℕ). length xs ≤ length c.in_ok-batch.batch.items) (sym c.as_slice.ensures.value) c.sort_ids.ensures.few in
          let same : length c.in_ok-batch.batch.items ≡ length part = ap length list in
          omega (arith, many, same, short);
    }

pub rows_changed-requires-clause-some : goal.rows_changed-requires-clause-some
rows_changed-requires-clause-some g c κs within =
    let plan = c.args.plan.now in
    let part = take (c.args.to - c.args.from) (drop c.args.from plan.order.items) in
    let items : c.in_ok-batch.batch.items ≡ take (c.args.to - c.args.from) (drop c.args.from c.deref.result.now) = search rules in
    let list : c.in_ok-batch.batch.items ≡ part = items ∙ ap (λ (xs : List ℕ). take (c.args.to - c.args.from) (drop c.args.from xs)) c.deref.ensures.value in
    let sorted : c.as_slice.result.now ≡ ordered nat_cmp part = c.as_slice.ensures.value ∙ c.sort_ids.ensures.items ∙ ap (ordered nat_cmp) list in
    let whole = plan.whole in
    let some : 0 < length part = simp (length-take, length-drop) (omega (arith, whole)) in
    subst (λ (xs : List ℕ). 0 < length xs) (sym sorted) (some_ordered part some)

-- the factor of the batch is that of the definition
by_is : (points : List (List ℕ)) (s : VamanaSettings) (k : ℕ) (alpha : Alpha) → alpha.num ≡ (build_at points s k).num → alpha.den ≡ (build_at points s k).den → build_by points s alpha ≡ build_at points s k
by_is points s k alpha num den = λ i. record (build_of points s) { num = num i; den = den i }

pub rows_changed-requires-clause-settled : goal.rows_changed-requires-clause-settled
rows_changed-requires-clause-settled g c κs within =
    let plan = c.args.plan.now in
    subst (λ (b : Build). AreSettled b (row_in c.args.graph.now.rows) c.args.counts.now) (sym (by_is plan.points.now.vectors plan.settings c.args.k c.alpha_after.result c.alpha_after.ensures.num c.alpha_after.ensures.den))
    (subst (λ (f : Flat). AreSettled (build_at plan.points.now.vectors plan.settings c.args.k) (row_in f.rows) c.args.counts.now) (sym c.requires.graph) c.requires.settled)

-- the batch of the definition, in ascending order
sorted : (g : _) (c : goal.After-drop-batch-2 g) → c.as_slice.result.now ≡ ordered nat_cmp (batch_of c.args.plan.now.points.now.vectors c.args.plan.now.settings (start_below c.args.plan.now) c.args.k)
sorted g c =
    let plan = c.args.plan.now in
    let points = plan.points.now.vectors in
    let items : c.in_ok-batch.batch.items ≡ take (c.args.to - c.args.from) (drop c.args.from c.deref.result.now) = search rules in
    let list : c.in_ok-batch.batch.items ≡ take (c.args.to - c.args.from) (drop c.args.from plan.order.items) = items ∙ ap (λ (xs : List ℕ). take (c.args.to - c.args.from) (drop c.args.from xs)) c.deref.ensures.value in
    let batch = list ∙ batch_is plan (c.args.k % c.args.pass) c.args.from c.args.to c.requires.from c.requires.to ∙ ap (λ (m : ℕ). batch_at (order_of points plan.settings) (batch_cap points plan.settings) (c.args.k % m + 1)) c.requires.pass in
    c.as_slice.ensures.value ∙ c.sort_ids.ensures.items ∙ ap (ordered nat_cmp) batch

-- pruned by the factor of the definition
by : (g : _) (c : goal.After-drop-batch-2 g) → build_by c.args.plan.now.points.now.vectors c.args.plan.now.settings c.alpha_after.result ≡ build_at c.args.plan.now.points.now.vectors c.args.plan.now.settings c.args.k
by g c = by_is c.args.plan.now.points.now.vectors c.args.plan.now.settings c.args.k c.alpha_after.result c.alpha_after.ensures.num c.alpha_after.ensures.den

pub returns-clause-settled : goal.returns-clause-settled
returns-clause-settled g c =
    let plan = c.args.plan.now in
    let points = plan.points.now.vectors in
    let s = plan.settings in
    let next : c.args.k + 1 + 1 ≡ suc (c.args.k + 1) = omega arith in
    subst (λ (m : ℕ). AreSettled (at_batch (build_of points s) (pass_of points s) m) (row_in (rows_at points s (c.args.k + 1))) c.rows_changed.new.counts) (sym next)
    (settled_on (build_of points s) s.alpha.some s.alpha.ordered (row_in (rows_at points s (c.args.k + 1))) c.rows_changed.new.counts (pass_of points s) (c.args.k + 1)
    (settled_same (build_at points s c.args.k) _ (row_in (rows_at points s (c.args.k + 1))) c.rows_changed.new.counts (next_row points s (start_below plan) c.args.k (sym (ap length plan.ordered) ∙ plan.whole))
    (subst (λ (f : Flat). AreSettled (build_at points s c.args.k) (last_row_of (build_at points s c.args.k) f.rows (ordered nat_cmp (batch_of points s (start_below plan) c.args.k))) c.rows_changed.new.counts) c.requires.graph
    (subst (λ (ids : List ℕ). AreSettled (build_at points s c.args.k) (last_row_of (build_at points s c.args.k) c.args.graph.now.rows ids) c.rows_changed.new.counts) (sorted g c)
    (subst (λ (b : Build). AreSettled b (last_row_of b c.args.graph.now.rows c.as_slice.result.now) c.rows_changed.new.counts) (by g c) c.in_ok-changed.ensures.settled)))))

pub returns-clause-change : goal.returns-clause-change
returns-clause-change g c =
    let plan = c.args.plan.now in
    let points = plan.points.now.vectors in
    let s = plan.settings in
    made points s c.args.k (start_below plan) c.args.graph.now c.as_slice.result.now c.in_ok-changed.changed c.new.result c.requires.graph (sorted g c) (c.in_ok-changed.ensures.rows ∙ ap (λ (b : Build). differing (row_in c.args.graph.now.rows) (last_row_of b c.args.graph.now.rows c.as_slice.result.now) (range_with_len 0 (length points))) (by g c)) c.new.ensures (sym (ap length plan.ordered) ∙ plan.whole)
  where
    made : (points : List (List ℕ)) (s : VamanaSettings) (k : ℕ) (starts : start_of points s < length points) (graph : Flat) (batch : List ℕ) (rows : List (ℕ × List ℕ)) (change : Change) → graph ≡ graph_at points s k → batch ≡ ordered nat_cmp (batch_of points s starts k) → rows ≡ differing (row_in graph.rows) (last_row_of (build_at points s k) graph.rows batch) (range_with_len 0 (length points)) → change ≡ record { batch = k + 1; rows = rows } → length (order_of points s) ≡ length points → change ≡ change_at points s k
    made points s k starts graph batch rows change g b e f whole =
        let all : rows ≡ (change_at points s k).rows = e ∙ (λ i. differing (row_in (g i).rows) (last_row_of (build_at points s k) (g i).rows (b i)) (range_with_len 0 (length points))) ∙ change_right points s starts k whole in
        f ∙ (λ i. record { batch = k + 1; rows = all i })
