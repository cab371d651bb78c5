use Rattle.std.proofs.Common.{◌≡◌, ◌+◌, ◌-◌, ◌<◌, ◌∙◌, ℕ, List, map, take, drop, length, sym, ap, subst, rules}
use Rattle.std.specs.Result.{IfOk}
use Rattle.std.specs.List.{All, range_with_len}
use Rattle.std.specs.Ordering.{nat_cmp}
use Rattle.std.proofs.lemmas.List.Elements.{All-take, All-drop}
use Rattle.ann_defs.specs.Ordered.{ordered}
use Rattle.ann_defs.specs.BatchInsert.{batch_at}
use Rattle.batch_insert.proofs.Ascending.{All-ordered}
use Rattle.hnsw_build.specs.declared.batch.BatchChange.{BatchChange}
use Rattle.hnsw_build.specs.Layering.{top_of}
use Rattle.hnsw_build.specs.Grown.{build_in, layers_in}
use Rattle.hnsw_build.specs.Wanted.{change_in}
use Rattle.hnsw_build.proofs.PlanFacts.{plan_layered, batch_is}
use Rattle.hnsw_build.proofs.Stepping.{change_sorted}
use Rattle.hnsw_build.proofs.batch.batch_change.Goals as goal

pub sorted_change-requires-clause-inside : goal.sorted_change-requires-clause-inside
sorted_change-requires-clause-inside g c κs within =
    let plan = c.args.layers.now.plan.now in
    let n = length plan.points.now.vectors in
    let part = take (c.args.to - c.args.from) (drop c.args.from plan.order.items) in
    let items : c.in_ok-batch.batch.items ≡ take (c.args.to - c.args.from) (drop c.args.from c.deref.result.now) = search rules in
    let list : c.in_ok-batch.batch.items ≡ part = items ∙ ap (λ (xs : List ℕ). take (c.args.to - c.args.from) (drop c.args.from xs)) c.deref.ensures.value in
    let sorted : c.as_slice.result.now ≡ ordered nat_cmp part = c.as_slice.ensures.value ∙ c.sort_ids.ensures.items ∙ ap (ordered nat_cmp) list in
    subst (All (λ p. p < n)) (sym sorted) (All-ordered (λ p. p < n) part (All-take (λ p. p < n) (c.args.to - c.args.from) (drop c.args.from plan.order.items) (All-drop (λ p. p < n) c.args.from plan.order.items plan.inside)))

-- what the batch changes in a layer, though it lies in ascending order
changes : (g : _) (c : goal.After-drop-batch g) (l : ℕ) → let w = c.args.layers.now in
    change_in (build_in w) (layers_in w) c.as_slice.result.now l ≡ change_in (build_in w) (layers_in w) (batch_at w.plan.now.order.items w.plan.now.cap (w.done + 1)) l
changes g c l =
    let w = c.args.layers.now in
    let plan = w.plan.now in
    let batch = batch_at plan.order.items plan.cap (w.done + 1) in
    let items : c.in_ok-batch.batch.items ≡ take (c.args.to - c.args.from) (drop c.args.from c.deref.result.now) = search rules in
    let list : c.in_ok-batch.batch.items ≡ batch = items ∙ ap (λ (xs : List ℕ). take (c.args.to - c.args.from) (drop c.args.from xs)) c.deref.ensures.value ∙ batch_is plan w.done c.args.from c.args.to c.requires.from c.requires.to in
    let sorted : c.as_slice.result.now ≡ ordered nat_cmp batch = c.as_slice.ensures.value ∙ c.sort_ids.ensures.items ∙ ap (ordered nat_cmp) list in
    ap (λ (ids : List ℕ). change_in (build_in w) (layers_in w) ids l) sorted ∙ change_sorted (build_in w) (plan_layered plan) (layers_in w) batch l

pub returns-clause-base : goal.returns-clause-base
returns-clause-base g c = subst (λ (es : List (ℕ × List ℕ)). IfOk c.sorted_change.result (λ (x : BatchChange). x.base ≡ es)) (changes g c 0) c.sorted_change.ensures.base

pub returns-clause-upper : goal.returns-clause-upper
returns-clause-upper g c =
    subst (λ (f : ℕ → List (ℕ × List ℕ)). IfOk c.sorted_change.result (λ (x : BatchChange). x.upper.items ≡ map f (range_with_len 1 (top_of c.args.layers.now.plan.now.levels.items)))) (λ i l. changes g c l i) c.sorted_change.ensures.upper
