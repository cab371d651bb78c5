use Rattle.std.proofs.Common.{◌≡◌, ◌∙◌, ◌≤◌, ◌<◌, [], length, sym, replicate, subst, ap, arith}
use Rattle.std.proofs.Math.Nat.{zero-mod}
use Rattle.std.specs.Prelude.{IfSome}
use Rattle.prefix_batches.specs.Progress.{Progress}
use Rattle.vamana_build.specs.Builds.{batch_cap, pass_of, batches_of, build_at}
use Rattle.vamana_build.proofs.Plans.{pass_some, pass_within}
use Rattle.vamana_build.proofs.NextBatch.{given_next, passes_some, passes_few}
use Rattle.vamana_build.proofs.SettledRows.{settled_empty}
use Rattle.vamana_build.proofs.vamana.Vamana.new.Goals as goal

pub invariant_of-result : goal.invariant_of-result
invariant_of-result c =
    let plan = c.args.plan.now in
    let points = plan.points.now.vectors in
    let s = plan.settings in
    let next = c.next-next in
    let left : 0 < batches_of points s = passes_some s.passes (pass_of points s) plan.passes.0 (pass_some plan) in
    let zeros : c.in_ok-settled.settled.items ≡ replicate c.count-2.result 0 = c.in_ok-settled.ensures.items_if_clones_equal (λ y e. e) in
    let first : c.new-batches.result ≡ record { n = length points; cap = batch_cap points s; done = 0 } = c.new-batches.ensures ∙ (λ i. record { n = c.count-3.ensures.value i; cap = plan.capped i; done = 0 }) in
    let told = given_next points s 0 0 c.new-batches.result next.new.self next.result (sym (zero-mod (pass_of points s))) left (pass_some plan) first
    (record { counted = next.ensures.counted; bounds = next.ensures.bounds; given = next.ensures.given; same = next.ensures.same }) in (
      record {
        graph_is = c.in_ok-graph.ensures ∙ (λ i. record { width = s.degree; rows = replicate (c.count.ensures.value i) [] });
        within = omega arith;
        few = passes_few s.passes (pass_of points s) 4194304 plan.passes.1 (let within = pass_within plan in let limit = plan.count.1 in omega (arith, within, limit));
        batches_are = told.1;
        next_is = told.0;
        next_fits = subst (λ (o : Progress). IfSome next.result (λ b. (b.0 < b.1) × (b.1 ≤ o.n))) first next.ensures.some;
        serve = c.in_ok-posts.ensures.serve;
        workers = (let count = c.in_ok-posts.ensures.count in let asked = c.requires.0 in omega (arith, count, asked), let count = c.in_ok-posts.ensures.count in let asked = c.requires.1 in omega (arith, count, asked));
      },
      c.new-2.ensures.items,
      settled_empty (build_at points s 0) c.in_ok-settled.settled.items (zeros ∙ ap (λ m. replicate m 0) c.count-2.ensures.value),
    )
