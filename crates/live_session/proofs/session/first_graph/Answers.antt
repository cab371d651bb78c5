use Rattle.std.proofs.Common.{◌≡◌, ◌∙◌, ◌+◌, ◌<◌, ap, subst, Option, IfSome, arith}
use Rattle.vamana_build.specs.Builds.{batches_of, graph_at}
use Rattle.vamana_build.specs.Building.{Building}
use Rattle.vamana_build.specs.Changes.{Change, change_at}
use Rattle.live_session.proofs.session.first_graph.Goals as goal

pub returns-clause-graph : goal.returns-clause-graph
returns-clause-graph g c =
    let b : Building = c.args.builder.now in
    let some = subst (λ (o : Option Change). IfSome o (λ x. (b.batch < batches_of b.points b.settings) × (x ≡ change_at b.points b.settings b.batch) × (c.step.new.self ≡ record b { batch = b.batch + 1 }))) c.in-Some.is c.in_ok-_change.ensures.some in
    let one : b.batch + 1 ≡ 1 = omega (arith, c.requires.none) in
    c.in_ok-copy.ensures ∙ c.graph.ensures ∙ ap (λ (x : Building). graph_at x.points x.settings x.batch) some.2 ∙ ap (graph_at b.points b.settings) one
