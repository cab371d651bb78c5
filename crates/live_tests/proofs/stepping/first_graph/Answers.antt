use Rattle.std.proofs.Common.{◌≡◌, ◌∙◌, ◌+◌, ◌<◌, ap, subst}
use Rattle.std.specs.Prelude.{Option, IfSome}
use Rattle.graph_rows.specs.Flat.{Flat}
use Rattle.vamana_build.specs.Builds.{batches_of, graph_at}
use Rattle.vamana_build.specs.Building.{Building}
use Rattle.vamana_build.specs.Changes.{Change, change_at}
use Rattle.live_tests.proofs.stepping.first_graph.Goals as goal

-- the graph after one batch more
graph_then : (old new : Building) (g : Flat) → old.batch ≡ 0 → new ≡ record old { batch = old.batch + 1 } → g ≡ graph_at new.points new.settings new.batch → g ≡ graph_at old.points old.settings 1
graph_then old new g none e h = h ∙ ap (λ (b : Building). graph_at b.points b.settings b.batch) e ∙ ap (λ k. graph_at old.points old.settings (k + 1)) none

pub returns-clause-graph : goal.returns-clause-graph
returns-clause-graph g c =
    let old = c.args.build.now in
    let new : Building = c.step.new.self in
    let some = subst (λ (o : Option Change). IfSome o (λ x. (old.batch < batches_of old.points old.settings) × (x ≡ change_at old.points old.settings old.batch) × (new ≡ record old { batch = old.batch + 1 }))) c.in-Some.is c.in_ok-_change.ensures.some in
    graph_then old new c.in_ok-copy.field-0 c.requires.none some.2 (c.in_ok-copy.ensures ∙ c.graph.ensures)
