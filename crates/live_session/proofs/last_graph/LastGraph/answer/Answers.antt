use Rattle.std.proofs.Common.{◌≡◌, ◌∙◌, take, ap, arith}
use Rattle.std.proofs.lemmas.List.{take_min}
use Rattle.versions.specs.Course.{answer_at, course_of}
use Rattle.versions.proofs.Searching.{answer_is, holds_start, is_graph}
use Rattle.live_session.specs.Rows.{pushed}
use Rattle.live_session.proofs.last_graph.LastGraph.answer.Goals as goal

pub search-requires-clause-graph : goal.search-requires-clause-graph
search-requires-clause-graph c =
    let g = c.args.self.now in
    is_graph g.plan.now g.batch g.graph.now g.after

pub search-requires-clause-starts : goal.search-requires-clause-starts
search-requires-clause-starts c =
    let g = c.args.self.now in
    holds_start g.plan.now g.batch c.start.result g.graph.now g.after c.start.ensures.bound

pub returns-clause-row : goal.returns-clause-row
returns-clause-row c =
    let g = c.args.self.now in
    let a = c.args.asking.now in
    let nears = c.found-nears.result.now in
    let len = c.min-len.result in
    let cut : take len nears ≡ take a.k nears = ap (λ n. take n nears) (omega (arith, c.min-len.ensures)) ∙ take_min a.k nears in
    let found : take len nears ≡ answer_at (course_of g.plan.now) g.batch a.beam a.k c.at-asked.result.now =
    answer_is g.plan.now g.batch a.beam a.k c.start.result c.at-asked.result.now g.graph.now c.args.scratch.now c.search.new.scratch (take len nears) nears
    g.after c.start.ensures.value c.search.ensures.walk c.found-nears.ensures cut in
    c.push.ensures ∙ ap (pushed c.args.row.now g.batch) (found ∙ ap (answer_at (course_of g.plan.now) g.batch a.beam a.k) c.at-asked.ensures.value)
