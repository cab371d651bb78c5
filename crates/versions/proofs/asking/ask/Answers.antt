use Rattle.std.proofs.Common.{ap}
use Rattle.versions.specs.Found.{Found}
use Rattle.versions.proofs.Searching.{answer_is, holds_start, is_graph}
use Rattle.versions.proofs.asking.ask.Goals as goal

pub search-requires-clause-graph : goal.search-requires-clause-graph
search-requires-clause-graph c =
    let x = c.args.shared.now in
    is_graph x.plan.now x.batch x.graph c.requires.version.graph

pub search-requires-clause-starts : goal.search-requires-clause-starts
search-requires-clause-starts c =
    let x = c.args.shared.now in
    holds_start x.plan.now x.batch c.start.result x.graph c.requires.version.graph c.start.ensures.bound

pub returns-clause-answer : goal.returns-clause-answer
returns-clause-answer c =
    let x = c.args.shared.now in
    answer_is x.plan.now x.batch c.args.beam c.args.k c.start.result c.args.query.now x.graph c.args.scratch.now c.search.new.scratch c.keep_first.new.self.pairs c.found.result.now
    c.requires.version.graph c.start.ensures.value c.search.ensures.walk c.found.ensures (ap (λ (a : Found). a.pairs) c.keep_first.ensures)
