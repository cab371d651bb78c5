use Rattle.std.proofs.Common.{sym}
use Rattle.neighbour_lists.specs.declared.edge.Edge.{Edge}
use Rattle.neighbour_lists.proofs.EdgeFacts.{source_there}
use Rattle.neighbour_lists.proofs.around.is_source.Goals as goal

pub returns-then-edge-id : goal.returns-then-edge-id
returns-then-edge-id c = let none : Edge = record { target = 0; source = record { dist = 0; id = 0 } } in sym (source_there c.args.edges.now c.loop-edge.edge-index c.args.id none c.loop-edge-test.true c.if-edge-id.true)
