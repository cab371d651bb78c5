use Rattle.neighbour_lists.proofs.EdgeFacts.{nearest_edges}
use Rattle.neighbour_lists.proofs.state.State.around.Goals as goal

pub returns-clause-edges : goal.returns-clause-edges
returns-clause-edges c = nearest_edges c.args.self.now.edges.now c.args.list c.args.v c.min.result c.to-edges.result.now c.to-edges.ensures c.min.ensures
