use Rattle.graph_rows.proofs.Examples.{four_built}
use Rattle.graph_tests.proofs.indexes.four_points.Goals as goal

pub returns : goal.returns
returns c = four_built c.in_ok-base.base c.new.result.items c.in_ok-base.ensures c.new.ensures.items
