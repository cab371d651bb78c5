use Rattle.graph_rows.proofs.Examples.{four_built}
use Rattle.part_tests.proofs.line.line_index.Goals as goal

pub returns-clause-well_formed : goal.returns-clause-well_formed
returns-clause-well_formed c = four_built c.in_ok-base.base c.new.result.items c.in_ok-base.ensures.value c.new.ensures.items
