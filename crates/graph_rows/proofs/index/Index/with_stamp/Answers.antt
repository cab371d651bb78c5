use Rattle.graph_rows.specs.View.{contents}
use Rattle.graph_rows.proofs.Stamped.{stamped_formed, stamped_limits}
use Rattle.graph_rows.proofs.index.Index.with_stamp.Goals as goal

pub returns-clause-well_formed : goal.returns-clause-well_formed
returns-clause-well_formed c = stamped_formed (contents c.args.self) c.args.stamp c.requires.well_formed c.requires.allowed

pub returns-clause-limits : goal.returns-clause-limits
returns-clause-limits c limits = stamped_limits (contents c.args.self) c.args.stamp limits
