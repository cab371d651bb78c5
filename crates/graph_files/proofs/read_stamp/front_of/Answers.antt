use Rattle.std.proofs.Common.{arith}
use Rattle.graph_files.proofs.StampLaws.{front_shown}
use Rattle.graph_files.proofs.read_stamp.front_of.Goals as goal

pub returns-clause-front : goal.returns-clause-front
returns-clause-front c file shows ends = front_shown file c.args.window.now c.min.result c.requires (omega arith) (omega arith) shows ends
