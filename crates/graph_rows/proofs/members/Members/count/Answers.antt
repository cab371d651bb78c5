use Rattle.graph_rows.proofs.MemberIds.{count_below}
use Rattle.graph_rows.proofs.members.Members.count.Goals as goal

pub returns-in-Below-clause-owns : goal.returns-in-Below-clause-owns
returns-in-Below-clause-owns c = count_below c.args.self c.in-Below.count c.in-Below.is
