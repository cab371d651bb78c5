use Rattle.graph_rows.proofs.MemberIds.{nth_below}
use Rattle.graph_rows.proofs.members.Members.at.Goals as goal

pub returns-in-Below : goal.returns-in-Below
returns-in-Below c = nth_below c.args.self c.in-Below.field-0 c.args.i (c.in-Below.is) c.requires
