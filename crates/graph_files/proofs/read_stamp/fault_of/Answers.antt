use Rattle.std.proofs.Common.{ap, ◌∙◌}
use Rattle.graph_files.specs.Stamping.{fields_fault, last_fault}
use Rattle.graph_files.proofs.StampLaws.{same_fields, first_of}
use Rattle.graph_files.proofs.read_stamp.fault_of.Goals as goal

pub returns-in-Some : goal.returns-in-Some
returns-in-Some c =
    first_of _ (last_fault c.args.kind c.args.front.now) c.in-Some.fault
    (c.in-Some.ensures ∙ ap (λ rs. fields_fault rs c.args.front.now 32) c.ranges_of.ensures ∙ same_fields c.args.kind c.num_of.result c.args.front.now c.num_of.ensures)
