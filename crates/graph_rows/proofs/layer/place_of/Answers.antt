use Rattle.std.proofs.Common.{Ok, Err}
use Rattle.std.proofs.lemmas.List.Sorted.{searched}
use Rattle.graph_rows.proofs.Finding.{rises, found, missing}
use Rattle.graph_rows.proofs.layer.place_of.Goals as goal

pub returns-in-Ok : goal.returns-in-Ok
returns-in-Ok c =
    let at = searched c.args.ids.now c.args.id (Ok c.in-Ok.i) c.in-Ok.ensures.position (rises c.args.ids.now c.requires) in
    let is = found c.args.ids.now c.args.id c.in-Ok.i c.requires at.0 at.1 in
    (at.0, is.0, is.1)

pub returns-in-Err : goal.returns-in-Err
returns-in-Err c =
    let at = searched c.args.ids.now c.args.id (Err c.in-Err.field-0) c.in-Err.ensures.position (rises c.args.ids.now c.requires) in
    missing c.args.ids.now c.args.id c.in-Err.field-0 at.1 at.2
