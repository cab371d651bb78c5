use Rattle.std.proofs.Common.{◌≤◌, arith}
use Rattle.versions.specs.Course.{course_of}
use Rattle.live_session.proofs.Rows.{row_widen}
use Rattle.live_session.proofs.rest.settle.Goals as goal

pub finish-requires-clause-row : goal.finish-requires-clause-row
finish-requires-clause-row g c =
    let stands = c.requires.stands in
    let seen : c.args.asker.caller.seen ≤ c.args.graph.now.batch = omega (arith, stands.seen.1, c.requires.last) in
    row_widen (course_of c.args.graph.now.plan.now) c.args.asking.now c.args.asker.seat.first 1 c.args.asker.caller.seen c.args.graph.now.batch c.args.asker.live seen stands.live
