use Rattle.live_session.proofs.Rows.{seat_short}
use Rattle.live_session.proofs.asker.ask.Goals as goal

pub returns-clause-short : goal.returns-clause-short
returns-clause-short c = seat_short c.args.caller.now.course c.args.asking.now c.at.result.now _ c.query.result c.query.ensures.answer
