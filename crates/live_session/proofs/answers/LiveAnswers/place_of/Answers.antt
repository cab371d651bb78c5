use Rattle.std.proofs.Common.{◌∙◌}
use Rattle.live_session.proofs.SideBySide.{place_in, item_in}
use Rattle.live_session.proofs.answers.LiveAnswers.place_of.Goals as goal

pub returns-clause-place : goal.returns-clause-place
returns-clause-place c =
    let a = c.self.inside in
    place_in a.rows.items a.count c.args.j c.len-callers.result c.index.result.now c.self.invariant.0 (c.len-callers.ensures ∙ a.rows.ok.0) c.index.ensures c.args.self.now c.self.view_is c.requires c.self.invariant.2

pub returns-clause-answer : goal.returns-clause-answer
returns-clause-answer c =
    let a = c.self.inside in
    item_in a.rows.items a.count c.args.j c.len-callers.result c.index.result.now c.self.invariant.0 (c.len-callers.ensures ∙ a.rows.ok.0) c.index.ensures c.args.self.now c.self.view_is c.requires
