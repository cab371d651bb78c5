use Rattle.std.proofs.Common.{◌∙◌, List, [], map, sym, ap, subst}
use Rattle.versions.specs.Course.{course_of, total_of}
use Rattle.live_session.specs.Rows.{Row}
use Rattle.live_session.specs.SideBySide.{AreFull, side_by_side}
use Rattle.live_session.proofs.Together.{all_full, last_is}
use Rattle.live_session.proofs.gather.last_of.Goals as goal

pub of-requires-clause-full : goal.of-requires-clause-full
of-requires-clause-full c =
    let a = c.args.asking.now in
    let course = course_of c.args.plan.now in
    let total = total_of course in
    let rows : List Row = c.args.rows.items in
    subst (AreFull (map (λ (r : Row). r.answers) rows)) (sym c.count.ensures.value) (all_full course a total total rows c.requires.callers.0 c.requires.count c.requires.whole)

pub returns : goal.returns
returns c =
    let a = c.args.asking.now in
    let course = course_of c.args.plan.now in
    let total = total_of course in
    let rows : List Row = c.args.rows.items in
    c.of.ensures
    ∙ ap (λ m. side_by_side (map (λ (r : Row). r.answers) rows) m (0, [])) c.count.ensures.value
    ∙ last_is course a total total rows c.requires.callers.0 c.requires.count c.requires.whole (λ _. total) (λ _. total)
