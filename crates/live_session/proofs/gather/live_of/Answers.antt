use Rattle.std.proofs.Common.{◌≡◌, ◌∙◌, ℕ, List, [], length, map, true, sym, ap, subst, arith}
use Rattle.ann_defs.specs.declared.near.Near.{Near}
use Rattle.versions.specs.Course.{course_of, total_of}
use Rattle.live_session.specs.Lawful.{is_lawful}
use Rattle.live_session.specs.LiveAnswers.{batches_in, live_answers}
use Rattle.live_session.specs.Rows.{Row}
use Rattle.live_session.specs.SideBySide.{AreFull, side_by_side}
use Rattle.live_session.proofs.Together.{all_full, lawful, live_is}
use Rattle.live_session.proofs.gather.live_of.Goals as goal

pub of-requires-clause-full : goal.of-requires-clause-full
of-requires-clause-full c =
    let a = c.args.asking.now in
    let course = course_of c.args.plan.now in
    let rows : List Row = c.args.rows.items in
    subst (AreFull (map (λ (r : Row). r.answers) rows)) (sym c.count.ensures.value) (all_full course a 1 (total_of course) rows c.requires.callers.0 c.requires.count c.requires.whole)

pub returns-clause-lawful : goal.returns-clause-lawful
returns-clause-lawful c =
    let a = c.args.asking.now in
    let course = course_of c.args.plan.now in
    let n = length a.queries.now.vectors in
    let rows : List Row = c.args.rows.items in
    let is = c.of.ensures ∙ ap (λ m. side_by_side (map (λ (r : Row). r.answers) rows) m (0, [])) c.count.ensures.value in
    subst (λ (xs : List (ℕ × List Near)). is_lawful a.callers (total_of course) n (batches_in xs) ≡ true) (sym is)
    (lawful course a 1 (total_of course) rows c.requires.callers.0 c.requires.count c.requires.whole (omega arith) (omega arith))

pub returns-clause-live : goal.returns-clause-live
returns-clause-live c =
    let a = c.args.asking.now in
    let course = course_of c.args.plan.now in
    let rows : List Row = c.args.rows.items in
    let is = c.of.ensures ∙ ap (λ m. side_by_side (map (λ (r : Row). r.answers) rows) m (0, [])) c.count.ensures.value in
    subst (λ (xs : List (ℕ × List Near)). xs ≡ live_answers course a.beam a.k a.queries.now.vectors (batches_in xs)) (sym is)
    (live_is course a 1 (total_of course) rows c.requires.callers.0 c.requires.count c.requires.whole)
