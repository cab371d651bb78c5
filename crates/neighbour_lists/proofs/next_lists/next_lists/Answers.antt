use Rattle.std.proofs.Common.{◌≡◌, ◌<◌, ◌∙◌, ℕ, map, length, sym, subst}
use Rattle.std.specs.List.{All, range_with_len}
use Rattle.neighbour_lists.specs.Fresh.{AreWithout, ArePast}
use Rattle.neighbour_lists.specs.Held.{Held}
use Rattle.neighbour_lists.specs.ListRound.{next_row}
use Rattle.neighbour_lists.specs.Reversed.{others_of}
use Rattle.neighbour_lists.specs.Rounds.{active_ids}
use Rattle.neighbour_lists.specs.WrittenRows.{with_rows}
use Rattle.neighbour_lists.proofs.Activity.{flags_few, active_inside, next_are}
use Rattle.neighbour_lists.proofs.RoundRows.{rows_serve}
use Rattle.neighbour_lists.proofs.next_lists.next_lists.Goals as goal

pub list_active-requires : goal.list_active-requires
list_active-requires g c = flags_few c.args.points.now.vectors c.args.lists.now c.requires.belong

pub invariant_of-rule-clause-reversed : goal.invariant_of-rule-clause-reversed
invariant_of-rule-clause-reversed g c =
    let points = c.args.points.now.vectors in
    let held = c.lists.inside in
    let others = c.in_ok-news.news.others.rows in
    subst (λ w. others ≡ map (others_of points w held.rows.rows) (range_with_len 0 (length points))) (sym c.lists.invariant)
    (subst (λ (h : Held). others ≡ map (others_of points h.list h.rows) (range_with_len 0 (length points))) (sym c.lists.view_is) c.in_ok-news.ensures.others)

pub invariant_of-rule-clause-new : goal.invariant_of-rule-clause-new
invariant_of-rule-clause-new g c =
    let news = c.in_ok-news.news in
    subst (λ (h : Held). AreWithout (length c.args.points.now.vectors) h.seen_rows h.seen_others h.rows news.others.rows news.fresh.rows.rows news.fresh.others.rows) (sym c.lists.view_is) c.in_ok-news.ensures.fresh

pub invariant_of-rule-clause-old : goal.invariant_of-rule-clause-old
invariant_of-rule-clause-old g c =
    let news = c.in_ok-news.news in
    subst (λ (h : Held). AreWithout (length c.args.points.now.vectors) news.fresh.rows.rows news.fresh.others.rows h.rows news.others.rows news.stale.rows.rows news.stale.others.rows) (sym c.lists.view_is) c.in_ok-news.ensures.stale

pub invariant_of-rule-clause-past : goal.invariant_of-rule-clause-past
invariant_of-rule-clause-past g c =
    let points = c.args.points.now.vectors in
    let held = c.lists.inside in
    subst (λ w. ArePast points w held.rows.rows held.seen.rows.rows held.seen.others.rows) (sym c.lists.invariant)
    (subst (λ (h : Held). ArePast points h.list h.rows h.seen_rows h.seen_others) (sym c.lists.view_is) c.requires.belong.past)

pub lists_by-requires-clause-inside : goal.lists_by-requires-clause-inside
lists_by-requires-clause-inside g c κs within =
    subst (All (λ (v : ℕ). v < length c.args.points.now.vectors)) (sym (c.deref.ensures.value ∙ c.in_ok-ids.ensures)) (active_inside c.args.points.now.vectors c.args.lists.now c.requires.belong)

pub lists_by-requires-clause-serves : goal.lists_by-requires-clause-serves
lists_by-requires-clause-serves g c κs within = rows_serve (length c.args.points.now.vectors) _ _ c.args.lists.now c.lists.invariant c.lists.view_is

pub returns-clause-rows : goal.returns-clause-rows
returns-clause-rows g c =
    let points = c.args.points.now.vectors in
    let l = c.args.lists.now in
    let held = c.lists.inside in
    c.in_ok-rows.ensures.rows
    ∙ (λ i. with_rows (next_row points (c.lists.invariant i) held.rows.rows) ((c.deref.ensures.value ∙ c.in_ok-ids.ensures) i) l.rows)
    ∙ (λ i. with_rows (next_row points (c.lists.view_is i).list (c.lists.view_is i).rows) (active_ids l) l.rows)
    ∙ next_are points l c.requires.belong
