use Rattle.std.proofs.Common.{◌∙◌, map, length, sym, ap, subst}
use Rattle.std.specs.List.{range_with_len}
use Rattle.neighbour_lists.specs.Fresh.{AreWithout}
use Rattle.neighbour_lists.specs.Held.{Held}
use Rattle.neighbour_lists.specs.Reversed.{others_of}
use Rattle.neighbour_lists.proofs.KeptRows.{rows_kept, others_kept}
use Rattle.neighbour_lists.proofs.RoundRows.{others_count, rows_count, seen_count, seen_others_count}
use Rattle.neighbour_lists.proofs.news.news_of.Goals as goal

pub hoods_without-requires : goal.hoods_without-requires
hoods_without-requires c =
    let points = c.args.points.now.vectors in
    let l = c.args.lists.now in
    let held = c.lists.inside in
    let count = sym (rows_count points _ l c.lists.view_is c.requires.belong) in (
      others_count points held.rows.width held.rows.rows c.in_ok-others.others.rows c.in_ok-others.ensures.rows ∙ count,
      seen_count points _ l c.lists.view_is c.requires.belong ∙ count,
      seen_others_count points _ l c.lists.view_is c.requires.belong ∙ count,
    )

pub hoods_without-requires-2 : goal.hoods_without-requires-2
hoods_without-requires-2 c =
    let points = c.args.points.now.vectors in
    let held = c.lists.inside in
    let fresh = c.in_ok-fresh.fresh in
    let n = length held.rows.rows in
    let count = sym (rows_count points _ c.args.lists.now c.lists.view_is c.requires.belong) in (
      others_count points held.rows.width held.rows.rows c.in_ok-others.others.rows c.in_ok-others.ensures.rows ∙ count,
      rows_kept n held.rows.rows c.in_ok-others.others.rows held.seen.rows.rows held.seen.others.rows fresh.rows.rows fresh.others.rows c.in_ok-fresh.ensures,
      others_kept n held.rows.rows c.in_ok-others.others.rows held.seen.rows.rows held.seen.others.rows fresh.rows.rows fresh.others.rows c.in_ok-fresh.ensures,
    )

pub returns-clause-others : goal.returns-clause-others
returns-clause-others c =
    let points = c.args.points.now.vectors in
    let held = c.lists.inside in
    c.in_ok-others.ensures.rows
    ∙ (λ i. map (others_of points (c.lists.invariant i) held.rows.rows) (range_with_len 0 (length points)))
    ∙ ap (λ (h : Held). map (others_of points h.list h.rows) (range_with_len 0 (length points))) c.lists.view_is

pub returns-clause-fresh : goal.returns-clause-fresh
returns-clause-fresh c =
    let points = c.args.points.now.vectors in
    let held = c.lists.inside in
    let fresh = c.in_ok-fresh.fresh in
    subst (λ (h : Held). AreWithout (length points) h.seen_rows h.seen_others h.rows c.in_ok-others.others.rows fresh.rows.rows fresh.others.rows) c.lists.view_is
    (subst (λ n. AreWithout n held.seen.rows.rows held.seen.others.rows held.rows.rows c.in_ok-others.others.rows fresh.rows.rows fresh.others.rows)
    (rows_count points _ c.args.lists.now c.lists.view_is c.requires.belong) c.in_ok-fresh.ensures)

pub returns-clause-stale : goal.returns-clause-stale
returns-clause-stale c =
    let points = c.args.points.now.vectors in
    let held = c.lists.inside in
    let fresh = c.in_ok-fresh.fresh in
    let stale = c.in_ok-stale.stale in
    subst (λ (h : Held). AreWithout (length points) fresh.rows.rows fresh.others.rows h.rows c.in_ok-others.others.rows stale.rows.rows stale.others.rows) c.lists.view_is
    (subst (λ n. AreWithout n fresh.rows.rows fresh.others.rows held.rows.rows c.in_ok-others.others.rows stale.rows.rows stale.others.rows)
    (rows_count points _ c.args.lists.now c.lists.view_is c.requires.belong) c.in_ok-stale.ensures)
