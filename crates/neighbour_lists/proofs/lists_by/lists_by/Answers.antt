use Rattle.std.proofs.Common.{◌<◌, ◌≤◌, ◌∙◌, ℕ, get_or, length, sym, ap, subst}
use Rattle.std.specs.List.{All}
use Rattle.graph_rows.specs.Flat.{Flat}
use Rattle.steal_pool.specs.Work.{AllServe, scratch_of}
use Rattle.neighbour_lists.specs.Held.{Held}
use Rattle.neighbour_lists.specs.Offering.{ServesRows}
use Rattle.neighbour_lists.specs.WrittenRows.{with_rows}
use Rattle.neighbour_lists.proofs.lists_by.lists_by.Goals as goal

pub put_rows-requires-clause-inside : goal.put_rows-requires-clause-inside
put_rows-requires-clause-inside g c κs within = subst (λ n. All (λ (v : ℕ). v < n) c.args.ids.now) (sym c.requires.rule.0) c.requires.inside

pub put_rows-requires-clause-count : goal.put_rows-requires-clause-count
put_rows-requires-clause-count g c κs within =
    ap (λ (f : Flat). length f.rows) c.in_ok-rows.ensures
    ∙ ap (λ (h : Held). length h.rows) c.lists.view_is
    ∙ c.requires.belong.rows.count
    ∙ sym c.requires.rule.0

pub put_rows-requires-clause-width : goal.put_rows-requires-clause-width
put_rows-requires-clause-width g c κs within =
    ap (λ (f : Flat). f.width) c.in_ok-rows.ensures
    ∙ c.lists.invariant
    ∙ ap (λ (h : Held). h.list) c.lists.view_is
    ∙ sym c.requires.rule.1

pub put_rows-requires-clause-narrow : goal.put_rows-requires-clause-narrow
put_rows-requires-clause-narrow g c κs within = subst (λ m. m ≤ 128) (sym c.requires.rule.1) c.requires.belong.list.1

pub put_rows-requires-clause-serve : goal.put_rows-requires-clause-serve
put_rows-requires-clause-serve g c κs within =
    let posts = c.in_ok-posts.posts.items in
    let all = subst (λ (h : Held). AllServe (ServesRows (length c.args.points.now.vectors) h.list) posts) c.lists.view_is c.in_ok-posts.ensures.serve in
    subst (AllServe (g.L.RowRule.serves c.args.rule.now)) (sym c.deref_mut.ensures.value)
    (λ k d lt. c.requires.serves (scratch_of (get_or posts k d)) (all k d lt))

pub returns-clause-rows : goal.returns-clause-rows
returns-clause-rows g c =
    let row = g.L.RowRule.row_of c.args.rule.now in
    let copied = ap (λ (f : Flat). f.rows) c.in_ok-rows.ensures ∙ ap (λ (h : Held). h.rows) c.lists.view_is in
    c.in_ok-put_rows.ensures.rows ∙ ap (with_rows row c.args.ids.now) copied

pub returns-clause-width : goal.returns-clause-width
returns-clause-width g c =
    c.in_ok-put_rows.ensures.width
    ∙ ap (λ (f : Flat). f.width) c.in_ok-rows.ensures
    ∙ c.lists.invariant
    ∙ ap (λ (h : Held). h.list) c.lists.view_is
