use Rattle.std.proofs.Common.{◌≡◌, ◌<◌, ◌∙◌, ◌++◌, ℕ, List, length, sym, ap, subst}
use Rattle.std.specs.List.{All, range_with_len}
use Rattle.std.proofs.lemmas.Result.{IfOk-weaker}
use Rattle.ann_defs.specs.Graph.{row_in}
use Rattle.pivot_trees.specs.Leaves.{leaf_with}
use Rattle.neighbour_lists.specs.Held.{Held, ArePointLists}
use Rattle.neighbour_lists.specs.ListRound.{nearest_of}
use Rattle.neighbour_lists.specs.WrittenRows.{with_rows}
use Rattle.neighbour_lists.proofs.AllRows.{all_inside, all_written}
use Rattle.neighbour_lists.proofs.LeafRows.{leaf_lists}
use Rattle.neighbour_lists.proofs.RoundRows.{rows_serve}
use Rattle.neighbour_lists.proofs.leaves.leaf_rows.Goals as goal

pub lists_by-requires-clause-serves : goal.lists_by-requires-clause-serves
lists_by-requires-clause-serves g c κs within = rows_serve (length c.args.points.now.vectors) _ _ c.args.lists.now c.lists.invariant c.lists.view_is

pub lists_by-requires-clause-inside : goal.lists_by-requires-clause-inside
lists_by-requires-clause-inside g c κs within =
    let n = length c.args.points.now.vectors in
    let ids : c.deref.result.now ≡ range_with_len 0 n = c.deref.ensures.value ∙ c.in_ok-ids.ensures ∙ ap (range_with_len 0) c.count-3.ensures.value in
    subst (All (λ (v : ℕ). v < n)) (sym ids) (all_inside n)

pub returns-clause-rows : goal.returns-clause-rows
returns-clause-rows g c =
    let points = c.args.points.now.vectors in
    let n = length points in
    let l = c.args.lists.now in
    let held = c.lists.inside in
    let row = λ (list : ℕ) (rows : List (List ℕ)) (v : ℕ). nearest_of points list v (row_in rows v ++ leaf_with c.args.tree.now.leaves v) in
    let ids : c.deref.result.now ≡ range_with_len 0 n = c.deref.ensures.value ∙ c.in_ok-ids.ensures ∙ ap (range_with_len 0) c.count-3.ensures.value in
    IfOk-weaker c.lists_by.result _ _ (λ _ written.
    written
    ∙ (λ i. with_rows (row (c.lists.invariant i) held.rows.rows) (ids i) l.rows)
    ∙ ap (λ (h : Held). with_rows (row h.list h.rows) (range_with_len 0 n) l.rows) c.lists.view_is
    ∙ all_written (row l.list l.rows) l.rows n c.requires.belong.rows.count) c.lists_by.ensures.rows

pub returns-clause-lists : goal.returns-clause-lists
returns-clause-lists g c =
    let points = c.args.points.now.vectors in
    let l = c.args.lists.now in
    let leaves = c.args.tree.now.leaves in
    let inside = subst (λ n. All (λ ids. All (λ u. u < n) ids) leaves) c.requires.tree c.count.ensures.inside in
    IfOk-weaker c.lists_by.result _ _ (λ _ is. subst (ArePointLists points l.list) (sym is) (leaf_lists points l leaves c.requires.belong inside)) (returns-clause-rows g c)

pub returns-clause-inside : goal.returns-clause-inside
returns-clause-inside g c = IfOk-weaker c.lists_by.result _ _ (λ _ _. subst (λ n. All (λ ids. All (λ u. u < n) ids) c.args.tree.now.leaves) c.requires.tree c.count.ensures.inside) c.lists_by.ensures.rows
