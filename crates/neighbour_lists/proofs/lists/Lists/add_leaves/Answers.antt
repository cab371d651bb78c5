use Rattle.pivot_trees.specs.Leaves.{leaf_with}
use Rattle.neighbour_lists.proofs.Belonging.{leaves_belong}
use Rattle.neighbour_lists.proofs.LeafRows.{with_leaf_inside}
use Rattle.neighbour_lists.proofs.lists.Lists.add_leaves.Goals as goal
use Rattle.std.proofs.Common.{◌∙◌, List, ℕ, subst, sym}
use Rattle.neighbour_lists.specs.Held.{ArePointLists}

pub returns-in-Ok-clause-belong : goal.returns-in-Ok-clause-belong
returns-in-Ok-clause-belong g c =
    let points = c.args.points.now.vectors in
    let l = c.args.self.now in
    let leaves = c.args.tree.now.leaves in
    let new = c.in-Ok.ensures in
    let taken = c.take_rows.ensures in
    leaves_belong points l c.take_rows.new.self (leaf_with leaves) c.requires.belong
    (subst (λ (rs : List (List ℕ)). ArePointLists points l.list rs) (sym taken.rows) new.lists)
    (with_leaf_inside points l leaves c.requires.belong new.inside)
    taken.list (taken.rows ∙ new.rows) taken.unsorted taken.active taken.seen.0 taken.seen.1
