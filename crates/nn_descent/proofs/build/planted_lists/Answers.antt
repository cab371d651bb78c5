use Rattle.std.proofs.Common.{◌∙◌, sym}
use Rattle.pivot_trees.specs.Leaves.{leaf_with}
use Rattle.neighbour_lists.specs.ListRound.{with_leaves}
use Rattle.nn_descent.proofs.Improving.{planted_more}
use Rattle.nn_descent.proofs.build.planted_lists.Goals as goal

pub loop-t-preserved : goal.loop-t-preserved
loop-t-preserved g c =
    let points = c.args.points.now.vectors in
    let tree = c.in_ok-tree.ensures.tree in
    record {
      so_far = c.in_ok-add_leaves.ensures.rows ∙ (λ i. with_leaves points (c.loop-t.invariant.list i) (leaf_with (tree i).leaves) (c.loop-t.invariant.so_far i)) ∙ sym (planted_more points c.args.settings c.loop-t.t);
      list = c.in_ok-add_leaves.ensures.list ∙ c.loop-t.invariant.list;
      belong = c.in_ok-add_leaves.ensures.belong;
      workers = c.in_ok-add_leaves.ensures.workers ∙ c.in_ok-tree.ensures.workers ∙ c.loop-t.invariant.workers;
    }
