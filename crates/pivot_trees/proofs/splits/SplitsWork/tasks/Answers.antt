use Rattle.std.proofs.Common.{sym}
use Rattle.pivot_trees.proofs.SplitBlocks.{many_blocks}
use Rattle.pivot_trees.proofs.splits.SplitsWork.tasks.Goals as goal

pub returns : goal.returns
returns c =
    let w = c.args.self.now in
    let s = w.splitter.now in
    sym (many_blocks s.points.now.vectors s.seed s.tree s.depth w.width w.number w.lists.now)
