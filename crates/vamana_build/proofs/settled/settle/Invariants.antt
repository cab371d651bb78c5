use Rattle.ann_defs.specs.Graph.{row_in}
use Rattle.ann_defs.specs.BatchInsert.{last_row_of}
use Rattle.vamana_build.specs.Builds.{build_by}
use Rattle.vamana_build.proofs.SettledRows.{AreSettledTo}
use Rattle.vamana_build.proofs.settled.settle.Given as goal

abbrev pub invariant-loop-j : goal.invariant-loop-j
invariant-loop-j l =
    let w = l.rows in
    let b = build_by w.plan.now.points.now.vectors w.plan.now.settings w.alpha in
    AreSettledTo b (row_in w.graph.now.rows) (last_row_of b w.graph.now.rows w.batch.now) l.changed l.j l.fn.counts l.counts
