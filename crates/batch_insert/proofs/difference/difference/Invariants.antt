use Rattle.std.proofs.Common.{◌-◌, ◌+◌, ℕ, length}
use Rattle.ann_defs.specs.BatchInsert.{row_then}
use Rattle.batch_insert.specs.Proposing.{targets_of}
use Rattle.batch_insert.proofs.OnePass.{IsMerged}
use Rattle.batch_insert.proofs.difference.difference.Given as goal

abbrev pub invariant-loop-i : goal.invariant-loop-i
invariant-loop-i g l =
    let b = l.batch in
    let m = b.merging.now in
    let old = g.O.Rows.row_of b.old.now in
    let new = row_then (g.M.Merging.count m) old (g.F.Rows.row_of b.fresh.now) (g.F.Rows.held b.fresh.now) (g.M.Merging.merged m) in
    (from : ℕ) × IsMerged (g.M.Merging.count m) old new b.ids.now (targets_of l.proposals.pairs) l.i l.j l.changed from

abbrev pub decreases-loop-i : goal.decreases-loop-i
decreases-loop-i g l = length l.batch.ids.now + length (targets_of l.proposals.pairs) - (l.i + l.j)
