use Rattle.std.proofs.Common.{◌<◌, ◌+◌, sym, subst, ℕ, List, length, arith}
use Rattle.ann_defs.specs.BatchInsert.{row_then}
use Rattle.batch_insert.specs.Proposing.{targets_of}
use Rattle.batch_insert.proofs.OnePass.{IsMerged, merged_none, merged_all, found_few, target_next, target_next_held, after_target, after_point}
use Rattle.batch_insert.proofs.difference.difference.Goals as goal

pub loop-i-init : goal.loop-i-init
loop-i-init g c =
    let b = c.args.batch.now in
    let m = b.merging.now in
    let old = g.O.Rows.row_of b.old.now in
    let new = row_then (g.M.Merging.count m) old (g.F.Rows.row_of b.fresh.now) (g.F.Rows.held b.fresh.now) (g.M.Merging.merged m) in
    (0, subst (λ (es : List (ℕ × List ℕ)). IsMerged (g.M.Merging.count m) old new b.ids.now (targets_of c.args.proposals.now.pairs) 0 0 es 0) (sym c.none-changed.ensures) (merged_none (g.M.Merging.count m) old new b.ids.now (targets_of c.args.proposals.now.pairs)))

pub target_row-new-requires-clause-j : goal.target_row-new-requires-clause-j
target_row-new-requires-clause-j g c κs within =
    let b = c.args.batch.now in
    let m = b.merging.now in
    let left : c.loop-i.i + c.loop-i.j < length b.ids.now + length (targets_of c.args.proposals.now.pairs) = omega arith in
    target_next (g.M.Merging.count m) (g.M.Merging.most m) (g.O.Rows.held b.old.now) (g.O.Rows.row_of b.old.now) (g.F.Rows.held b.fresh.now) (g.F.Rows.row_of b.fresh.now) b.ids.now b.fits (g.M.Merging.merged m) c.args.proposals.now.pairs c.requires.pairs c.loop-i.invariant.1
    c.id_at-point.result c.target_at-target.result c.id_at-point.ensures.here c.target_at-target.ensures.behind left c.requires.count c.if-target-point.true

pub old_row-requires-after_bounds : goal.old_row-requires-after_bounds
old_row-requires-after_bounds g c κs within =
    let b = c.args.batch.now in
    let m = b.merging.now in
    let left : c.loop-i.i + c.loop-i.j < length b.ids.now + length (targets_of c.args.proposals.now.pairs) = omega arith in
    target_next_held (g.M.Merging.count m) (g.M.Merging.most m) (g.O.Rows.held b.old.now) (g.O.Rows.row_of b.old.now) (g.F.Rows.held b.fresh.now) (g.F.Rows.row_of b.fresh.now) b.ids.now b.fits (g.M.Merging.merged m) c.args.proposals.now.pairs c.requires.pairs c.loop-i.invariant.1
    c.id_at-point.result c.target_at-target.result c.id_at-point.ensures.here c.target_at-target.ensures.behind c.target_at-target.ensures.here left c.requires.count c.if-target-point.true

pub add-requires : goal.add-requires
add-requires g c =
    let b = c.args.batch.now in
    let m = b.merging.now in
    let few = found_few (g.M.Merging.count m) (g.M.Merging.most m) (g.O.Rows.held b.old.now) (g.O.Rows.row_of b.old.now) (g.F.Rows.held b.fresh.now) (g.F.Rows.row_of b.fresh.now) b.ids.now b.fits (g.M.Merging.merged m) c.args.proposals.now.pairs c.requires.pairs c.loop-i.invariant.1 in
    let small = c.requires.count in
    omega (arith, few, small)

pub add-requires-else-target-point : goal.add-requires-else-target-point
add-requires-else-target-point g c =
    let b = c.args.batch.now in
    let m = b.merging.now in
    let few = found_few (g.M.Merging.count m) (g.M.Merging.most m) (g.O.Rows.held b.old.now) (g.O.Rows.row_of b.old.now) (g.F.Rows.held b.fresh.now) (g.F.Rows.row_of b.fresh.now) b.ids.now b.fits (g.M.Merging.merged m) c.args.proposals.now.pairs c.requires.pairs c.loop-i.invariant.1 in
    let small = c.requires.count in
    omega (arith, few, small)

pub loop-i-preserved-then-target-point : goal.loop-i-preserved-then-target-point
loop-i-preserved-then-target-point g c =
    let b = c.args.batch.now in
    let m = b.merging.now in
    let left : c.loop-i.i + c.loop-i.j < length b.ids.now + length (targets_of c.args.proposals.now.pairs) = omega arith in
    let at = target_next (g.M.Merging.count m) (g.M.Merging.most m) (g.O.Rows.held b.old.now) (g.O.Rows.row_of b.old.now) (g.F.Rows.held b.fresh.now) (g.F.Rows.row_of b.fresh.now) b.ids.now b.fits (g.M.Merging.merged m) c.args.proposals.now.pairs c.requires.pairs c.loop-i.invariant.1
    c.id_at-point.result c.target_at-target.result c.id_at-point.ensures.here c.target_at-target.ensures.behind left c.requires.count c.if-target-point.true in
    after_target (g.M.Merging.count m) (g.M.Merging.most m) (g.O.Rows.held b.old.now) (g.O.Rows.row_of b.old.now) (g.F.Rows.held b.fresh.now) (g.F.Rows.row_of b.fresh.now) b.ids.now b.fits (g.M.Merging.merged m) c.args.proposals.now.pairs c.requires.pairs c.loop-i.invariant.1
    c.id_at-point.result c.target_at-target.result c.id_at-point.ensures.here c.id_at-point.ensures.behind c.target_at-target.ensures.here c.target_at-target.ensures.behind
    c.target_row-new.result.now c.old_row.result.now c.add.new.self c.requires.count c.if-target-point.true at c.target_row-new.ensures c.old_row.ensures c.in_ok-add.ensures

pub loop-i-preserved : goal.loop-i-preserved
loop-i-preserved g c =
    let b = c.args.batch.now in
    let m = b.merging.now in
    after_point (g.M.Merging.count m) (g.M.Merging.most m) (g.O.Rows.held b.old.now) (g.O.Rows.row_of b.old.now) (g.F.Rows.held b.fresh.now) (g.F.Rows.row_of b.fresh.now) b.ids.now b.fits (g.M.Merging.merged m) c.args.proposals.now.pairs c.requires.pairs c.loop-i.invariant.1
    c.id_at-point.result c.target_at-target.result c.id_at-point.ensures.here c.id_at-point.ensures.behind c.target_at-target.ensures.here c.target_at-target.ensures.behind
    c.fresh_row.result.now c.old_row-else-target-point.result.now c.add-else-target-point.new.self (omega arith) (omega arith) c.fresh_row.ensures.value c.old_row-else-target-point.ensures c.in_ok-add-2.ensures

pub returns : goal.returns
returns g c =
    let b = c.args.batch.now in
    let m = b.merging.now in
    let k = c.loop-i.invariant.1 in
    let low = k.points.within in
    let high = k.proposed_to.within in
    record { rows = merged_all (g.M.Merging.count m) (g.M.Merging.most m) (g.O.Rows.held b.old.now) (g.O.Rows.row_of b.old.now) (g.F.Rows.held b.fresh.now) (g.F.Rows.row_of b.fresh.now) b.ids.now b.fits (g.M.Merging.merged m) c.args.proposals.now.pairs c.requires.pairs k (omega (arith, low, high)) (omega (arith, low, high)) }
