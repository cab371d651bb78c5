use Rattle.std.proofs.Common.{◌≡◌, ◌+◌, ◌%◌, ◌<◌, ◌∙◌, false, length, take, get_or, arith, rules, sym, length-set}
use Rattle.ann_defs.specs.Graph.{has}
use Rattle.graph_files.proofs.CleanRow.{distinct_more, distinct_none, marked_more, unmarked}
use Rattle.graph_files.proofs.shown_row.are_apart.Goals as goal
use Rattle.graph_files.proofs.shown_row.are_apart.Goals.{else-marks-id-via-then-marks-id+else-among, else-marks-id-via-else-marks-id}

pub loop-i-init : goal.loop-i-init
loop-i-init c = record {
  distinct = distinct_none;
  marked = λ k lt. absurd (omega arith);
  marks = search rules;
}

pub loop-i-preserved : goal.loop-i-preserved
loop-i-preserved c =
    let i = c.loop-i.i in
    let ids = c.args.ids.now in
    let below : i < length ids = omega arith in
    let new : has (take i ids) (get_or ids i 0) ≡ false = elim c.else-marks-id.branch as (λ _. has (take i ids) (get_or ids i 0) ≡ false) [
      | else-marks-id-via-then-marks-id+else-among w ↦ sym w.among.ensures ∙ w.if-among.false
      | else-marks-id-via-else-marks-id w ↦ unmarked c.args.own ids c.loop-i.marks i below c.loop-i.invariant.marked w.if-marks-id.false
    ] in
    record {
      distinct = distinct_more c.args.own ids c.loop-i.marks i below c.loop-i.invariant.distinct new;
      marked = marked_more c.args.own ids c.loop-i.marks i below c.loop-i.invariant.marks c.loop-i.invariant.marked;
      marks = length-set c.loop-i.marks (get_or ids i 0 % 4096) c.args.own ∙ c.loop-i.invariant.marks;
    }
