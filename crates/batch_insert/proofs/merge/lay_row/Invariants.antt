use Rattle.std.proofs.Common.{◌≡◌, take}
use Rattle.ann_defs.specs.Distance.{point}
use Rattle.ann_defs.specs.Nearness.{all_near}
use Rattle.batch_insert.proofs.merge.lay_row.Given as goal

abbrev pub invariant-loop-id : goal.invariant-loop-id
invariant-loop-id l = record {
  list : take l.len l.room ≡ all_near l.points.vectors (point l.points.vectors l.target) (take l.id-index l.row);
  count : l.len ≡ l.id-index;
}
