use Rattle.std.proofs.Common.{◌≡◌, ◌≤◌, ◌+◌, take, length, []}
use Rattle.std.specs.List.{fold}
use Rattle.ann_defs.specs.Distance.{point}
use Rattle.ann_defs.specs.Nearness.{all_near}
use Rattle.near_lists.specs.Gathered.{add_once}
use Rattle.near_lists.specs.Marks.{AreUpTo, AreTaken}
use Rattle.near_lists.proofs.gathered.gather.Given as goal

abbrev pub invariant-loop-x : goal.invariant-loop-x
invariant-loop-x l = record {
  list : take l.len l.room ≡ fold (add_once l.p) [] (take l.x-index l.measured);
  bound : l.len ≤ l.x-index;
  taken : AreTaken (length l.points.vectors) l.stamp l.p (take l.len l.room) l.marks;
  up_to : AreUpTo l.stamp l.marks;
}

abbrev pub invariant-loop-id : goal.invariant-loop-id
invariant-loop-id l = record {
  list : take l.len l.room ≡ fold (add_once l.p) (fold (add_once l.p) [] l.measured) (all_near l.points.vectors (point l.points.vectors l.p) (take l.id-index l.extra));
  bound : l.len ≤ length l.measured + l.id-index;
  taken : AreTaken (length l.points.vectors) l.stamp l.p (take l.len l.room) l.marks;
  up_to : AreUpTo l.stamp l.marks;
}
