use Rattle.std.proofs.Common.{◌≡◌, ◌≤◌, ◌-◌, take, length}
use Rattle.std.specs.List.{fold}
use Rattle.ann_defs.specs.Ordered.{put}
use Rattle.ann_defs.specs.Nearness.{near_cmp, all_near}
use Rattle.near_lists.specs.Marks.{AreSettled, OnlySeen}
use Rattle.near_lists.proofs.unseen.offer_unseen.Given as goal

abbrev pub invariant-loop-at : goal.invariant-loop-at
invariant-loop-at l = record {
  offered : take l.count l.list ≡ take l.limit (fold (put near_cmp) (take l.len l.fn.list) (all_near l.points.vectors l.query (take l.at l.ids)));
  bound : l.count ≤ l.limit;
  grows : l.len ≤ l.count;
  front : take l.first l.list ≡ take l.first l.fn.list;
  first : l.first ≤ l.len;
  settled : AreSettled l.points.vectors l.query l.limit l.seen (take l.count l.list) l.marks;
  marks : OnlySeen l.seen l.fn.marks l.marks;
  inside : l.at ≤ length l.ids;
}

abbrev pub decreases-loop-at : goal.decreases-loop-at
decreases-loop-at l = length l.ids - l.at
