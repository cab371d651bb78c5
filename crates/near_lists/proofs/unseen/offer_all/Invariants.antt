use Rattle.std.proofs.Common.{◌≡◌, ◌≤◌, take}
use Rattle.std.specs.List.{fold}
use Rattle.ann_defs.specs.Ordered.{put}
use Rattle.ann_defs.specs.Nearness.{near_cmp, all_near}
use Rattle.near_lists.proofs.unseen.offer_all.Given as goal

abbrev pub invariant-loop-id : goal.invariant-loop-id
invariant-loop-id l = record {
  offered : take l.count l.list ≡ take l.limit (fold (put near_cmp) (take l.len l.fn.list) (all_near l.points.vectors l.query (take l.id-index l.ids)));
  bound : l.count ≤ l.limit;
  grows : l.len ≤ l.count;
  front : take l.first l.list ≡ take l.first l.fn.list;
  first : l.first ≤ l.len;
}
