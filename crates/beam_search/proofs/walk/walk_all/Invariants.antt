use Rattle.std.proofs.Common.{◌≤◌, ◌+◌, ◌-◌, length, take}
use Rattle.ann_defs.specs.GreedySearch.{walk_in, start_of}
use Rattle.ann_defs.proofs.SearchStates.{IsWalking}
use Rattle.near_lists.specs.Marks.{AreSettled, AreUpTo, AreVisited}
use Rattle.beam_search.proofs.Cursor.{IsCursor}
use Rattle.beam_search.proofs.walk.walk_all.Given as goal

abbrev pub invariant-loop-next : goal.invariant-loop-next
invariant-loop-next g l = record {
  walking : IsWalking l.points.vectors (g.R.Rows.row_of l.graph) l.query l.beam (g.R.Rows.held l.graph) (start_of l.points.vectors (g.R.Rows.row_of l.graph) l.query l.beam l.starts) (walk_in l.found l.len l.visited l.count) l.count;
  found : l.len ≤ l.beam;
  visited : l.count ≤ length l.points.vectors;
  settled : AreSettled l.points.vectors l.query l.beam l.seen (take l.len l.found) l.marks;
  marks : AreVisited (length l.points.vectors) (l.seen + 1) (take l.count l.visited) l.marks;
  up_to : AreUpTo (l.seen + 1) l.marks;
  cursor : IsCursor l.found l.len (take l.count l.visited) l.next;
}

abbrev pub decreases-loop-next : goal.decreases-loop-next
decreases-loop-next g l = length l.points.vectors - l.count
