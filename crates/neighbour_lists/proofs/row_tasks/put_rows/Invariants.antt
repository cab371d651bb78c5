use Rattle.std.proofs.Common.{◌≡◌, ◌≤◌, ◌-◌, take, length}
use Rattle.steal_pool.specs.Work.{AllServe}
use Rattle.neighbour_lists.specs.WrittenRows.{with_rows}
use Rattle.neighbour_lists.proofs.row_tasks.put_rows.Given as goal

abbrev pub invariant-loop-from : goal.invariant-loop-from
invariant-loop-from g l = record {
  rows : l.rows.rows ≡ with_rows (g.L.RowRule.row_of l.rule) (take l.from l.ids) l.fn.rows.rows;
  width : l.rows.width ≡ l.fn.rows.width;
  within : l.from ≤ length l.ids;
  serve : AllServe (g.L.RowRule.serves l.rule) l.posts;
  workers : g.P.Rounds.count l.pool ≡ g.P.Rounds.count l.fn.pool;
}

abbrev pub decreases-loop-from : goal.decreases-loop-from
decreases-loop-from g l = length l.ids - l.from
