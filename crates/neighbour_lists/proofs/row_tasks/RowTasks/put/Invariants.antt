use Rattle.std.proofs.Common.{◌≡◌, take}
use Rattle.neighbour_lists.specs.WrittenRows.{with_rows}
use Rattle.neighbour_lists.proofs.row_tasks.RowTasks.put.Given as goal

abbrev pub invariant-loop-i : goal.invariant-loop-i
invariant-loop-i g l = record {
  rows : l.rows.rows ≡ with_rows (g.L.RowRule.row_of l.self.rule.now) (take l.i l.self.ids.now) l.fn.rows.rows;
  width : l.rows.width ≡ l.fn.rows.width;
}
