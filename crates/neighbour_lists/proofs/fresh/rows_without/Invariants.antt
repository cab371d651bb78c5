use Rattle.std.proofs.Common.{◌≡◌, length}
use Rattle.std.specs.List.{range_with_len}
use Rattle.neighbour_lists.specs.Fresh.{row_without}
use Rattle.neighbour_lists.specs.WrittenRows.{with_rows}
use Rattle.neighbour_lists.proofs.fresh.rows_without.Given as goal

abbrev pub invariant-loop-u : goal.invariant-loop-u
invariant-loop-u l = record {
  rows : l.kept.rows ≡ with_rows (row_without l.seen.rows.rows l.seen.others.rows l.rows.rows) (range_with_len 0 l.u) l.rows.rows;
  width : l.kept.width ≡ l.rows.width;
  room : length l.room ≡ 128;
}
