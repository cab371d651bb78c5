use Rattle.std.proofs.Common.{◌≡◌, length}
use Rattle.std.specs.List.{range_with_len}
use Rattle.neighbour_lists.specs.Reversed.{others_of}
use Rattle.neighbour_lists.specs.WrittenRows.{with_rows}
use Rattle.neighbour_lists.proofs.others.other_sides.Given as goal

abbrev pub invariant-loop-u : goal.invariant-loop-u
invariant-loop-u l = record {
  rows : l.others.rows ≡ with_rows (others_of l.points.vectors l.rows.width l.rows.rows) (range_with_len 0 l.u) l.rows.rows;
  width : l.others.width ≡ l.rows.width;
  room : length l.room ≡ 128;
}
