use Rattle.std.proofs.Common.{◌≡◌, ◌+◌, ◌*◌, ◌≤◌, take, drop, [], IfSome, length}
use Rattle.ann_shelf.specs.Shown.{OnlyReads}
use Rattle.ann_shelf.specs.Files.{bytes_of}
use Rattle.graph_files.specs.Grammar.{rows_at}
use Rattle.graph_rows.specs.Members.{holds, owns, AreRows}
use Rattle.graph_files.specs.Reading.{AreBytesIn, Shows}
use Rattle.graph_files.proofs.read_rows.read_rows.Given as goal

abbrev pub invariant-loop-i : goal.invariant-loop-i
invariant-loop-i g l = record {
  rows : IfSome (g.F.Shelf.shown l.fn.shelf).held (λ files. rows_at (holds l.members) l.bound (bytes_of files l.name) (drop l.i (owns l.members)) l.place (take l.i l.graph.rows)
      ≡ rows_at (holds l.members) l.bound (bytes_of files l.name) (owns l.members) l.at []);
  sound : AreRows (holds l.members) l.bound (owns l.members) l.i l.graph.rows;
  bytes : IfSome (g.F.Shelf.shown l.fn.shelf).held (λ files. AreBytesIn (bytes_of files l.name) l.at l.place);
  width : l.graph.width ≡ l.bound;
  count : length l.graph.rows ≡ length (owns l.members);
  room : length l.row ≡ 128;
  end : l.place ≤ l.at + 516 * l.i;
  shows : IfSome (g.F.Shelf.shown l.fn.shelf).held (λ files. Shows (bytes_of files l.name) l.window);
  only_reads : OnlyReads (g.F.Shelf.shown l.fn.shelf) (g.F.Shelf.shown l.shelf) l.name ⊥;
}
