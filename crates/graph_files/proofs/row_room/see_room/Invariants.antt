use Rattle.std.proofs.Common.{◌≡◌, ◌+◌, ◌*◌, ◌≤◌, ℕ, List, drop, [], IfSome, length}
use Rattle.ann_shelf.specs.Shown.{OnlyReads}
use Rattle.ann_shelf.specs.Files.{bytes_of}
use Rattle.graph_files.specs.Grammar.{rows_at}
use Rattle.graph_rows.specs.Members.{holds, owns}
use Rattle.graph_files.specs.Reading.{Shows}
use Rattle.graph_files.proofs.row_room.see_room.Given as goal

abbrev pub invariant-loop-i : goal.invariant-loop-i
invariant-loop-i g l = record {
  rows : IfSome (g.F.Shelf.shown l.fn.shelf).held (λ files. (rows : List (List ℕ)) × (rows_at (holds l.members) l.bound (bytes_of files l.name) (drop l.i (owns l.members)) l.place rows
      ≡ rows_at (holds l.members) l.bound (bytes_of files l.name) (owns l.members) l.at []));
  room : length l.row ≡ 128;
  end : l.place ≤ l.at + 516 * l.i;
  shows : IfSome (g.F.Shelf.shown l.fn.shelf).held (λ files. Shows (bytes_of files l.name) l.window);
  only_reads : OnlyReads (g.F.Shelf.shown l.fn.shelf) (g.F.Shelf.shown l.shelf) l.name ⊥;
}
