use Rattle.std.proofs.Common.{◌≡◌, ◌+◌, ◌-◌, ◌*◌, ◌≤◌, take, [], IfSome, length}
use Rattle.ann_shelf.specs.Shown.{OnlyReads}
use Rattle.ann_shelf.specs.Files.{bytes_of}
use Rattle.graph_files.specs.Grammar.{ids_at}
use Rattle.graph_rows.specs.Members.{holds}
use Rattle.graph_files.specs.Reading.{AreBytesIn, Shows}
use Rattle.graph_rows.specs.WellFormed.{IsRowIn}
use Rattle.graph_files.proofs.read_rows.read_ids.Given as goal

abbrev pub invariant-loop-i : goal.invariant-loop-i
invariant-loop-i g l = record {
  ids : IfSome (g.F.Shelf.shown l.fn.shelf).held (λ files. ids_at (holds l.members) l.own (bytes_of files l.name) (l.len - l.i) (l.at + 4 * l.i) (take l.i l.ids) ≡ ids_at (holds l.members) l.own (bytes_of files l.name) l.len l.at []);
  row : IsRowIn (holds l.members) l.i l.own (take l.i l.ids);
  bytes : IfSome (g.F.Shelf.shown l.fn.shelf).held (λ files. AreBytesIn (bytes_of files l.name) l.at (l.at + 4 * l.i));
  room : l.len ≤ length l.ids;
  shows : IfSome (g.F.Shelf.shown l.fn.shelf).held (λ files. Shows (bytes_of files l.name) l.window);
  only_reads : OnlyReads (g.F.Shelf.shown l.fn.shelf) (g.F.Shelf.shown l.shelf) l.name ⊥;
}
