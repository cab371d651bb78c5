use Rattle.std.proofs.Common.{◌≡◌, ◌+◌, ◌-◌, ◌*◌, take, [], IfSome, length}
use Rattle.ann_shelf.specs.Shown.{OnlyReads}
use Rattle.ann_shelf.specs.Files.{bytes_of}
use Rattle.graph_files.specs.Grammar.{layer_ids_at}
use Rattle.graph_rows.specs.Members.{holds}
use Rattle.graph_files.specs.Reading.{AreBytesIn, AreMembers, Shows}
use Rattle.graph_files.proofs.MembersLoop.{AreBelow}
use Rattle.graph_files.proofs.read_layers.read_members.Given as goal

abbrev pub invariant-loop-i : goal.invariant-loop-i
invariant-loop-i g l = record {
  ids : IfSome (g.F.Shelf.shown l.fn.shelf).held (λ files. layer_ids_at (holds l.below) (bytes_of files l.name) (length l.fn.ids - l.i) (l.at + 4 * l.i) l.least (take l.i l.ids) ≡ layer_ids_at (holds l.below) (bytes_of files l.name) (length l.fn.ids) l.at 0 []);
  members : AreMembers (holds l.below) l.i l.ids;
  least : AreBelow l.least l.i l.ids;
  bytes : IfSome (g.F.Shelf.shown l.fn.shelf).held (λ files. AreBytesIn (bytes_of files l.name) l.at (l.at + 4 * l.i));
  count : length l.ids ≡ length l.fn.ids;
  shows : IfSome (g.F.Shelf.shown l.fn.shelf).held (λ files. Shows (bytes_of files l.name) l.window);
  only_reads : OnlyReads (g.F.Shelf.shown l.fn.shelf) (g.F.Shelf.shown l.shelf) l.name ⊥;
}
