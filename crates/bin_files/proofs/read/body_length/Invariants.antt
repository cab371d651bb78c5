use Rattle.std.proofs.Common.{◌-◌, ◌<◌, ◌≤◌, length, drop, IfSome}
use Rattle.ann_shelf.specs.Files.{bytes_of}
use Rattle.ann_shelf.specs.Shown.{OnlyReads}
use Rattle.bin_files.proofs.read.body_length.Given as goal

abbrev pub invariant-loop-least : goal.invariant-loop-least
invariant-loop-least g l = record {
  order : l.least ≤ l.most;
  within : l.most ≤ l.wants;
  between : IfSome (g.F.Shelf.shown l.fn.shelf).held (λ files. length (drop 8 (bytes_of files l.name)) < l.wants
      → (l.least ≤ length (drop 8 (bytes_of files l.name))) × (length (drop 8 (bytes_of files l.name)) ≤ l.most));
  only : OnlyReads (g.F.Shelf.shown l.fn.shelf) (g.F.Shelf.shown l.shelf) l.name ⊥;
}

abbrev pub decreases-loop-least : goal.decreases-loop-least
decreases-loop-least g l = l.most - l.least
