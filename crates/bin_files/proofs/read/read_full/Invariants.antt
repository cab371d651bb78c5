use Rattle.std.proofs.Common.{◌≡◌, ◌-◌, ◌≤◌, length, take, drop, IfSome}
use Rattle.ann_shelf.specs.Files.{bytes_of}
use Rattle.ann_shelf.specs.Shown.{OnlyReads}
use Rattle.bin_files.proofs.read.read_full.Given as goal

abbrev pub invariant-loop-done : goal.invariant-loop-done
invariant-loop-done g l = record {
  within : l.done ≤ length l.into;
  bytes : IfSome (g.F.Shelf.shown l.fn.shelf).held (λ files. (take l.done l.into ≡ take l.done (drop l.at (bytes_of files l.name))) × (l.done ≤ length (drop l.at (bytes_of files l.name))));
  only : OnlyReads (g.F.Shelf.shown l.fn.shelf) (g.F.Shelf.shown l.shelf) l.name ⊥;
}

abbrev pub decreases-loop-done : goal.decreases-loop-done
decreases-loop-done g l = length l.into - l.done
