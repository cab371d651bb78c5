use Rattle.std.proofs.Common.{◌-◌, ◌≤◌, length, take}
use Rattle.ann_defs.specs.declared.kinds.Element.TheVariants.{I8}
use Rattle.ann_shelf.proofs.Appended.{IsAppended}
use Rattle.bin_files.specs.Points.{file_bytes}
use Rattle.bin_files.proofs.write.append_signed.Given as goal

abbrev pub invariant-loop-done : goal.invariant-loop-done
invariant-loop-done g l = record {
  within : l.done ≤ length l.stored;
  so_far : IsAppended (g.F.Shelf.shown l.fn.shelf) (g.F.Shelf.shown l.shelf) l.name (file_bytes I8 (take l.done l.stored));
}

abbrev pub decreases-loop-done : goal.decreases-loop-done
decreases-loop-done g l = length l.stored - l.done
