use Rattle.std.proofs.Common.{◌-◌, ◌≤◌, length, take}
use Rattle.ann_shelf.proofs.Appended.{IsAppended}
use Rattle.ann_shelf.proofs.whole.append_all.Given as goal

abbrev pub invariant-loop-done : goal.invariant-loop-done
invariant-loop-done g l = record {
  within : l.done ≤ length l.bytes;
  so_far : IsAppended (g.F.Shelf.shown l.fn.shelf) (g.F.Shelf.shown l.shelf) l.name (take l.done l.bytes);
}

abbrev pub decreases-loop-done : goal.decreases-loop-done
decreases-loop-done g l = length l.bytes - l.done
