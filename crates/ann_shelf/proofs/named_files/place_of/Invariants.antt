use Rattle.std.proofs.Common.{take}
use Rattle.ann_shelf.specs.NamedFiles.{IsAbsent}
use Rattle.ann_shelf.proofs.named_files.place_of.Given as goal

abbrev pub invariant-loop-i : goal.invariant-loop-i
invariant-loop-i l = IsAbsent l.name (take l.i l.files)
