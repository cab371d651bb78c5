use Rattle.std.proofs.Common.{◌≡◌, length}
use Rattle.ann_shelf.specs.Files.{without_file}
use Rattle.ann_shelf.specs.NamedFiles.{files_of}
use Rattle.ann_shelf.proofs.named_files.take_file.Given as goal

abbrev pub invariant-loop-i : goal.invariant-loop-i
invariant-loop-i l = without_file (files_of l.files.items) l.name ≡ without_file (files_of l.fn.files.items) l.name

abbrev pub decreases-loop-i : goal.decreases-loop-i
decreases-loop-i l = length l.files.items
