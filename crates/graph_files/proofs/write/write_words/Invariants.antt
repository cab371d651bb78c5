use Rattle.std.proofs.Common.{take}
use Rattle.graph_rows.specs.Index.{words}
use Rattle.graph_files.specs.Writing.{pending}
use Rattle.graph_files.proofs.Grown.{HasAdded}
use Rattle.graph_files.proofs.write.write_words.Given as goal

abbrev pub invariant-loop-n : goal.invariant-loop-n
invariant-loop-n g l = record { so_far : HasAdded (g.F.Shelf.shown l.fn.shelf) (g.F.Shelf.shown l.shelf) l.name (pending l.fn.pieces) (pending l.pieces) (words (take l.n-index l.ns)) }
