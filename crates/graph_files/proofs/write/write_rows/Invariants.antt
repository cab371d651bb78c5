use Rattle.std.proofs.Common.{take}
use Rattle.graph_rows.specs.Index.{rows_bytes}
use Rattle.graph_files.specs.Writing.{pending}
use Rattle.graph_files.proofs.Grown.{HasAdded}
use Rattle.graph_files.proofs.write.write_rows.Given as goal

abbrev pub invariant-loop-i : goal.invariant-loop-i
invariant-loop-i g l = record { so_far : HasAdded (g.F.Shelf.shown l.fn.shelf) (g.F.Shelf.shown l.shelf) l.name (pending l.fn.pieces) (pending l.pieces) (rows_bytes (take l.i l.graph.rows)) }
