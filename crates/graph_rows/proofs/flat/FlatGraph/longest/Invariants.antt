use Rattle.std.proofs.Common.{◌≡◌, take}
use Rattle.graph_rows.specs.Index.{longest_in}
use Rattle.graph_rows.proofs.flat.FlatGraph.longest.Given as goal

abbrev pub invariant-loop-i : goal.invariant-loop-i
invariant-loop-i l = l.longest ≡ longest_in (take l.i l.self.rows)
