use Rattle.std.proofs.Common.{◌≡◌, ◌+◌, ◌*◌, ◌++◌, take}
use Rattle.graph_rows.specs.Index.{words}
use Rattle.graph_files.specs.Writing.{pending}
use Rattle.graph_files.proofs.pieces.Pieces.push_all.Given as goal

abbrev pub invariant-loop-n : goal.invariant-loop-n
invariant-loop-n l = record {
  bytes : pending l.self ≡ pending l.initial.self ++ words (take l.n-index l.ns);
  len : l.self.len ≡ l.initial.self.len + 4 * l.n-index;
}
