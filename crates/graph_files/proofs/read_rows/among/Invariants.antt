use Rattle.std.proofs.Common.{◌≡◌, take}
use Rattle.ann_defs.specs.Graph.{has}
use Rattle.graph_files.proofs.read_rows.among.Given as goal

abbrev pub invariant-loop-other : goal.invariant-loop-other
invariant-loop-other l = record {
  found : l.found ≡ has (take l.other-index l.ids) l.id;
}
