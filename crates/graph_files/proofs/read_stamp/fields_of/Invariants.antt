use Rattle.std.proofs.Common.{◌≡◌, ◌+◌, ◌*◌, drop}
use Rattle.graph_files.specs.Stamping.{fields_fault}
use Rattle.graph_files.proofs.read_stamp.fields_of.Given as goal

abbrev pub invariant-loop-range : goal.invariant-loop-range
invariant-loop-range l = record {
  place : l.at ≡ 32 + 4 * l.range-index;
  so_far : fields_fault (drop l.range-index l.ranges) l.front l.at ≡ fields_fault l.ranges l.front 32;
}
