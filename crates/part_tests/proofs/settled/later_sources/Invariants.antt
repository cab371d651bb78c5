use Rattle.std.proofs.Common.{◌≡◌, ◌≤◌, ◌+◌, ◌-◌, length}
use Rattle.std.specs.List.{range_with_len}
use Rattle.batch_insert.specs.Sources.{sources_in}
use Rattle.part_tests.proofs.settled.later_sources.Given as goal

abbrev pub invariant-loop-source : goal.invariant-loop-source
invariant-loop-source l = record {
  sources : sources_in l.pairs.items ≡ range_with_len l.first (l.source - l.first);
  count : length l.pairs.items + l.first ≡ l.source;
  low : l.first ≤ l.source;
}
