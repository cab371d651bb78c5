use Rattle.std.proofs.Common.{◌≡◌, ◌≤◌, ◌+◌, ◌++◌, take, drop, not}
use Rattle.std.specs.List.{filter}
use Rattle.ann_defs.specs.Graph.{has}
use Rattle.batch_insert.specs.Sources.{sources_in}
use Rattle.batch_insert.proofs.merge.join_sources.Given as goal

abbrev pub invariant-loop-pair : goal.invariant-loop-pair
invariant-loop-pair l = record {
  list : take l.len l.out ≡ take l.from l.fn.out ++ filter (λ s. not (has l.row s)) (sources_in (take l.pair-index l.sources));
  rest : drop l.len l.out ≡ drop l.len l.fn.out;
  least : l.from ≤ l.len;
  bound : l.len ≤ l.from + l.pair-index;
}
