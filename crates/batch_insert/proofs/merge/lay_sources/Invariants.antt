use Rattle.std.proofs.Common.{◌≡◌, ◌≤◌, ◌+◌, ◌++◌, take, not}
use Rattle.std.specs.List.{filter}
use Rattle.ann_defs.specs.Distance.{point}
use Rattle.ann_defs.specs.Nearness.{all_near}
use Rattle.ann_defs.specs.Graph.{has}
use Rattle.batch_insert.specs.Sources.{sources_in}
use Rattle.batch_insert.proofs.merge.lay_sources.Given as goal

abbrev pub invariant-loop-pair : goal.invariant-loop-pair
invariant-loop-pair l = record {
  list : take l.len l.room ≡ take l.from l.fn.room ++ all_near l.points.vectors (point l.points.vectors l.target) (filter (λ s. not (has l.row s)) (sources_in (take l.pair-index l.sources)));
  least : l.from ≤ l.len;
  bound : l.len ≤ l.from + l.pair-index;
}
