use Rattle.std.proofs.Common.{◌≡◌, ◌≤◌, take, drop}
use Rattle.ann_defs.specs.Nearness.{ids_of}
use Rattle.robust_prune.proofs.nearest.copy_first.Given as goal

abbrev pub invariant-loop-candidate : goal.invariant-loop-candidate
invariant-loop-candidate l = record {
  ids : take l.len l.out ≡ ids_of (take l.len l.cands);
  at : l.len ≡ l.candidate-index;
  bound : l.len ≤ l.count;
  rest : drop l.len l.out ≡ drop l.len l.fn.out;
}
