use Rattle.std.proofs.Common.{◌≡◌, take, drop}
use Rattle.ann_defs.specs.Nearness.{ids_of}
use Rattle.batch_insert.proofs.merge.copy_ids.Given as goal

abbrev pub invariant-loop-i : goal.invariant-loop-i
invariant-loop-i l = record {
  list : take l.i l.out ≡ ids_of (take l.i l.nears);
  rest : drop l.i l.out ≡ drop l.i l.fn.out;
}
