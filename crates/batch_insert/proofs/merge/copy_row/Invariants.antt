use Rattle.std.proofs.Common.{◌≡◌, take, drop}
use Rattle.batch_insert.proofs.merge.copy_row.Given as goal

abbrev pub invariant-loop-id : goal.invariant-loop-id
invariant-loop-id l = record {
  list : take l.len l.out ≡ take l.id-index l.row;
  rest : drop l.len l.out ≡ drop l.len l.fn.out;
  count : l.len ≡ l.id-index;
}
