use Rattle.std.proofs.Common.{◌≤◌, take}
use Rattle.near_lists.specs.Marks.{AreUnseen}
use Rattle.near_lists.proofs.marks.collect.Given as goal

abbrev pub invariant-loop-id : goal.invariant-loop-id
invariant-loop-id l = record {
  unseen : AreUnseen l.seen (take l.id-index l.ids) l.fn.marks (take l.count l.todo) l.marks;
  bound : l.count ≤ l.id-index;
}
