use Rattle.neighbour_lists.specs.Held.{BelongTo}
use Rattle.list_tests.proofs.active.grown.Given as goal

abbrev pub invariant-loop-t : goal.invariant-loop-t
invariant-loop-t g l = BelongTo l.points.vectors l.lists
