use Rattle.neighbour_lists.specs.Held.{BelongTo}
use Rattle.list_tests.proofs.active.tasks_of_rounds.Given as goal

abbrev pub invariant-loop-r : goal.invariant-loop-r
invariant-loop-r g l = BelongTo l.points.vectors l.lists
