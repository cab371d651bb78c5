use Rattle.near_lists.proofs.Halving.{IsBetween}
use Rattle.near_lists.proofs.list.place_of.Given as goal

abbrev pub invariant-loop-left : goal.invariant-loop-left
invariant-loop-left l = IsBetween l.list l.x l.low l.left

abbrev pub decreases-loop-left : goal.decreases-loop-left
decreases-loop-left l = l.left
