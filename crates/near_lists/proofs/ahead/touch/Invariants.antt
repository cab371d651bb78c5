use Rattle.std.proofs.Common.{◌-◌, length}
use Rattle.near_lists.proofs.ahead.touch.Given as goal

abbrev pub decreases-loop-at : goal.decreases-loop-at
decreases-loop-at l = length l.point - l.at
