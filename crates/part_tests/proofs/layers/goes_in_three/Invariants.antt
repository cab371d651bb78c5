use Rattle.std.proofs.Common.{◌≡◌}
use Rattle.part_tests.proofs.layers.goes_in_three.Given as goal

abbrev pub invariant-loop-i : goal.invariant-loop-i
invariant-loop-i g l = l.build.workers ≡ 1
