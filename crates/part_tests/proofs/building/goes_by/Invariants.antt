use Rattle.std.proofs.Common.{◌≡◌}
use Rattle.part_tests.proofs.building.goes_by.Given as goal

abbrev pub invariant-loop-rows : goal.invariant-loop-rows
invariant-loop-rows g l = l.build.workers ≡ 1
