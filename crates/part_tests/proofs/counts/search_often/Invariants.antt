use Rattle.std.proofs.Common.{◌≡◌}
use Rattle.part_tests.proofs.counts.search_often.Given as goal

abbrev pub invariant-loop : goal.invariant-loop
invariant-loop l = record { count : l.scratch.count ≡ 4194304; beam : l.scratch.beam ≡ 4 }
