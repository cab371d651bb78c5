use Rattle.versions.specs.Course.{course_of}
use Rattle.live_tests.specs.Seated.{CanAsk}
use Rattle.live_tests.proofs.beside.ask_all.Given as goal

abbrev pub invariant-loop-j : goal.invariant-loop-j
invariant-loop-j l = CanAsk (course_of l.plan) 16 4 l.seat
