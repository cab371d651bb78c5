use Rattle.std.proofs.Common.{◌≡◌}
use Rattle.live_tests.proofs.worked.OneCaller.published_last.Given as goal

abbrev pub invariant-loop : goal.invariant-loop
invariant-loop g l = record {
  same : l.self ≡ l.fn.self;
  note : l.last.course ≡ l.fn.self;
}
