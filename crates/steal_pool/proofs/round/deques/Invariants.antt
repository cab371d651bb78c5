use Rattle.std.proofs.Common.{◌≡◌, length}
use Rattle.steal_pool.proofs.round.deques.Given as goal

abbrev pub invariant-loop : goal.invariant-loop
invariant-loop l = length l.deques.items ≡ l.counter
