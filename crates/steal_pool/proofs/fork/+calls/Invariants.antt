use Rattle.std.proofs.Common.{◌+◌, ◌-◌, ◌*◌, length}
use Rattle.steal_pool.proofs.fork.+calls.Given as goal

abbrev pub decreases-for_each_from : goal.decreases-for_each_from
decreases-for_each_from g l = 4 * length l.s.now

abbrev pub decreases-call_beside : goal.decreases-call_beside
decreases-call_beside g l = 4 * (length l.one.now + length l.rest.now) - 1

abbrev pub decreases-call_beside-own : goal.decreases-call_beside-own
decreases-call_beside-own g l = 4 * length l.one.now + 1

abbrev pub decreases-call_beside-others : goal.decreases-call_beside-others
decreases-call_beside-others g l = 4 * length l.rest.now + 1
