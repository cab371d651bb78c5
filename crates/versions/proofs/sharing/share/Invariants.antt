use Rattle.std.proofs.Common.{◌≡◌, ◌≤◌, replicate, vec_len, vec_capacity}
use Rattle.versions.specs.Course.{course_of}
use Rattle.versions.specs.Standing.{starting}
use Rattle.versions.proofs.sharing.share.Given as goal

abbrev pub invariant-loop : goal.invariant-loop
invariant-loop l = (l.asking.items ≡ replicate l.counter (starting (course_of l.plan))) × (vec_len l.asking ≡ l.counter) × (l.callers ≤ vec_capacity l.asking)
