use Rattle.std.proofs.Common.{◌<◌, ◌≤◌, arith}
use Rattle.ann_defs.specs.BatchInsert.{bound_at, total_of}
use Rattle.prefix_batches.proofs.Bounds.{bound_within, total_before, total_within, none_left, one_left}
use Rattle.prefix_batches.proofs.batches.Batches.next.Goals as goal

pub returns-then-self-clause-counted : goal.returns-then-self-clause-counted
returns-then-self-clause-counted c =
    rw (← c.self.view_is) (none_left c.self.inside.n c.self.inside.cap c.self.inside.done c.self.invariant.0 c.self.invariant.2 (omega arith))

pub overflow_add-self : goal.overflow_add-self
overflow_add-self c =
    let within : total_of c.self.inside.n c.self.inside.cap ≤ c.self.inside.n = total_within c.self.inside.n c.self.inside.cap c.self.invariant.0 c.self.invariant.2 in
    omega arith

pub invariant_of-self : goal.invariant_of-self
invariant_of-self c =
    let below : bound_at c.self.inside.n c.self.inside.cap c.self.inside.done < c.self.inside.n = omega arith in
    let more : c.self.inside.done < total_of c.self.inside.n c.self.inside.cap = total_before c.self.inside.n c.self.inside.cap c.self.inside.done c.self.invariant.0 c.self.invariant.2 below in (
      c.self.invariant.0,
      c.self.invariant.1,
      c.self.invariant.2,
      c.self.invariant.3,
      c.self.invariant.4,
      omega arith,
      c.bound_after-to.ensures.next c.self.inside.done c.self.invariant.6,
    )

pub returns-clause-counted : goal.returns-clause-counted
returns-clause-counted c =
    let within : bound_at c.self.inside.n c.self.inside.cap c.self.inside.done ≤ c.self.inside.n = bound_within c.self.inside.n c.self.inside.cap c.self.inside.done c.self.invariant.0 in
    let below : bound_at c.self.inside.n c.self.inside.cap c.self.inside.done < c.self.inside.n = omega arith in
    rw (← c.self.view_is) (one_left c.self.inside.n c.self.inside.cap c.self.inside.done c.self.invariant.0 c.self.invariant.2 below)
