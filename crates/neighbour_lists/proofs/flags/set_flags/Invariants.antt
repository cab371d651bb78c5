use Rattle.std.proofs.Common.{◌≡◌, ◌<◌, ℕ, false, get_or}
use Rattle.neighbour_lists.specs.Settled.{IsStill}
use Rattle.neighbour_lists.proofs.flags.set_flags.Given as goal

abbrev pub invariant-loop-v : goal.invariant-loop-v
invariant-loop-v l = (v : ℕ) → v < l.v → get_or l.active v false ≡ false → IsStill l.list l.old.rows.now.rows l.old.edges.now l.new.rows.now.rows l.new.edges.now v
