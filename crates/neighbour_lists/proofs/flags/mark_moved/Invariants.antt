use Rattle.std.proofs.Common.{◌≡◌, ◌<◌, ℕ, false, get_or}
use Rattle.ann_defs.specs.Laws.{AreAlike}
use Rattle.neighbour_lists.specs.Settled.{around_in}
use Rattle.neighbour_lists.proofs.flags.mark_moved.Given as goal

abbrev pub invariant-loop-v : goal.invariant-loop-v
invariant-loop-v l = (u : ℕ) → u < l.v → get_or l.moved u false ≡ false → AreAlike (around_in l.list l.new.rows.now.rows l.new.edges.now u) (around_in l.list l.old.rows.now.rows l.old.edges.now u)
