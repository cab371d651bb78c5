use Rattle.std.proofs.Common.{◌≡◌}
use Rattle.neighbour_lists.specs.Held.{BelongTo}
use Rattle.nn_descent.specs.NndIndex.{planted}
use Rattle.nn_descent.proofs.build.planted_lists.Given as goal

abbrev pub invariant-loop-t : goal.invariant-loop-t
invariant-loop-t g l = record {
  so_far : l.lists.rows ≡ planted l.points.vectors l.settings l.t;
  list : l.lists.list ≡ l.settings.list;
  belong : BelongTo l.points.vectors l.lists;
  workers : g.P.Rounds.count l.pool ≡ g.P.Rounds.count l.fn.pool;
}
