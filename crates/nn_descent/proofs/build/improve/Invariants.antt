use Rattle.std.proofs.Common.{◌≡◌, ◌-◌}
use Rattle.neighbour_lists.specs.Held.{BelongTo}
use Rattle.nn_descent.specs.NndIndex.{improved}
use Rattle.nn_descent.proofs.build.improve.Given as goal

abbrev pub invariant-loop-round : goal.invariant-loop-round
invariant-loop-round g l = record {
  so_far : improved l.points.vectors l.lists.list l.floor (l.rounds - l._round) l.lists.rows ≡ improved l.points.vectors l.fn.lists.list l.floor l.rounds l.fn.lists.rows;
  list : l.lists.list ≡ l.fn.lists.list;
  belong : BelongTo l.points.vectors l.lists;
  workers : g.P.Rounds.count l.pool ≡ g.P.Rounds.count l.fn.pool;
}
