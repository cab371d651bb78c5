use Rattle.std.proofs.Common.{◌≡◌, map, take, drop, length, All}
use Rattle.steal_pool.proofs.tasks.run_tasks.Given as goal

abbrev pub invariant-loop-at : goal.invariant-loop-at
invariant-loop-at g l = record {
  wide : All (λ y. length y.items ≡ g.W.Work.wide l.work) l.blocks;
  done : take l.at (map (λ y. y.items) l.blocks) ≡ take l.at (drop l.from (g.W.Work.want l.work));
  serves : g.W.Work.serves l.work l.scratch;
}
