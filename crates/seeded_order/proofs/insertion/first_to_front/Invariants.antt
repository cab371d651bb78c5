use Rattle.std.proofs.Common.{◌≡◌, ◌++◌, ◌∷◌, [], take, drop, not}
use Rattle.std.specs.Prelude.{◌==◌}
use Rattle.std.specs.List.{filter}
use Rattle.seeded_order.proofs.insertion.first_to_front.Given as goal

abbrev pub invariant-loop-i : goal.invariant-loop-i
invariant-loop-i l = record {
  front : take l.i l.list ++ l.carry ∷ [] ≡ l.id ∷ take l.i l.fn.list;
  rest : drop l.i l.list ≡ drop l.i l.fn.list;
  others : filter (λ x. not (x == l.id)) (take l.i l.fn.list) ≡ take l.i l.fn.list;
}
