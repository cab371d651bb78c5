use Rattle.std.proofs.Common.{◌≡◌}
use Rattle.steal_table.specs.Opened.{AllFresh, caller_of}
use Rattle.steal_table.proofs.opening.seats.Given as goal

abbrev pub invariant-loop-number : goal.invariant-loop-number
invariant-loop-number l = record { own : l.own ≡ caller_of l.board l.number; passes : AllFresh l.board l.number l.passes.items }
