use Rattle.std.proofs.Common.{◌≡◌, length, All}
use Rattle.steal_table.proofs.blocks.blank_blocks.Given as goal

abbrev pub invariant-loop : goal.invariant-loop
invariant-loop l = record { count : length l.blocks.items ≡ l.counter; wide : All (λ y. length y.items ≡ l.width) l.blocks.items }
