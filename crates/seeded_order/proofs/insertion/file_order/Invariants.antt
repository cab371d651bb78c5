use Rattle.std.proofs.Common.{◌≡◌}
use Rattle.seeded_order.specs.Order.{file_order_of}
use Rattle.seeded_order.proofs.insertion.file_order.Given as goal

abbrev pub invariant-loop-id : goal.invariant-loop-id
invariant-loop-id l = l.ids.items ≡ file_order_of l.id
