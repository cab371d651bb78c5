use Rattle.std.proofs.Common.{◌≡◌, map, take, ℕ}
use Rattle.seeded_order.proofs.insertion.ids_in.Given as goal

abbrev pub invariant-loop-key : goal.invariant-loop-key
invariant-loop-key l = l.ids.items ≡ map (λ (key : ℕ × ℕ). key.1) (take l.key-index l.keys)
