use Rattle.std.proofs.Common.{◌≡◌}
use Rattle.std.specs.List.{filter, range_with_len}
use Rattle.neighbour_lists.specs.Held.{is_active}
use Rattle.neighbour_lists.proofs.next_lists.list_active.Given as goal

abbrev pub invariant-loop-v : goal.invariant-loop-v
invariant-loop-v l = l.ids.items ≡ filter (is_active l.lists) (range_with_len 0 l.v)
