use Rattle.std.proofs.Common.{◌≡◌, ◌<◌, ◌+◌, length}
use Rattle.std.specs.List.{All}
use Rattle.part_tests.proofs.settled.with_later.Given as goal

abbrev pub invariant-loop-id : goal.invariant-loop-id
invariant-loop-id l = record {
  inside : All (λ u. u < 40) l.ids.items;
  count : length l.ids.items + l.first ≡ length l.row + l.id;
}
