use Rattle.std.proofs.Common.{◌≡◌}
use Rattle.std.specs.List.{AllWithin}
use Rattle.near_lists.specs.Marks.{mark_of}
use Rattle.beam_search.proofs.walk.first_left.Given as goal

abbrev pub invariant-loop-i : goal.invariant-loop-i
invariant-loop-i l = AllWithin (λ x. mark_of l.marks x.id ≡ l.visited) l.list l.from l.i
