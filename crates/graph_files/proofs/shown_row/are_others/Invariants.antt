use Rattle.std.proofs.Common.{◌≡◌, ◌≢◌, true, take}
use Rattle.std.specs.List.{All}
use Rattle.graph_rows.specs.Members.{holds}
use Rattle.graph_files.proofs.shown_row.are_others.Given as goal

abbrev pub invariant-loop-id : goal.invariant-loop-id
invariant-loop-id l = record {
  inside : l.clean ≡ true → All (λ v. holds l.members v ≡ true) (take l.id-index l.ids);
  others : l.clean ≡ true → All (λ v. v ≢ l.own) (take l.id-index l.ids);
}
