use Rattle.std.proofs.Common.{◌≡◌, take}
use Rattle.batch_insert.specs.Changes.{put_all}
use Rattle.batch_insert.specs.Entries.{entries}
use Rattle.batch_insert.proofs.changes.ChangedRows.put_into.Given as goal

abbrev pub invariant-loop-changed : goal.invariant-loop-changed
invariant-loop-changed l = l.graph ≡ put_all l.fn.graph (entries (take l.changed-index l.changed-items))
