use Rattle.std.proofs.Common.{◌≡◌, take}
use Rattle.batch_insert.specs.Changes.{put_all_in_layer}
use Rattle.batch_insert.specs.Entries.{entries}
use Rattle.batch_insert.proofs.changes.ChangedRows.put_into_layer.Given as goal

abbrev pub invariant-loop-changed : goal.invariant-loop-changed
invariant-loop-changed l = l.layer ≡ put_all_in_layer l.fn.layer (entries (take l.changed-index l.changed-items))
