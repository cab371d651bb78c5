-- A command ends at a read that fails among its first.
use Rattle.std.proofs.Common.{◌≡◌, ◌∙◌, List, ◌∷◌, ◌++◌, ap, append_assoc, Some}
use Rattle.ann_shelf.specs.Shown.{Shown}
use Rattle.ann_shelf.specs.Written.{Got}
use Rattle.annbuild_lines.specs.declared.fault.Fault.{Fault}
use Rattle.command_shapes.specs.Doing.{Doing, Reads}
use Rattle.command_shapes.specs.Ends.{Ends}
use Rattle.command_shapes.proofs.Ending.{fails_at}
use Rattle.annbuild_commands.specs.Indexed.{FailedAmong}

-- whatever reads it has behind these
pub fails_among : (d : Doing) (rest reads : List Reads) (old new : Shown) (had : Got) (fault : Fault) → d.reads ≡ reads ++ rest → FailedAmong reads old new fault → Ends d old new had had (Some fault)
fails_among d rest reads old new had fault is f =
    fails_at d f.before (f.behind ++ rest) f.read (is ∙ ap (λ rs. rs ++ rest) f.all ∙ append_assoc f.before (f.read ∷ f.behind) rest) old f.mid new had fault f.so_far f.failed
