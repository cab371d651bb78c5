-- Completeness of the top call, from how its command ends.
use Rattle.std.proofs.Common.{sym, inl, Option, Some, None, IfSome}
use Rattle.ann_shelf.specs.Faults.{Rose}
use Rattle.annbuild_words.specs.Asked.{Meaning}
use Rattle.annbuild_words.specs.Asked.Meaning.{Nothing', Outside', Means}
use Rattle.annbuild_lines.specs.declared.fault.Fault.{Fault}
use Rattle.bin_files.proofs.Pieces.{told_then}
use Rattle.ann_shelf.specs.Shown.{Shown}
use Rattle.ann_shelf.specs.Written.{Got}
use Rattle.command_shapes.specs.Doing.{Doing, refusal_of}
use Rattle.command_shapes.specs.Clauses.{IsQuietOf, IsShownOrNoMemory}
use Rattle.command_shapes.specs.Ends.{Ends}
use Rattle.command_shapes.proofs.Completing.{shown_or_memory}
use Rattle.annbuild_commands.specs.Commands.{doing_of}
use Rattle.annbuild_commands.specs.Ending.{OnCommand}

-- what is said of a command, from something else that is
on_command : (P Q : Doing → Type 0) (m : Meaning) → ((d : Doing) → P d → Q d) → OnCommand m P → OnCommand m Q
on_command P Q Nothing' f p = tt
on_command P Q (Outside' name value least greatest) f p = tt
on_command P Q (Means c) f p = f (doing_of c) p

module _ (old new : Shown) (had got : Got) where
  abbrev Completes : Doing → Option Fault → Type 0
  Completes d fault = IfSome old.held (λ files.
      IsQuietOf d (λ name. Rose (old.read_faults name) (new.read_faults name)) (λ name. Rose (old.write_faults name) (new.write_faults name)) (Rose had.faults got.faults)
      → IsShownOrNoMemory (refusal_of d files) fault)

  completes : (d : Doing) (fault : Option Fault) → Ends d old new had got fault → Completes d fault
  completes d None x = told_then old.held x.done (λ files done q. inl (sym done.accepted))
  completes d (Some fault) x = told_then old.held x.failed (λ files failed q.
      shown_or_memory d files (λ name. Rose (old.read_faults name) (new.read_faults name)) (λ name. Rose (old.write_faults name) (new.write_faults name)) (Rose had.faults got.faults) fault x.cause failed.tells q)

  pub complete : (m : Meaning) (fault : Option Fault) → OnCommand m (λ d. Ends d old new had got fault) → OnCommand m (λ d. IfSome old.held (λ files.
      IsQuietOf d (λ name. Rose (old.read_faults name) (new.read_faults name)) (λ name. Rose (old.write_faults name) (new.write_faults name)) (Rose had.faults got.faults)
      → IsShownOrNoMemory (refusal_of d files) fault))
  complete m fault e = on_command (λ d. Ends d old new had got fault) (λ d. Completes d fault) m (λ d x. completes d fault x) e
