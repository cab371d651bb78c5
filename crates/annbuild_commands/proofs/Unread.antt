-- Commands that read no file.
use Rattle.std.proofs.Common.{◌≡◌, ◌∙◌, [], refl, sym, subst, inl, inr, Option, Some}
use Rattle.std.specs.Prelude.{◌⊎◌}
use Rattle.ann_shelf.specs.Files.{Files}
use Rattle.ann_shelf.specs.Shown.{Shown}
use Rattle.ann_shelf.specs.Written.{Got}
use Rattle.annbuild_lines.specs.declared.fault.Fault.{Fault}
use Rattle.annbuild_lines.specs.declared.fault.Fault.TheVariants.{NoMemory}
use Rattle.command_shapes.specs.Doing.{Doing}
use Rattle.command_shapes.specs.Ends.{Ends, HaveRead}
use Rattle.command_shapes.proofs.Told.{told_here}
use Rattle.command_shapes.proofs.ReadFacts.{none_read}
use Rattle.command_shapes.proofs.Ending.{IsOfFiles, fails_rest, fails_memory}

-- a limit or want of memory
pub fails_unread : (d : Doing) (refused : Option Fault) → d.reads ≡ [] → ((files : Files) → d.rest files ≡ refused) → ((fault : Fault) → refused ≡ Some fault → IsOfFiles fault)
    → (shown : Shown) (had : Got) (fault : Fault) → (refused ≡ Some fault) ⊎ (fault ≡ NoMemory) → Ends d shown shown had had (Some fault)
fails_unread d refused no_reads rest of shown had fault why = elim why as (λ _. Ends d shown shown had had (Some fault)) [
  | inl over ↦ fails_rest d shown shown had fault (of fault over) (subst (λ r. HaveRead r shown shown) (sym no_reads) (none_read shown))
      (told_here shown.held (λ files e. rest files ∙ over))
  | inr is ↦ subst (λ f. Ends d shown shown had had (Some f)) (sym is) (fails_memory d shown shown had refl)
]
