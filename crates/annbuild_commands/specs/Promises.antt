-- What the top call promises of every command: over what the words mean, what the shelf, the output and the error stream
-- showed before it and show after it, and the fault that it returns, if there is one.
use Rattle.std.specs.Prelude.{◌≡◌, ◌⊎◌, ◌↔◌, ℕ, List, Option, Some, IfSome, IfNone}
use Rattle.ann_shelf.specs.Faults.{Rose}
use Rattle.ann_shelf.specs.Shown.{Shown}
use Rattle.ann_shelf.specs.Written.{Got}
use Rattle.annbuild_words.specs.Asked.{Meaning}
use Rattle.annbuild_words.specs.Asked.Meaning.{Nothing', Outside'}
use Rattle.command_options.specs.declared.setting_name.SettingName.{SettingName}
use Rattle.annbuild_lines.specs.declared.fault.Fault.{Fault}
use Rattle.annbuild_lines.specs.declared.fault.Fault.TheVariants.{Usage, Setting}
use Rattle.command_shapes.specs.Doing.{refusal_of}
use Rattle.command_shapes.specs.Clauses.{IsQuietOf, IsShownOrNoMemory}
use Rattle.command_shapes.specs.Ends.{Ends}
use Rattle.annbuild_commands.specs.Ending.{OnCommand, TellsOf}

-- how what words ask for ends
pub record IsAnswered (asked : Meaning) (old new : Shown) (had got : Got) (fault : Option Fault) : Type 0 where
  pub usage : (fault ≡ Some Usage) ↔ (asked ≡ Nothing')
  pub setting : (name : SettingName) (value least greatest : ℕ) → (fault ≡ Some (Setting name value least greatest)) ↔ (asked ≡ Outside' name value least greatest)
  pub ends : OnCommand asked (λ d. Ends d old new had got fault)

pub record Promises (asked : Meaning) (old new : Shown) (had got had_told told_then : Got) (fault : Option Fault) : Type 0 where
  -- Usage comes exactly where the words mean no request
  pub usage : (fault ≡ Some Usage) ↔ (asked ≡ Nothing')
  -- Setting comes exactly where they mean this setting, the first out of its range
  pub setting : (name : SettingName) (value least greatest : ℕ) → (fault ≡ Some (Setting name value least greatest)) ↔ (asked ≡ Outside' name value least greatest)
  -- the command ends as is said of every command: with code 0 no refusal of its files, its file stored and its lines
  -- printed (`IsDone`); after a fault what the fault tells of the files and what it leaves (`HasFailed`); its cause
  pub ends : OnCommand asked (λ d. Ends d old new had got fault)
  -- where no call failed, the fault is the first refusal that the files show, none where they show none; or want of memory
  pub complete : OnCommand asked (λ d. IfSome old.held (λ files.
      IsQuietOf d (λ name. Rose (old.read_faults name) (new.read_faults name)) (λ name. Rose (old.write_faults name) (new.write_faults name)) (Rose had.faults got.faults)
      → IsShownOrNoMemory (refusal_of d files) fault))
  -- with code 0 the error stream gained nothing
  pub silent : IfNone fault (told_then.written ≡ had_told.written)
  -- a fault is told there in its line, which is cut only where a write of it failed or wanted memory
  pub told : IfSome fault (λ f. IfSome had_told.written (λ before. (after : List ℕ) × (told_then.written ≡ Some after)
      × TellsOf (Rose had_told.faults told_then.faults ⊎ Rose had_told.wants told_then.wants) before after f))
