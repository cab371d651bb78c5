-- How what words ask for ends.
use Rattle.std.proofs.Common.{◌≡◌, ◌∙◌, ℕ, false, sym, subst, Option, Some, IfSome, IfNone, List}
use Rattle.std.specs.Prelude.{◌⊎◌}
use Rattle.ann_shelf.specs.Faults.{Rose}
use Rattle.ann_shelf.specs.Shown.{Shown}
use Rattle.ann_shelf.specs.Written.{Got}
use Rattle.annbuild_words.specs.Asked.{Command, Meaning, request_of}
use Rattle.annbuild_words.specs.Asked.Meaning.{Means}
use Rattle.command_options.specs.Shapes.{is_live}
use Rattle.annbuild_lines.specs.declared.fault.Fault.{Fault}
use Rattle.annbuild_commands.specs.Ending.{TellsOf, begins_live}
use Rattle.annbuild_commands.specs.Promises.{IsAnswered, Promises}
use Rattle.annbuild_commands.proofs.FirstWord.{first_word}
use Rattle.annbuild_commands.proofs.TopClauses.{complete}

-- it is no `live` where the first word isn't
pub plain_command : (words : List (List ℕ)) (c : Command) → begins_live words ≡ false → request_of words ≡ Means c → is_live c.verb ≡ false
plain_command words c first is = first_word words c is ∙ first

-- the promises of the top call
pub promised : (asked : Meaning) (old new : Shown) (had got had_told told_then : Got) (ended fault : Option Fault) → fault ≡ ended → IsAnswered asked old new had got ended
    → IfNone fault (told_then.written ≡ had_told.written)
    → IfSome fault (λ f. IfSome had_told.written (λ before. (after : List ℕ) × (told_then.written ≡ Some after)
    × TellsOf (Rose had_told.faults told_then.faults ⊎ Rose had_told.wants told_then.wants) before after f))
    → Promises asked old new had got had_told told_then fault
promised asked old new had got had_told told_then ended fault same a silent told =
    let b = subst (IsAnswered asked old new had got) (sym same) a in
    record {
      usage = b.usage;
      setting = b.setting;
      ends = b.ends;
      complete = complete old new had got asked fault b.ends;
      silent = silent;
      told = told;
    }
