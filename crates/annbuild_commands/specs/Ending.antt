-- What the words mean, as a condition of what is said of a call, and the line of a fault.
use Rattle.std.specs.Prelude.{◌≡◌, ◌⊎◌, ℕ, ◌<◌, Bool, false, List, [], ◌∷◌, ◌++◌, length, take, Option, Some, None}
use Rattle.std.specs.Str.{bytes_eq}
use Rattle.annbuild_words.specs.Asked.{Meaning}
use Rattle.annbuild_words.specs.Asked.Meaning.{Nothing', Outside', Means}
use Rattle.command_options.specs.Verbs.{verb_name}
use Rattle.command_options.specs.declared.verb.Verb.TheVariants.{Live}
use Rattle.annbuild_lines.specs.Lines.{fault_text}
use Rattle.annbuild_lines.specs.declared.fault.Fault.{Fault}
use Rattle.annbuild_lines.specs.declared.fault.Fault.TheVariants.{Usage, Setting}
use Rattle.command_shapes.specs.Doing.{Doing}
use Rattle.annbuild_commands.specs.Commands.{doing_of}

-- P of the command that the words mean, as data, if they mean one
abbrev pub OnCommand : Meaning → (Doing → Type 0) → Type 0
OnCommand (Means command) P = P (doing_of command)
OnCommand meaning P = Unit {0}

-- the words mean no request, or one with a setting out of its range
abbrev pub IsNoCommand : Meaning → Type 0
IsNoCommand (Means command) = ⊥
IsNoCommand meaning = Unit {0}

-- the fault that words are which mean no command
abbrev pub words_fault : Meaning → Option Fault
words_fault Nothing' = Some Usage
words_fault (Outside' name value least greatest) = Some (Setting name value least greatest)
words_fault (Means command) = None

-- the first word is the command that builds beside callers, which alone may wait
abbrev pub begins_live : List (List ℕ) → Bool
begins_live [] = false
begins_live (word ∷ words) = bytes_eq word (verb_name Live)

-- the line of a fault
unfoldable pub fault_line : Fault → List ℕ
fault_line fault = fault_text fault

-- err gained the line of the fault, or a proper prefix of it where a write failed or wanted memory
abbrev pub TellsOf : (failed : Type 0) → List ℕ → List ℕ → Fault → Type 0
TellsOf failed before after fault =
    (after ≡ before ++ fault_line fault) ⊎ (failed × ((k : ℕ) × (k < length (fault_line fault)) × (after ≡ before ++ take k (fault_line fault))))
