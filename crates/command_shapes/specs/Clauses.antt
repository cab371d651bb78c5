-- How a command ends, said once of every command.
use Rattle.std.specs.Prelude.{◌≡◌, ◌⊎◌, ℕ, ◌<◌, true, List, [], ◌∷◌, ◌++◌, length, take, Option, Some, None, IfSome}
use Rattle.std.specs.List.{concat}
use Rattle.ann_shelf.specs.Files.{Files}
use Rattle.ann_shelf.specs.Written.{GotSome}
use Rattle.annbuild_lines.specs.declared.fault.Fault.{Fault}
use Rattle.annbuild_lines.specs.declared.fault.Fault.TheVariants.{Usage, Setting, Read, Malformed, Unfit, Write, NoMemory, TooLarge}
use Rattle.command_options.specs.declared.role.Role.{Role}
use Rattle.command_options.specs.declared.role.Role.TheVariants.{Output}
use Rattle.command_shapes.specs.Doing.{Reads, Stored, Doing, refusal_of, files_then, printed_of}

-- what stands on the shelf when the command is done
abbrev pub StoresOf : Doing → Files → Option Files → Type 0
StoresOf d files after = d.meant files × (after ≡ Some (files_then d files))

-- what the output gained when it is done
abbrev pub PrintsOf : Doing → Files → List ℕ → Option (List ℕ) → Type 0
PrintsOf d files before written = (run : List ℕ) × (d.lawful files run ≡ true) × (written ≡ Some (before ++ printed_of d files run))

-- a file with this role is read, and those that are read before it are well formed and within the limits
abbrev pub IsReached : List Reads → Files → Role → Type 0
IsReached [] files role = ⊥
IsReached (r ∷ reads) files role = (role ≡ r.role) ⊎ ((r.refused files ≡ None) × IsReached reads files role)

-- what a fault tells of the files' bytes: a broken rule, files that don't fit and a limit are the first refusal; a failed read comes where none stands before it, a failed write where there is none
abbrev pub IsToldBy : Doing → Files → Fault → Type 0
IsToldBy d files Usage = ⊥
IsToldBy d files (Setting name value least greatest) = ⊥
IsToldBy d files (Read role) = IsReached d.reads files role
IsToldBy d files (Malformed role place rule) = refusal_of d files ≡ Some (Malformed role place rule)
IsToldBy d files (Unfit role what found wanted) = refusal_of d files ≡ Some (Unfit role what found wanted)
IsToldBy d files (Write role) = refusal_of d files ≡ None
IsToldBy d files NoMemory = Unit {0}
IsToldBy d files (TooLarge name value limit) = refusal_of d files ≡ Some (TooLarge name value limit)

-- the cause of a failed read: the count of failed reads of a file with this role rose
abbrev pub IsReadOf : List Reads → (rose : List ℕ → Type 0) → Role → Type 0
IsReadOf [] rose role = ⊥
IsReadOf (r ∷ reads) rose role = ((role ≡ r.role) × rose r.name) ⊎ IsReadOf reads rose role

-- the cause of a failed write of a file: the count of failed writes of the one that is stored rose
abbrev pub IsStoreOf : Option Stored → (rose : List ℕ → Type 0) → Role → Type 0
IsStoreOf None rose role = ⊥
IsStoreOf (Some s) rose role = (role ≡ s.role) × rose s.name

-- the cause of a failed write: that, or the output's count of failed writes rose
abbrev pub IsWriteOf : Doing → (writes : List ℕ → Type 0) → (outs : Type 0) → Role → Type 0
IsWriteOf d writes outs role = ((role ≡ Output) × outs) ⊎ IsStoreOf d.stores writes role

-- the cause of a fault: no fault of the words comes, and a failed call is answered only where its count rose
abbrev pub HasCauseOf : Doing → (reads writes : List ℕ → Type 0) → (outs : Type 0) → Fault → Type 0
HasCauseOf d reads writes outs Usage = ⊥
HasCauseOf d reads writes outs (Setting name value least greatest) = ⊥
HasCauseOf d reads writes outs (Read role) = IsReadOf d.reads reads role
HasCauseOf d reads writes outs (Write role) = IsWriteOf d writes outs role
HasCauseOf d reads writes outs fault = Unit {0}

-- no count of failed reads of these files rose
abbrev pub AreQuiet : List Reads → (rose : List ℕ → Type 0) → Type 0
AreQuiet [] rose = Unit {0}
AreQuiet (r ∷ reads) rose = (rose r.name → ⊥) × AreQuiet reads rose

-- no count of the command's reads and writes rose
abbrev pub IsQuietOf : Doing → (reads writes : List ℕ → Type 0) → (outs : Type 0) → Type 0
IsQuietOf d reads writes outs = AreQuiet d.reads reads × IfSome d.stores (λ s. writes s.name → ⊥) × (outs → ⊥)

-- what stands on the shelf after a fault, where `wants` says that the output's count of want of memory rose: what stood there, but that after a fault of the output the file that is stored is whole
abbrev pub LeavesOf : Doing → (wants : Type 0) → Files → Files → Fault → Type 0
LeavesOf d wants files after (Write Output) = after ≡ files_then d files
LeavesOf d wants files after NoMemory = (after ≡ files) ⊎ (wants × (after ≡ files_then d files))
LeavesOf d wants files after fault = after ≡ files

-- the output gained the first of these pieces, whole, but not all of them
abbrev pub GotPieces : List ℕ → List ℕ → List (List ℕ) → Type 0
GotPieces old new pieces = (count : ℕ) × (count < length pieces) × (new ≡ old ++ concat (take count pieces))

-- what the output got of pieces after want of memory, where `wants` says that its own count of that rose: whole ones, unless it wanted memory itself
abbrev pub GotBeforeMemory : (wants : Type 0) → List ℕ → List ℕ → List (List ℕ) → Type 0
GotBeforeMemory wants old new pieces = GotPieces old new pieces ⊎ (wants × GotSome old new (concat pieces))

-- what the output got after a fault: nothing, unless a write failed or memory was wanted
abbrev pub LeavesOutOf : Doing → (wants : Type 0) → Files → List ℕ → List ℕ → Fault → Type 0
LeavesOutOf d wants files old new (Write Output) = (run : List ℕ) × (d.lawful files run ≡ true) × GotSome old new (printed_of d files run)
LeavesOutOf d wants files old new NoMemory = (new ≡ old) ⊎ ((run : List ℕ) × (d.lawful files run ≡ true) × GotBeforeMemory wants old new (d.pieces files run))
LeavesOutOf d wants files old new fault = new ≡ old

-- the output got something only where the file that is stored is whole
abbrev pub WritesInOrderOf : Doing → Files → Option Files → Option (List ℕ) → Option (List ℕ) → Type 0
WritesInOrderOf d files after before written = (written ≡ before) ⊎ (after ≡ Some (files_then d files))

-- where the files show a refusal, nothing is written
abbrev pub WritesIfAcceptedOf : Doing → Files → Option Files → Option (List ℕ) → Option (List ℕ) → Type 0
WritesIfAcceptedOf d files after before written = (refusal_of d files ≡ None) ⊎ ((after ≡ Some files) × (written ≡ before))

-- a fault that comes before the writing: any but a failed write and want of memory
abbrev pub IsBeforeWriting : Fault → Type 0
IsBeforeWriting (Write role) = ⊥
IsBeforeWriting NoMemory = ⊥
IsBeforeWriting fault = Unit {0}

-- the fault is the refusal that the files show, none where they show none; or there was no memory
abbrev pub IsShownOrNoMemory : (shown fault : Option Fault) → Type 0
IsShownOrNoMemory shown fault = (fault ≡ shown) ⊎ (fault ≡ Some NoMemory)
