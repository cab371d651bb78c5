-- The parts of a command that write: one that stores a file and prints, and one that prints alone.
use Rattle.std.specs.Prelude.{◌≡◌, ◌⊎◌, ℕ, ◌≤◌, Bool, true, List, [], ◌++◌, Option, Some, None, IfSome, IfNone}
use Rattle.std.specs.List.{concat}
use Rattle.ann_shelf.specs.Faults.{Rose}
use Rattle.ann_shelf.specs.Written.{GotSome}
use Rattle.annbuild_lines.specs.declared.fault.Fault.{Fault}
use Rattle.annbuild_lines.specs.declared.fault.Fault.TheVariants.{Write, NoMemory}
use Rattle.command_options.specs.declared.role.Role.{Role}
use Rattle.command_options.specs.declared.role.Role.TheVariants.{Output}
use Rattle.ann_shelf.specs.Written.{Got}
use Rattle.command_shapes.specs.Doing.{Stored, Doing}
use Rattle.command_shapes.specs.Clauses.{GotBeforeMemory}

-- what is left of a command once its files are read: it stores this file, if there is one, and prints the pieces of a run
abbrev pub writing_runs : Option Stored → (lawful : List ℕ → Bool) → (pieces : List ℕ → List (List ℕ)) → Doing
writing_runs stores lawful pieces = record {
  reads = [];
  rest = λ files. None;
  meant = λ files. Unit {0};
  stores = stores;
  lawful = λ files. lawful;
  pieces = λ files. pieces;
}

-- the same where the files decide the pieces
abbrev pub writing : Option Stored → List (List ℕ) → Doing
writing stores pieces = writing_runs stores (λ run. true) (λ run. pieces)

-- a file with this text
abbrev pub stored_as : Role → List ℕ → List ℕ → Stored
stored_as role name text = record { role = role; name = name; text = λ files. text }

-- the role of a file
abbrev pub IsFile : Role → Type 0
IsFile Output = ⊥
IsFile role = Unit {0}

-- what there is after a fault of printing: this after a failed write of the output, that after want of memory
abbrev pub AfterPrinting : (failed memory : Type 0) → Fault → Type 0
AfterPrinting failed memory (Write Output) = failed
AfterPrinting failed memory NoMemory = memory
AfterPrinting failed memory fault = ⊥

-- a fault of printing
abbrev pub IsOfPrinting : (outs : Type 0) → Fault → Type 0
IsOfPrinting outs = AfterPrinting outs (Unit {0})

-- what the output got of pieces after a fault of printing them
abbrev pub LeavesPieces : (wants : Type 0) → List ℕ → List ℕ → List (List ℕ) → Fault → Type 0
LeavesPieces wants old new pieces = AfterPrinting (GotSome old new (concat pieces)) ((new ≡ old) ⊎ GotBeforeMemory wants old new pieces)

-- how printing these pieces ends
pub record Printed (pieces : List (List ℕ)) (had got : Got) (fault : Option Fault) : Type 0 where
  pub whole : IfNone fault (IfSome had.written (λ before. got.written ≡ Some (before ++ concat pieces)))
  pub leaves : IfSome fault (λ f. IfSome had.written (λ before. (after : List ℕ) × (got.written ≡ Some after) × LeavesPieces (Rose had.wants got.wants) before after pieces f))
  pub cause : IfSome fault (IsOfPrinting (Rose had.faults got.faults))
  pub faults : had.faults ≤ got.faults
  pub wants : had.wants ≤ got.wants
