-- A command as data: the files that it reads, what it refuses, the file that it stores, and the lines that it prints.
use Rattle.std.specs.Prelude.{ℕ, Bool, List, [], ◌∷◌, Option, Some, None}
use Rattle.std.specs.List.{concat}
use Rattle.std.specs.Option.{option_or}
use Rattle.ann_shelf.specs.Files.{Files, with_file}
use Rattle.annbuild_lines.specs.declared.fault.Fault.{Fault}
use Rattle.command_options.specs.declared.role.Role.{Role}

-- a file that is read, and the refusal that the files show when its turn comes; it may depend on files that are read earlier
pub record Reads : Type 0 where
  pub role : Role
  pub name : List ℕ
  pub refused : Files → Option Fault

-- a file that is stored: one with this text, of the files as they were
pub record Stored : Type 0 where
  pub role : Role
  pub name : List ℕ
  pub text : Files → List ℕ

-- a command; `run` below stands for what the files don't decide, which are the batches of live answers
pub record Doing : Type 1 where
  -- the files that are read, in this order
  pub reads : List Reads
  -- the refusal once all of them are read: files that don't fit together, then the limits
  pub rest : Files → Option Fault
  -- what is known of the files where none is refused
  pub meant : Files → Type 0
  -- the file that is stored, if there is one
  pub stores : Option Stored
  -- the runs that may be
  pub lawful : Files → (run : List ℕ) → Bool
  -- what is printed, in the pieces that go out one after another
  pub pieces : Files → (run : List ℕ) → List (List ℕ)

-- the first refusal of files that are read in this order
abbrev pub first_refused : List Reads → Files → Option Fault
first_refused [] files = None
first_refused (r ∷ reads) files = option_or (r.refused files) (first_refused reads files)

-- the first refusal that the files show
abbrev pub refusal_of : Doing → Files → Option Fault
refusal_of d files = option_or (first_refused d.reads files) (d.rest files)

-- the files with one that is stored
abbrev pub files_with : Option Stored → Files → Files
files_with None files = files
files_with (Some s) files = with_file files s.name (s.text files)

-- the files once the command is done
abbrev pub files_then : Doing → Files → Files
files_then d files = files_with d.stores files

-- what the command prints in all
abbrev pub printed_of : Doing → Files → (run : List ℕ) → List ℕ
printed_of d files run = concat (d.pieces files run)
