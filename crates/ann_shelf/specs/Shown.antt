-- What a shelf shows, and what a call of it leaves besides the bytes.
use Rattle.std.specs.Prelude.{◌≡◌, ℕ, List, Option, Some, IfSome}
use Rattle.ann_shelf.specs.Faults.{Rose, NoneFell}
use Rattle.ann_shelf.specs.Files.{Files, without_file}

-- the files that are held, and those that were begun and appended and aren't finished, where the shelf tells them;
-- for each name how often a read of it failed, and how often a begin, append or finish did
pub record Shown : Type 0 where
  pub held : Option Files
  pub begun : Option Files
  pub read_faults : List ℕ → ℕ
  pub write_faults : List ℕ → ℕ

-- all files are as they were, but that of this name
abbrev pub OthersStay : Option Files → Option Files → List ℕ → Type 0
OthersStay old new name = IfSome old (λ files. (after : Files) × (new ≡ Some after) × (without_file after name ≡ without_file files name))

-- a call that only reads this file; `failed` says that it answered a failed read
pub record OnlyReads (old new : Shown) (name : List ℕ) (failed : Type 0) : Type 0 where
  pub held : new.held ≡ old.held
  pub begun : new.begun ≡ old.begun
  pub reads : NoneFell old.read_faults new.read_faults
  pub writes : NoneFell old.write_faults new.write_faults
  pub cause : failed → Rose (old.read_faults name) (new.read_faults name)

-- a call that only writes this file; `failed` says that it answered a failed write
pub record OnlyWrites (old new : Shown) (name : List ℕ) (failed : Type 0) : Type 0 where
  pub others : OthersStay old.begun new.begun name
  pub reads : NoneFell old.read_faults new.read_faults
  pub writes : NoneFell old.write_faults new.write_faults
  pub cause : failed → Rose (old.write_faults name) (new.write_faults name)
