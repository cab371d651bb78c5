-- Files by name, and what reads and appends do to their bytes.
use Rattle.std.specs.Prelude.{◌≡◌, ◌⊎◌, ℕ, ◌≤◌, List, [], ◌++◌, length, take, drop, Option, unwrap_or}
use Rattle.std.specs.Prelude.{Some}
use Rattle.std.specs.Ordering.{nat_cmp}
use Rattle.std.specs.Cmp.Lexicographic.{slice_cmp}
use Rattle.std.specs.FinMap.{FinMap, empty, get, insert, remove}

-- a finite map from names to lists of bytes
abbrev pub Files : Type 0
Files = FinMap (slice_cmp nat_cmp) (List ℕ)

-- no file at all
abbrev pub no_files : Files
no_files = empty

-- the bytes of a file; a missing one counts as empty
abbrev pub bytes_of : Files → List ℕ → List ℕ
bytes_of files name = unwrap_or (get files name) []

-- the files with this one set
abbrev pub with_file : Files → List ℕ → List ℕ → Files
with_file files name bytes = insert files name bytes

-- the files but this one
abbrev pub without_file : Files → List ℕ → Files
without_file files name = remove files name

-- the first k bytes of into are those of the file from a place on; there are none only where none were asked or are left
pub record Reads (bytes : List ℕ) (at k : ℕ) (into : List ℕ) : Type 0 where
  pub same : take k into ≡ take k (drop at bytes)
  pub within : k ≤ length (drop at bytes)
  pub ends : k ≡ 0 → (length into ≡ 0) ⊎ (length bytes ≤ at)

-- a file that is so far these bytes is these and the piece after them; all other files are as before
abbrev pub Grows : Option Files → Option Files → List ℕ → List ℕ → Type 0
Grows old new name piece = (files : Files) (x : List ℕ) → old ≡ Some (with_file files name x) → new ≡ Some (with_file files name (x ++ piece))
