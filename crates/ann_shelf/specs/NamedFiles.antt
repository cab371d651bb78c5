-- A list of files by name, seen as the map of them: of two files of one name the first counts.
use Rattle.std.specs.Prelude.{◌≡◌, ◌≢◌, ℕ, zero, suc, List, [], ◌∷◌, map, Vec, String, string_bytes}
use Rattle.std.specs.declared.alloc.Global.{Global}
use Rattle.std.specs.FinMap.{from_entries}
use Rattle.ann_shelf.specs.Files.{Files}

abbrev pub Entry : Type 0
Entry = String Global × Vec ℕ Global

abbrev pub seen : Entry → List ℕ × List ℕ
seen e = (string_bytes e.0, e.1.items)

abbrev pub files_of : List Entry → Files
files_of es = from_entries (map seen es)

-- the first file of this name stands at this place
abbrev pub IsPlace : List ℕ → List Entry → ℕ → Type 0
IsPlace name [] i = ⊥
IsPlace name (e ∷ es) zero = string_bytes e.0 ≡ name
IsPlace name (e ∷ es) (suc i) = (string_bytes e.0 ≢ name) × IsPlace name es i

-- there is no file of this name
abbrev pub IsAbsent : List ℕ → List Entry → Type 0
IsAbsent name [] = Unit {0}
IsAbsent name (e ∷ es) = (string_bytes e.0 ≢ name) × IsAbsent name es
