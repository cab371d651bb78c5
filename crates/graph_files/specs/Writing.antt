-- A file that grows through a buffer.
use Rattle.std.specs.Prelude.{◌≡◌, ℕ, List, ◌++◌, take, Option, Some}
use Rattle.ann_shelf.specs.Files.{Files, with_file}
use Rattle.graph_files.specs.declared.pieces.Pieces.{Pieces}

-- what is not yet in the file
abbrev pub pending : Pieces → List ℕ
pending p = take p.len p.bytes

-- what is begun of the file, and what is pending after it, grow by a piece; all else that is begun is as before
abbrev pub Adds : Option Files → Option Files → List ℕ → List ℕ → List ℕ → List ℕ → Type 0
Adds old new name before after piece =
    (files : Files) (x : List ℕ) → old ≡ Some (with_file files name x) → (y : List ℕ) × (new ≡ Some (with_file files name y)) × (y ++ after ≡ (x ++ before) ++ piece)
