-- `build` as data.
use Rattle.std.specs.Prelude.{◌≡◌, ℕ, true, List, [], ◌∷◌, length, Some, None}
use Rattle.ann_shelf.specs.Files.{bytes_of}
use Rattle.graph_rows.specs.Index.{Contents}
use Rattle.command_options.specs.declared.settings.Settings.{Settings}
use Rattle.command_options.specs.declared.role.Role.TheVariants.{Base, Index}
use Rattle.command_shapes.specs.Doing.{Stored, Doing}
use Rattle.command_shapes.specs.Faults.{points_refusal}
use Rattle.command_shapes.specs.Reading.{points_read, points_in, IsPointsText}
use Rattle.index_build.specs.IndexOf.{index_of, words_of}
use Rattle.annbuild_commands.specs.IndexTexts.{file_of, line_of}
use Rattle.index_build.specs.Limits.{words_refusal}

-- the bytes of the index of what a file of points holds
abbrev pub index_text : List ℕ → Settings → List ℕ
index_text file o = file_of (index_of (points_in o.element file) o)

-- the line of that index
abbrev pub index_line : List ℕ → Settings → List ℕ
index_line file o = line_of (index_of (points_in o.element file) o)

-- the index file of a build
abbrev pub index_stored : List ℕ → List ℕ → Settings → Stored
index_stored base index o = record { role = Index; name = index; text = λ files. index_text (bytes_of files base) o }

-- it reads the data, refuses rows that take more words than the limit, stores the index of the points whose text the data held, and prints a line
abbrev pub building : (base index : List ℕ) → Settings → Doing
building base index o = record {
  reads = points_read Base base ∷ [];
  rest = λ files. words_refusal (words_of (length (points_in o.element (bytes_of files base)).vectors) o);
  meant = λ files. IsPointsText o.element (bytes_of files base);
  stores = Some (index_stored base index o);
  lawful = λ files run. true;
  pieces = λ files run. index_line (bytes_of files base) o ∷ [];
}

-- the index is that of the points of this file
pub record IsIndexOf (file : List ℕ) (o : Settings) (i : Contents) : Type 0 where
  pub accepted : points_refusal Base file ≡ None
  pub fits : words_refusal (words_of (length (points_in o.element file).vectors) o) ≡ None
  pub meant : IsPointsText o.element file
  pub index_is : i ≡ index_of (points_in o.element file) o
