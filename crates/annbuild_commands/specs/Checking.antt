-- `check` as data.
use Rattle.std.specs.Prelude.{ℕ, true, List, [], ◌∷◌, None, Result, Ok, Err}
use Rattle.ann_shelf.specs.Files.{bytes_of}
use Rattle.graph_files.specs.declared.fault.IndexFault.{IndexFault}
use Rattle.graph_files.specs.Grammar.{index_in}
use Rattle.graph_rows.specs.Index.{Contents, longest_of}
use Rattle.command_options.specs.declared.settings.Settings.{Settings}
use Rattle.command_options.specs.declared.role.Role.TheVariants.{Base, Index}
use Rattle.annbuild_lines.specs.Lines.{checked_text}
use Rattle.command_shapes.specs.Doing.{Doing}
use Rattle.command_shapes.specs.Reading.{points_read, index_read, IsPointsText}
use Rattle.annbuild_commands.specs.Fitting.{index_unfit_files}
use Rattle.annbuild_commands.specs.IndexTexts.{told_of}

-- the line of an index that was checked
unfoldable pub checked_of : Contents → List ℕ
checked_of i = checked_text (told_of i) (longest_of i)

-- the same of a file, if it holds an index
abbrev pub checked_with : Result Contents IndexFault → List ℕ
checked_with (Ok i) = checked_of i
checked_with (Err fault) = []

unfoldable pub checked_in : (index : List ℕ) → List ℕ
checked_in index = checked_with (index_in index)

-- it reads the data and the index, refuses those that don't fit together, and prints a line of the index
abbrev pub checking : (base index : List ℕ) → Settings → Doing
checking base index o = record {
  reads = points_read Base base ∷ index_read Index index ∷ [];
  rest = λ files. index_unfit_files o.element (bytes_of files base) (bytes_of files index);
  meant = λ files. IsPointsText o.element (bytes_of files base);
  stores = None;
  lawful = λ files run. true;
  pieces = λ files run. checked_in (bytes_of files index) ∷ [];
}
