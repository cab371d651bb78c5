-- `query` as data.
use Rattle.std.specs.Prelude.{ℕ, true, List, [], ◌∷◌, None, Result, Ok, Err}
use Rattle.ann_defs.specs.declared.near.Near.{Near}
use Rattle.ann_shelf.specs.Files.{bytes_of}
use Rattle.graph_files.specs.declared.fault.IndexFault.{IndexFault}
use Rattle.graph_rows.specs.Index.{Contents}
use Rattle.graph_files.specs.Grammar.{index_in}
use Rattle.graph_rows.specs.View.{contents}
use Rattle.batch_search.specs.Answers.{answers_of}
use Rattle.batch_search.specs.declared.batch.QueryBatch.{QueryBatch}
use Rattle.command_options.specs.declared.settings.Settings.{Settings}
use Rattle.command_options.specs.declared.role.Role.TheVariants.{Base, Index, Queries}
use Rattle.command_shapes.specs.AnswerLines.{lines_from}
use Rattle.command_shapes.specs.Doing.{Doing}
use Rattle.command_shapes.specs.Reading.{points_read, index_read, points_in, IsPointsText}
use Rattle.annbuild_commands.specs.Fitting.{unfit_files}

-- the answers in an index, if there is one
abbrev pub answers_with : List (List ℕ) → Result Contents IndexFault → List (List ℕ) → Settings → List (List Near)
answers_with points (Ok i) queries o = answers_of points i o.search o.k queries
answers_with points (Err fault) queries o = []

-- the answers to the queries of a file in the index of a file over the points of a file
unfoldable pub answers_in : (base index queries : List ℕ) → Settings → List (List Near)
answers_in base index queries o = answers_with (points_in o.element base).vectors (index_in index) (points_in o.element queries).vectors o

-- it reads the data, the index and the queries, refuses those that don't fit together, and prints a line for each query
abbrev pub querying : (base index queries : List ℕ) → Settings → Doing
querying base index queries o = record {
  reads = points_read Base base ∷ index_read Index index ∷ points_read Queries queries ∷ [];
  rest = λ files. unfit_files o.element (bytes_of files base) (bytes_of files index) (bytes_of files queries);
  meant = λ files. IsPointsText o.element (bytes_of files base) × IsPointsText o.element (bytes_of files queries);
  stores = None;
  lawful = λ files run. true;
  pieces = λ files run. lines_from 0 (answers_in (bytes_of files base) (bytes_of files index) (bytes_of files queries) o);
}

-- the answers to all queries of a batch
abbrev pub all_answers : QueryBatch → List (List Near)
all_answers b = answers_of b.points.now.vectors (contents b.index.now) b.beam b.k b.queries.now.vectors
