-- `live` as data. What the files don't decide is in which batch each query is answered while the index is being built: that
-- is the run, any list of batches that is lawful.
use Rattle.std.specs.Prelude.{◌≡◌, ℕ, ◌*◌, ◌≤◌, Bool, true, List, [], ◌∷◌, ◌++◌, length, map, zip, Option, Some}
use Rattle.std.specs.List.{All}
use Rattle.std.specs.Option.{option_or}
use Rattle.ann_defs.specs.Distance.{PointSet, dim_of}
use Rattle.ann_defs.specs.Graph.{row_in}
use Rattle.ann_defs.specs.GreedySearch.{answer_of}
use Rattle.ann_defs.specs.declared.limits.TheConstants.{MAX_ANSWERS, MAX_POINTS, MAX_WORDS}
use Rattle.ann_defs.specs.declared.near.Near.{Near}
use Rattle.ann_shelf.specs.Files.{bytes_of}
use Rattle.bin_files.specs.Rows.{ArePoints}
use Rattle.graph_rows.specs.View.{contents}
use Rattle.graph_rows.specs.WellFormed.{IsWellFormed}
use Rattle.live_session.specs.Lawful.{is_lawful}
use Rattle.live_session.specs.LiveAnswers.{batches_in}
use Rattle.live_session.specs.declared.session.Session.{Session}
use Rattle.command_options.specs.Settings.{IsInRange}
use Rattle.command_options.specs.declared.settings.Settings.{Settings}
use Rattle.command_options.specs.declared.role.Role.TheVariants.{Base, Index, Queries}
use Rattle.command_options.specs.declared.verb.Verb.TheVariants.{Live}
use Rattle.annbuild_lines.specs.Lines.{batch_text}
use Rattle.annbuild_lines.specs.declared.batch_line.Moment.{Moment}
use Rattle.annbuild_lines.specs.declared.batch_line.Moment.TheVariants.{During, After}
use Rattle.annbuild_lines.specs.declared.fault.Fault.{Fault}
use Rattle.command_shapes.specs.AnswerLines.{numbered_lines}
use Rattle.command_shapes.specs.Doing.{Doing}
use Rattle.command_shapes.specs.Reading.{points_read, points_in, IsPointsText}
use Rattle.command_shapes.specs.Writing.{writing_runs, stored_as}
use Rattle.annbuild_commands.specs.Building.{index_stored}
use Rattle.annbuild_commands.specs.Fitting.{queries_unfit}
use Rattle.index_build.specs.IndexOf.{index_of, words_of, vamana_batches, vamana_rows, vamana_start, vamana_words}
use Rattle.annbuild_commands.specs.IndexTexts.{file_of, line_of}
use Rattle.index_build.specs.Limits.{words_refusal, answers_refusal}

-- the first refusal of points and queries: they don't fit together, too many words of the index, too many answers
unfoldable pub live_refusal : (X Q : List (List ℕ)) → Settings → Option Fault
live_refusal X Q o = option_or (queries_unfit X Q) (option_or (words_refusal (words_of (length X) o)) (answers_refusal (length Q) o.k))

-- the answer to a query in the graph after batch v: the k nearest that GreedySearch (DiskANN, Algorithm 1) finds from the
-- start, with the batch
abbrev pub answer_after : (X : List (List ℕ)) → Settings → (v : ℕ) → (query : List ℕ) → ℕ × List Near
answer_after X o v query = (v, answer_of X (row_in (vamana_rows X o v)) query o.search (vamana_start X o) o.k)

-- the answers beside the build, query j in the graph after batch number j of the run
abbrev pub answers_beside : (X Q : List (List ℕ)) → Settings → (run : List ℕ) → List (ℕ × List Near)
answers_beside X Q o run = map (λ e. answer_after X o e.1 e.0) (zip Q run)

-- the answers in the last graph
abbrev pub answers_last : (X Q : List (List ℕ)) → Settings → List (ℕ × List Near)
answers_last X Q o = map (answer_after X o (vamana_batches X o)) Q

-- the line of an answer
abbrev pub batch_line : Moment → ℕ → (ℕ × List Near) → List ℕ
batch_line moment number answer = batch_text moment number answer.0 answer.1

-- the line of the index, a line for each answer beside the build, and a line for each in the last graph
unfoldable pub live_pieces : PointSet → (Q : List (List ℕ)) → Settings → (run : List ℕ) → List (List ℕ)
live_pieces X Q o run =
    line_of (index_of X o) ∷ (numbered_lines (batch_line During) 0 (answers_beside X.vectors Q o run) ++ numbered_lines (batch_line After) 0 (answers_last X.vectors Q o))

-- the runs that may be of points and queries
abbrev pub may_run : (X Q : List (List ℕ)) → Settings → List ℕ → Bool
may_run X Q o run = is_lawful o.callers (vamana_batches X o) (length Q) run

-- it reads the data and the queries, refuses those that don't fit together or are too many, stores the index that a build
-- stores, and prints the lines of a lawful run
abbrev pub living : (base index queries : List ℕ) → Settings → Doing
living base index queries o = record {
  reads = points_read Base base ∷ points_read Queries queries ∷ [];
  rest = λ files. live_refusal (points_in o.element (bytes_of files base)).vectors (points_in o.element (bytes_of files queries)).vectors o;
  meant = λ files. IsPointsText o.element (bytes_of files base) × IsPointsText o.element (bytes_of files queries);
  stores = Some (index_stored base index o);
  lawful = λ files. may_run (points_in o.element (bytes_of files base)).vectors (points_in o.element (bytes_of files queries)).vectors o;
  pieces = λ files run. live_pieces (points_in o.element (bytes_of files base)) (points_in o.element (bytes_of files queries)).vectors o run;
}

-- what is left of it once the points and the queries are read
abbrev pub telling : PointSet → (Q : List (List ℕ)) → (index : List ℕ) → Settings → Doing
telling X Q index o = writing_runs (Some (stored_as Index index (file_of (index_of X o)))) (may_run X.vectors Q o) (live_pieces X Q o)

-- points, and queries that may be asked of them with these settings
pub record AreForLive (X Q : List (List ℕ)) (o : Settings) : Type 0 where
  pub options : IsInRange Live o
  pub dim : dim_of Q ≡ dim_of X
  pub words : vamana_words (length X) o ≤ MAX_WORDS
  pub answers : length Q * o.k ≤ MAX_ANSWERS
  pub asked : ArePoints Q

-- a session over points and queries with these settings
pub record IsSession (X : PointSet) (Q : List (List ℕ)) (o : Settings) (s : Session) : Type 0 where
  pub index_is : contents s.index ≡ index_of X o
  pub well_formed : IsWellFormed (contents s.index)
  pub lawful : is_lawful o.callers (vamana_batches X.vectors o) (length Q) (batches_in s.live) ≡ true
  pub live : s.live ≡ answers_beside X.vectors Q o (batches_in s.live)
  pub last : s.last ≡ answers_last X.vectors Q o

-- answers to at least one query and not too many, none longer than was asked
pub record AreTold (o : Settings) (answers : List (ℕ × List Near)) : Type 0 where
  pub some : 1 ≤ length answers
  pub few : length answers ≤ MAX_POINTS
  pub short : All (λ a. length a.1 ≤ o.k) answers

-- the same of both answers to each query
pub record AreAsked (o : Settings) (s : Session) : Type 0 where
  pub live : AreTold o s.live
  pub last : AreTold o s.last
