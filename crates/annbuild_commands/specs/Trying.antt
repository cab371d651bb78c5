-- `trial` as data.
use Rattle.std.specs.Prelude.{ℕ, ◌*◌, true, List, [], ◌∷◌, length, Option, None}
use Rattle.std.specs.List.{sum_by}
use Rattle.std.specs.Option.{option_or}
use Rattle.ann_defs.specs.declared.near.Near.{Near}
use Rattle.graph_rows.specs.Index.{Contents}
use Rattle.batch_search.specs.Answers.{answers_of}
use Rattle.seeded_order.specs.Generator.{made_points_of}
use Rattle.command_options.specs.declared.settings.Settings.{Settings}
use Rattle.annbuild_lines.specs.Lines.{answered_text}
use Rattle.annbuild_lines.specs.declared.fault.Fault.{Fault}
use Rattle.command_shapes.specs.Doing.{Doing}
use Rattle.index_build.specs.IndexOf.{index_of, words_of}
use Rattle.annbuild_commands.specs.IndexTexts.{line_of}
use Rattle.index_build.specs.Limits.{cells_refusal, words_refusal}
use Rattle.annbuild_commands.specs.Making.{vectors_made, points_made}

-- the first limit that is passed: of the points' numbers, then of the index's words
abbrev pub trial_refusal : Settings → Option Fault
trial_refusal o = option_or (cells_refusal o.count o.dim) (words_refusal (words_of o.count o))

-- the index of the made points
abbrev pub index_tried : Settings → Contents
index_tried o = index_of (points_made o) o

-- the queries: the generator's bytes behind those of the points
unfoldable pub queries_made : Settings → List (List ℕ)
queries_made o = made_points_of o.queries o.dim o.seed (o.count * o.dim)

-- their answers in that index
unfoldable pub answers_tried : Settings → List (List Near)
answers_tried o = answers_of (vectors_made o) (index_tried o) o.search o.k (queries_made o)

-- the sum of the squared distances of an answer
abbrev pub dist_sum : List Near → ℕ
dist_sum nears = sum_by (λ near. near.dist) nears

-- how many there are in all answers, and the sum of all their squared distances
abbrev pub answer_count : List (List Near) → ℕ
answer_count answers = sum_by (λ nears. length nears) answers

abbrev pub dist_total : List (List Near) → ℕ
dist_total answers = sum_by dist_sum answers

-- the line that tells of them
unfoldable pub summary_of : List (List Near) → List ℕ
summary_of answers = answered_text (length answers) (answer_count answers) (dist_total answers)

-- it touches no file, refuses what is over a limit, and prints the line of the index and the line of the answers
abbrev pub trying : Settings → Doing
trying o = record {
  reads = [];
  rest = λ files. trial_refusal o;
  meant = λ files. Unit {0};
  stores = None;
  lawful = λ files run. true;
  pieces = λ files run. line_of (index_tried o) ∷ summary_of (answers_tried o) ∷ [];
}
