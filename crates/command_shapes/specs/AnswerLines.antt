-- The lines of answers.
use Rattle.std.specs.Prelude.{ℕ, List, map}
use Rattle.std.specs.List.{enumerate_from}
use Rattle.ann_defs.specs.declared.near.Near.{Near}
use Rattle.annbuild_lines.specs.Lines.{query_text}

-- the line of a query
unfoldable pub answer_line : ℕ → List Near → List ℕ
answer_line number answer = query_text number answer

-- the lines of items, numbered from a first number on
unfoldable pub numbered_lines : {A : Type 0} → (line : ℕ → A → List ℕ) → ℕ → List A → List (List ℕ)
numbered_lines line first items = map (λ e. line e.0 e.1) (enumerate_from first items)

-- the lines of answers
abbrev pub lines_from : ℕ → List (List Near) → List (List ℕ)
lines_from first answers = numbered_lines answer_line first answers
