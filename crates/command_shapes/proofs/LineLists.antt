-- Numbered lines, one after another.
use Rattle.std.proofs.Common.{◌≡◌, ◌∙◌, ◌+◌, ◌≤◌, ◌<◌, ℕ, suc, List, [], ◌∷◌, ◌++◌, take, drop, length, get_or, refl, sym, ap, arith, append_assoc}
use Rattle.std.specs.Prelude.{slice_index_or}
use Rattle.std.proofs.lemmas.List.{take_more, length-take, length-drop, length-take-le, take-append-drop}
use Rattle.std.proofs.Math.Seq.{take-add}
use Rattle.ann_defs.specs.declared.near.Near.{Near}
use Rattle.batch_search.specs.Answers.{round_size, round_of}
use Rattle.annbuild_lines.specs.Lines.{query_text}
use Rattle.command_shapes.specs.AnswerLines.{answer_line, numbered_lines}

pub line_text : (number : ℕ) (answer : List Near) → query_text number answer ≡ answer_line number answer
unfolding answer_line
line_text number answer = refl

-- a round of answers
pub round_length : {A : Type 0} (answers : List A) (from : ℕ) → from ≤ length answers → from + length (round_of answers from) ≤ length answers
round_length answers from short =
    let cut = length-take (round_size (length answers) from) (drop from answers) in
    let left = length-drop from answers in
    omega (arith, short, cut, left)

module _ {A : Type 0} (line : ℕ → A → List ℕ) (none : A) where
  pub no_lines : (first : ℕ) → numbered_lines line first [] ≡ []
  unfolding numbered_lines
  no_lines first = refl

  more_lines : (first : ℕ) (answer : A) (answers : List A) → numbered_lines line first (answer ∷ answers) ≡ line first answer ∷ numbered_lines line (first + 1) answers
  unfolding numbered_lines
  more_lines first answer answers = refl

  pub lines_length : (first : ℕ) (answers : List A) → length (numbered_lines line first answers) ≡ length answers
  lines_length first [] = ap length (no_lines first)
  lines_length first (x ∷ answers) = ap length (more_lines first x answers) ∙ ap suc (lines_length (first + 1) answers)

  lines_append : (first : ℕ) (xs ys : List A) → numbered_lines line first (xs ++ ys) ≡ numbered_lines line first xs ++ numbered_lines line (first + length xs) ys
  lines_append first [] ys = let same : first ≡ first + 0 = omega arith in ap (λ n. numbered_lines line n ys) same ∙ ap (λ t. t ++ numbered_lines line (first + 0) ys) (sym (no_lines first))
  lines_append first (x ∷ xs) ys =
      let same : first + 1 + length xs ≡ first + suc (length xs) = omega arith in
      more_lines first x (xs ++ ys)
      ∙ ap (λ t. line first x ∷ t) (lines_append (first + 1) xs ys ∙ ap (λ n. numbered_lines line (first + 1) xs ++ numbered_lines line n ys) same)
      ∙ ap (λ t. t ++ numbered_lines line (first + suc (length xs)) ys) (sym (more_lines first x xs))

  -- the lines of some answers from a place on
  lines_at : (first from : ℕ) (answers : List A) → from ≤ length answers → numbered_lines line first answers ≡ numbered_lines line first (take from answers) ++ numbered_lines line (first + from) (drop from answers)
  lines_at first from answers short =
      ap (numbered_lines line first) (sym (take-append-drop from answers)) ∙ lines_append first (take from answers) (drop from answers)
      ∙ ap (λ n. numbered_lines line first (take from answers) ++ numbered_lines line (first + n) (drop from answers)) (length-take-le from answers short)

  -- one line more
  pub line_more : (first j : ℕ) (answers : List A) → j < length answers
      → numbered_lines line first (take (j + 1) answers) ≡ numbered_lines line first (take j answers) ++ (line (first + j) (slice_index_or answers j none) ∷ [])
  line_more first j answers lt =
      let short : j ≤ length answers = omega (arith, lt) in
      ap (numbered_lines line first) (take_more answers j none lt)
      ∙ lines_append first (take j answers) (get_or answers j none ∷ [])
      ∙ ap (λ n. numbered_lines line first (take j answers) ++ numbered_lines line (first + n) (get_or answers j none ∷ [])) (length-take-le j answers short)
      ∙ ap (λ t. numbered_lines line first (take j answers) ++ t) (more_lines (first + j) (get_or answers j none) [] ∙ ap (λ t. line (first + j) (get_or answers j none) ∷ t) (no_lines (first + j + 1)))

  -- the lines before one, that one, and those behind it
  pub line_among : (first j : ℕ) (answers : List A) → j < length answers
      → numbered_lines line first answers ≡ numbered_lines line first (take j answers) ++ ((line (first + j) (slice_index_or answers j none) ∷ []) ++ numbered_lines line (first + (j + 1)) (drop (j + 1) answers))
  line_among first j answers lt =
      let one = line (first + j) (slice_index_or answers j none) ∷ [] in
      let rest = numbered_lines line (first + (j + 1)) (drop (j + 1) answers) in
      lines_at first (j + 1) answers (omega (arith, lt)) ∙ ap (λ t. t ++ rest) (line_more first j answers lt) ∙ append_assoc (numbered_lines line first (take j answers)) one rest

  -- the lines before a round, those of the round, and those behind it
  pub round_among : (from size : ℕ) (answers : List A) → from ≤ length answers
      → numbered_lines line 0 answers ≡ numbered_lines line 0 (take from answers) ++ (numbered_lines line from (take size (drop from answers)) ++ numbered_lines line (from + length (take size (drop from answers))) (drop size (drop from answers)))
  round_among from size answers short =
      let behind = drop from answers in
      let same : 0 + from ≡ from = omega arith in
      lines_at 0 from answers short
      ∙ ap (λ n. numbered_lines line 0 (take from answers) ++ numbered_lines line n (drop from answers)) same
      ∙ ap (λ t. numbered_lines line 0 (take from answers) ++ t) (ap (numbered_lines line from) (sym (take-append-drop size behind)) ∙ lines_append from (take size behind) (drop size behind))

  -- the lines up to the next round
  pub round_more : (from size next : ℕ) (answers : List A) → from ≤ length answers → next ≡ from + size
      → numbered_lines line 0 (take next answers) ≡ numbered_lines line 0 (take from answers) ++ numbered_lines line from (take size (drop from answers))
  round_more from size next answers short is =
      let same : 0 + length (take from answers) ≡ length (take from answers) = omega arith in
      ap (numbered_lines line 0) (ap (λ n. take n answers) is ∙ take-add from size answers)
      ∙ lines_append 0 (take from answers) (take size (drop from answers))
      ∙ ap (λ n. numbered_lines line 0 (take from answers) ++ numbered_lines line n (take size (drop from answers))) (same ∙ length-take-le from answers short)

  pub round_some : (answers : List A) (from : ℕ) → from < length answers → 1 ≤ length (numbered_lines line from (round_of answers from))
  round_some answers from less =
      let cut = length-take (round_size (length answers) from) (drop from answers) in
      let left = length-drop from answers in
      let lines = lines_length from (round_of answers from) in
      omega (arith, less, cut, left, lines)
