-- No answer has more than k.
use Rattle.std.proofs.Common.{ℕ, ◌≤◌, List, [], ◌∷◌, length, arith, length-take}
use Rattle.std.specs.List.{All}
use Rattle.std.proofs.lemmas.List.Elements.{All-nil, All-cons}
use Rattle.graph_rows.specs.Index.{Contents}
use Rattle.layered_search.specs.Descent.{descent_in}
use Rattle.batch_search.specs.Answers.{answer_of, answers_of}

module _ (points : List (List ℕ)) (i : Contents) (beam k : ℕ) where
  pub answer_short : (query : List ℕ) → length (answer_of points i beam k query) ≤ k
  answer_short query =
      let all = length-take k (descent_in points i query beam) in
      omega (arith, all)

  pub answers_short : (queries : List (List ℕ)) → All (λ nears. length nears ≤ k) (answers_of points i beam k queries)
  answers_short [] = All-nil (λ nears. length nears ≤ k)
  answers_short (q ∷ queries) = All-cons (λ nears. length nears ≤ k) (answer_of points i beam k q) (answers_of points i beam k queries) (answer_short q) (answers_short queries)
