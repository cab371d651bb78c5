-- The answers of a session: of each query the batch that it was answered in, and its answer there.
use Rattle.std.specs.Prelude.{ℕ, List, map, zip}
use Rattle.ann_defs.specs.declared.near.Near.{Near}
use Rattle.versions.specs.Course.{Course, answer_at, total_of}

-- query j answered in the graph after batch number j of these
abbrev pub live_answers : Course → (beam k : ℕ) → (queries : List (List ℕ)) → (numbers : List ℕ) → List (ℕ × List Near)
live_answers c beam k queries numbers = map (λ e. (e.1, answer_at c e.1 beam k e.0)) (zip queries numbers)

-- each query answered in the last graph
abbrev pub last_answers : Course → (beam k : ℕ) → (queries : List (List ℕ)) → List (ℕ × List Near)
last_answers c beam k queries = map (λ q. (total_of c, answer_at c (total_of c) beam k q)) queries

-- the batches of answers
abbrev pub batches_in : List (ℕ × List Near) → List ℕ
batches_in answers = map (λ a. a.0) answers
