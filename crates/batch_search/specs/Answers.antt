-- What queries of an index are answered: the k nearest of what a descent through its layers finds, which is K-NN-SEARCH of
-- HNSW (Malkov and Yashunin, Algorithm 5), and in an index with one layer GreedySearch of DiskANN (Algorithm 1).
-- Differences: layer 0 is searched with the query's own beam; the k nearest are cut off afterwards; ties go by id.
use Rattle.std.specs.Prelude.{ℕ, ◌-◌, List, map, take, drop, length, min}
use Rattle.ann_defs.specs.declared.near.Near.{Near}
use Rattle.graph_rows.specs.Index.{Contents}
use Rattle.layered_search.specs.Descent.{descent_in}

-- the k nearest that the descent with this beam finds, nearest first
abbrev pub answer_of : List (List ℕ) → Contents → ℕ → ℕ → List ℕ → List Near
answer_of points i beam k query = take k (descent_in points i query beam)

-- the answer of each query
abbrev pub answers_of : List (List ℕ) → Contents → ℕ → ℕ → List (List ℕ) → List (List Near)
answers_of points i beam k queries = map (answer_of points i beam k) queries

-- how many of n queries the round from this one on answers
abbrev pub round_size : ℕ → ℕ → ℕ
round_size n from = min 4096 (n - from)

-- what is in the round from this one on
abbrev pub round_of : {A : Type 0} → List A → ℕ → List A
round_of xs from = take (round_size (length xs) from) (drop from xs)
