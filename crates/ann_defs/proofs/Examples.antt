-- Small cases of the definitions, computed.
use Rattle.std.proofs.Common.{◌≡◌, ℕ, Bool, true, None, List, [], ◌∷◌, map, not, refl}
use Rattle.std.specs.Prelude.{◌==◌, ◌||◌, ◌&&◌}
use Rattle.std.specs.List.{list_all, list_any, flat_map}
use Rattle.ann_defs.specs.declared.near.Near.{Near}
use Rattle.ann_defs.specs.Ordered.{ordered}
use Rattle.ann_defs.specs.Distance.{dist_of, point}
use Rattle.ann_defs.specs.RobustPrune.{stays, kept, pruned_row}
use Rattle.ann_defs.specs.GreedySearch.{found_of, visited_of, answer_of}
use Rattle.ann_defs.specs.Graph.{has, row_in, without}
use Rattle.ann_defs.specs.Nearness.{near_cmp, all_near, ids_of}
use Rattle.ann_defs.specs.BatchInsert.{Build, bound_at, total_of, batches_in, default_cap, cap_of, merge_of, merge_with, rows_then, at_batch, graph_after}

-- distances
equal_points : dist_of (7 ∷ 0 ∷ 255 ∷ []) (7 ∷ 0 ∷ 255 ∷ []) ≡ 0
equal_points = refl

far_apart : dist_of (0 ∷ 10 ∷ []) (255 ∷ 7 ∷ []) ≡ 65034
far_apart = refl

-- four points on a line
abbrev line : List (List ℕ)
line = (0 ∷ []) ∷ (10 ∷ []) ∷ (20 ∷ []) ∷ (30 ∷ []) ∷ []

-- candidates 1 and 2 of point 0: at alpha 4/1 the nearer one removes the other by a tie, at 401/100 both stay
tie_removes : pruned_row line 0 (1 ∷ 2 ∷ []) 4 1 2 ≡ 1 ∷ []
tie_removes = refl

just_stays : pruned_row line 0 (2 ∷ 1 ∷ []) 401 100 2 ≡ 1 ∷ 2 ∷ []
just_stays = refl

-- an overlong row is pruned: the nearer point 2 lies behind point 1, point 3 on the other side
merge_prunes : merge_of ((20 ∷ []) ∷ (30 ∷ []) ∷ (35 ∷ []) ∷ (0 ∷ []) ∷ []) 1 1 2 0 (1 ∷ 2 ∷ []) (3 ∷ []) ≡ 1 ∷ 3 ∷ []
merge_prunes = refl

-- a row with room keeps its order, and gains its new sources at the end, each once
merge_adds : merge_of line 1 1 3 0 (3 ∷ 1 ∷ []) (1 ∷ 2 ∷ []) ≡ 3 ∷ 1 ∷ 2 ∷ []
merge_adds = refl

-- a search along a chain of rows; ties go to the smaller id
abbrev chain : List (List ℕ)
chain = (1 ∷ []) ∷ (0 ∷ 2 ∷ []) ∷ (1 ∷ 3 ∷ []) ∷ (2 ∷ []) ∷ []

chain_visits : ids_of (visited_of line (row_in chain) (30 ∷ []) 1 (0 ∷ [])) ≡ 0 ∷ 1 ∷ 2 ∷ 3 ∷ []
chain_visits = refl

chain_answers : ids_of (answer_of line (row_in chain) (15 ∷ []) 4 3 2) ≡ 1 ∷ 2 ∷ []
chain_answers = refl

-- builds over these points
abbrev narrow : Build
narrow = record { points = line; start = 0; beam = 4; num = 1; den = 1; degree = 2; passes = 1 }

two_batches_of_two : graph_after narrow (0 ∷ 1 ∷ 2 ∷ 3 ∷ []) 4 (total_of 4 4) ≡ (1 ∷ []) ∷ (0 ∷ 2 ∷ []) ∷ (1 ∷ []) ∷ (1 ∷ []) ∷ []
two_batches_of_two = refl

one_by_one : graph_after narrow (0 ∷ 1 ∷ 2 ∷ 3 ∷ []) 1 (total_of 4 1) ≡ chain
one_by_one = refl

abbrev wide : List (List ℕ) → Build
wide points = record { points = points; start = 0; beam = 128; num = 12; den = 10; degree = 64; passes = 1 }

wide_one_by_one : graph_after (wide line) (0 ∷ 1 ∷ 2 ∷ 3 ∷ []) 1 (total_of 4 1) ≡ chain
wide_one_by_one = refl

-- equal points
two_alike : graph_after (wide ((5 ∷ []) ∷ (5 ∷ []) ∷ [])) (0 ∷ 1 ∷ []) (cap_of 2 None) (total_of 2 (cap_of 2 None)) ≡ (1 ∷ []) ∷ (0 ∷ []) ∷ []
two_alike = refl

abbrev alike : Build
alike = record { points = (9 ∷ []) ∷ (9 ∷ []) ∷ (9 ∷ []) ∷ []; start = 0; beam = 4; num = 1; den = 1; degree = 2; passes = 1 }

three_alike : graph_after alike (0 ∷ 1 ∷ 2 ∷ []) (cap_of 3 None) (total_of 3 (cap_of 3 None)) ≡ (1 ∷ 2 ∷ []) ∷ (0 ∷ []) ∷ (0 ∷ []) ∷ []
three_alike = refl

-- batches of ten points at cap 3
bounds : map (bound_at 10 3) (0 ∷ 1 ∷ 2 ∷ 3 ∷ 4 ∷ 5 ∷ 6 ∷ []) ≡ 0 ∷ 1 ∷ 2 ∷ 4 ∷ 7 ∷ 10 ∷ 10 ∷ []
bounds = refl

five_batches : total_of 10 3 ≡ 5
five_batches = refl

cap_of_few : default_cap 4 ≡ 1
cap_of_few = refl

cap_of_a_million : default_cap 1000000 ≡ 20000
cap_of_a_million = refl

-- two passes: the second one sees each point's row, and a target may stand in the batch
abbrev twice : Build
twice = record { points = line; start = 0; beam = 4; num = 1; den = 1; degree = 2; passes = 2 }

two_passes : graph_after twice (0 ∷ 1 ∷ 2 ∷ 3 ∷ []) 4 (batches_in 2 4 4) ≡ chain
two_passes = refl

-- alpha is 1/1 in the first pass and the build's own in the last
early_alpha : (at_batch (record twice { num = 12; den = 10 }) 3 3).num ≡ 1
early_alpha = refl

late_alpha : (at_batch (record twice { num = 12; den = 10 }) 3 4).num ≡ 12
late_alpha = refl

-- a layer above the first of HNSW over the same points: it holds 1 and 3, and the row of an id that it doesn't hold is empty.
-- Point 3 is inserted where 1 stands already: the new row is pruned at 1/1, and so are rows that grow over the bound.
abbrev in_layer : ℕ → Bool
in_layer u = u == 1 || u == 3

abbrev layer_row : ℕ → List ℕ
layer_row u = pruned_row line u (without u (ids_of (found_of line (row_in []) (point line u) 4 (1 ∷ [])))) 1 1 1

layer_after : rows_then 4 (row_in []) layer_row (has (3 ∷ [])) (merge_with (λ t set. pruned_row line t set 1 1 1) 1) ≡ [] ∷ (3 ∷ []) ∷ [] ∷ (1 ∷ []) ∷ []
layer_after = refl

layer_holds_its_ids : list_all in_layer (flat_map (λ row. row) (rows_then 4 (row_in []) layer_row (has (3 ∷ [])) (merge_with (λ t set. pruned_row line t set 1 1 1) 1))) ≡ true
layer_holds_its_ids = refl

-- labelled points: 0 and 3 have the labels 0 and 1, the others 0 alone. A candidate is spared too where a label of both
-- isn't one of the kept id.
abbrev labels : List (List ℕ)
labels = (0 ∷ 1 ∷ []) ∷ (0 ∷ []) ∷ (0 ∷ []) ∷ (0 ∷ 1 ∷ []) ∷ []

abbrev labelled_stays : ℕ → ℕ → Near → Bool
labelled_stays p c x = stays line 1 1 c x || list_any (λ l. has (row_in labels p) l && not (has (row_in labels c) l)) (row_in labels x.id)

abbrev labelled_row : ℕ → List ℕ → List ℕ
labelled_row p set = ids_of (kept (labelled_stays p) 2 (ordered near_cmp (all_near line (point line p) set)))

-- the last batch of four points in three batches, the points 2 and 3: point 3 keeps 0 beside 1, since label 1 isn't one of 1
labelled_step : rows_then 4 (row_in ((1 ∷ []) ∷ (0 ∷ []) ∷ [] ∷ [] ∷ [])) (λ p. labelled_row p (without p (0 ∷ 1 ∷ []))) (has (2 ∷ 3 ∷ [])) (merge_with labelled_row 2) ≡ (1 ∷ 3 ∷ []) ∷ (0 ∷ 2 ∷ []) ∷ (1 ∷ []) ∷ (1 ∷ 0 ∷ []) ∷ []
labelled_step = refl
