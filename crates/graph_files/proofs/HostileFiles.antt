-- Files with one word changed, and files that are cut: the first broken rule and its place, computed.
use Rattle.std.proofs.Common.{◌≡◌, ℕ, ◌+◌, List, [], ◌∷◌, ◌++◌, take, drop, Some, None, Ok, Err, nat_lt, refl, rules}
use Rattle.std.specs.Int.{w32, to_le_bytes}
use Rattle.std.specs.List.{AllByRecursion, range_with_len}
use Rattle.ann_shelf.specs.declared.slip.Quantity.TheVariants.{Count, Dim, Degree as DegreeOf, Words}
use Rattle.graph_files.specs.declared.fault.IndexFault.{IndexFault}
use Rattle.graph_files.specs.declared.fault.IndexFault.TheVariants.{Malformed, TooLarge}
use Rattle.graph_files.specs.declared.fault.IndexRule.TheVariants.{ShortHeader, Magic, Version, Kind, ZeroCount, ZeroDim, Degree, Start, Layers, LayerIds, IdRange, SelfEdge, DoubleEdge, Short, Trailing, Stamp}
use Rattle.graph_rows.specs.Index.{words}
use Rattle.graph_files.specs.Grammar.{verdict, index_in, stamp_at, body_at, header_at, layers_at, layer_at, rows_at, row_at, ids_at, layer_ids_at}

-- the word at a byte is another
abbrev edited : List ℕ → ℕ → ℕ → List ℕ
edited file at word = take at file ++ to_le_bytes w32 word ++ drop (at + 4) file

abbrev four_points : List ℕ
four_points =
    80 ∷ 65 ∷ 78 ∷ 78 ∷ 1 ∷ 0 ∷ 0 ∷ 0 ∷ 1 ∷ 0 ∷ 0 ∷ 0 ∷ 4 ∷ 0 ∷ 0 ∷ 0 ∷ 1 ∷ 0 ∷ 0 ∷ 0 ∷ 2 ∷ 0 ∷ 0 ∷ 0 ∷ 0 ∷ 0 ∷ 0 ∷ 0 ∷ 1 ∷ 0 ∷ 0 ∷ 0 ∷ 1 ∷ 0 ∷ 0 ∷ 0 ∷ 1 ∷ 0 ∷ 0 ∷ 0 ∷ 2 ∷ 0 ∷ 0 ∷ 0 ∷ 0 ∷ 0 ∷ 0 ∷ 0 ∷ 2 ∷ 0 ∷ 0 ∷ 0 ∷ 1 ∷ 0 ∷ 0 ∷ 0 ∷ 1 ∷ 0 ∷ 0 ∷ 0 ∷ 1 ∷ 0 ∷ 0 ∷ 0 ∷ 1 ∷ 0 ∷ 0 ∷ 0 ∷ []

-- a further layer over four ids: its count, the id 1, an empty row
abbrev one_more : List ℕ
one_more = 1 ∷ 0 ∷ 0 ∷ 0 ∷ 1 ∷ 0 ∷ 0 ∷ 0 ∷ 0 ∷ 0 ∷ 0 ∷ 0 ∷ []

-- the word at a byte of the file is this one, and the verdict that
abbrev Gets : List ℕ → IndexFault → Type 0
Gets file fault = verdict file ≡ Some fault

sound : verdict four_points ≡ None
unfolding verdict index_in stamp_at body_at header_at layers_at layer_at rows_at row_at ids_at layer_ids_at
sound = refl

trailing : Gets (four_points ++ 0 ∷ []) (Malformed 68 Trailing)
unfolding verdict index_in stamp_at body_at header_at layers_at layer_at rows_at row_at ids_at layer_ids_at
trailing = refl

rows : Gets (edited four_points 48 0) (Malformed 48 DoubleEdge) × Gets (edited four_points 48 1) (Malformed 48 SelfEdge) × Gets (edited four_points 48 4) (Malformed 48 IdRange) × Gets (edited four_points 40 3) (Malformed 40 Degree)
unfolding verdict index_in stamp_at body_at header_at layers_at layer_at rows_at row_at ids_at layer_ids_at
rows = (refl, refl, refl, refl)

header : Gets (81 ∷ drop 1 four_points) (Malformed 0 Magic) × Gets (edited four_points 4 9) (Malformed 4 Version) × Gets (edited four_points 8 4) (Malformed 8 Kind) × Gets (edited four_points 12 0) (Malformed 12 ZeroCount)
    × Gets (edited four_points 16 0) (Malformed 16 ZeroDim) × Gets (edited four_points 20 0) (Malformed 20 Degree) × Gets (edited four_points 24 4) (Malformed 24 Start) × Gets (edited four_points 28 2) (Malformed 28 Layers)
unfolding verdict index_in stamp_at body_at header_at layers_at layer_at rows_at row_at ids_at layer_ids_at
header = (refl, refl, refl, refl, refl, refl, refl, refl)

large : Gets (edited four_points 12 4194305) (TooLarge Count 4194305 4194304) × Gets (edited four_points 16 2049) (TooLarge Dim 2049 2048) × Gets (edited four_points 20 129) (TooLarge DegreeOf 129 128)
    × Gets (edited (edited four_points 12 4000000) 20 128) (TooLarge Words 516000000 134217728)
unfolding verdict index_in stamp_at body_at header_at layers_at layer_at rows_at row_at ids_at layer_ids_at
large = (refl, refl, refl, refl)

cut_header : AllByRecursion (λ cut. verdict (take cut four_points) ≡ Some (Malformed cut ShortHeader)) (range_with_len 0 32)
unfolding verdict index_in stamp_at body_at header_at layers_at layer_at rows_at row_at ids_at layer_ids_at
cut_header = search rules

cut_rows : AllByRecursion (λ cut. verdict (take cut four_points) ≡ Some (Malformed cut Short)) (range_with_len 32 36)
unfolding verdict index_in stamp_at body_at header_at layers_at layer_at rows_at row_at ids_at layer_ids_at
cut_rows = search rules

-- four points of the kind with layers: a row of layer 0 has twice the degree, and a further layer follows
abbrev two_layers : List ℕ
two_layers = edited (edited (edited (edited four_points 8 2) 20 1) 24 1) 28 2 ++ one_more

layered : (verdict two_layers ≡ None) × Gets (two_layers ++ 0 ∷ []) (Malformed 80 Trailing) × Gets (edited two_layers 28 3) (Malformed 80 Short) × Gets (edited two_layers 28 1) (Malformed 68 Trailing)
unfolding verdict index_in stamp_at body_at header_at layers_at layer_at rows_at row_at ids_at layer_ids_at
layered = (refl, refl, refl, refl)

layered_header : Gets (edited two_layers 8 1) (Malformed 28 Layers) × Gets (edited two_layers 28 0) (Malformed 28 Layers) × Gets (edited two_layers 28 17) (Malformed 28 Layers) × Gets (edited two_layers 20 65) (TooLarge DegreeOf 65 64)
unfolding verdict index_in stamp_at body_at header_at layers_at layer_at rows_at row_at ids_at layer_ids_at
layered_header = (refl, refl, refl, refl)

layered_ids : Gets (edited two_layers 40 3) (Malformed 40 Degree) × Gets (edited two_layers 68 0) (Malformed 68 LayerIds) × Gets (edited two_layers 68 2) (Malformed 76 LayerIds) × Gets (edited two_layers 72 0) (Malformed 68 LayerIds)
    × Gets (edited two_layers 72 4) (Malformed 72 LayerIds)
unfolding verdict index_in stamp_at body_at header_at layers_at layer_at rows_at row_at ids_at layer_ids_at
layered_ids = (refl, refl, refl, refl, refl)

cut_layers : AllByRecursion (λ cut. verdict (take cut two_layers) ≡ Some (Malformed cut Short)) (range_with_len 32 48)
unfolding verdict index_in stamp_at body_at header_at layers_at layer_at rows_at row_at ids_at layer_ids_at
cut_layers = search rules

-- a further layer over the ids below 4, whose start is 1
further_layer : layer_at 1 1 (λ id. nat_lt id 4) 4 12 one_more 0 ≡ Ok (1 ∷ [], [] ∷ [], 12)
unfolding layer_at rows_at row_at ids_at layer_ids_at
further_layer = refl

further_count : (layer_at 1 1 (λ id. nat_lt id 4) 4 12 (edited one_more 0 0) 0 ≡ Err (Malformed 0 LayerIds)) × (layer_at 1 1 (λ id. nat_lt id 4) 4 12 (edited one_more 0 5) 0 ≡ Err (Malformed 0 LayerIds))
unfolding layer_at rows_at row_at ids_at layer_ids_at
further_count = (refl, refl)

further_ids : (layer_at 1 1 (λ id. nat_lt id 4) 4 12 (edited one_more 4 0) 0 ≡ Err (Malformed 0 LayerIds)) × (layer_at 1 1 (λ id. nat_lt id 4) 4 12 (edited one_more 4 4) 0 ≡ Err (Malformed 4 LayerIds))
unfolding layer_at rows_at row_at ids_at layer_ids_at
further_ids = (refl, refl)

further_row : (layer_at 1 1 (λ id. nat_lt id 4) 4 12 (edited one_more 8 2) 0 ≡ Err (Malformed 8 Degree)) × (layer_at 1 1 (λ id. nat_lt id 4) 4 12 (edited one_more 8 1) 0 ≡ Err (Malformed 12 Short))
unfolding layer_at rows_at row_at ids_at layer_ids_at
further_row = (refl, refl)

-- the words of the layers are summed up
further_words : (layer_at 1 1 (λ id. nat_lt id 4) 4 134217726 one_more 0 ≡ Ok (1 ∷ [], [] ∷ [], 12)) × (layer_at 1 1 (λ id. nat_lt id 4) 4 134217727 one_more 0 ≡ Err (TooLarge Words 134217729 134217728))
unfolding layer_at rows_at row_at ids_at layer_ids_at
further_words = (refl, refl)

-- the same four points in version 2: a stamp of 104 bytes before the rows, of an order by file, a beam of 4 and a cap of 4
abbrev stamp_words : List ℕ
stamp_words = 1 ∷ 1 ∷ 1 ∷ 4 ∷ 1 ∷ 1 ∷ 4 ∷ 0 ∷ 0 ∷ 0 ∷ 0 ∷ 0 ∷ 0 ∷ 1 ∷ 0 ∷ 0 ∷ 0 ∷ 0 ∷ 7 ∷ 0 ∷ 0 ∷ 0 ∷ 0 ∷ 0 ∷ 0 ∷ 9 ∷ []

abbrev stamped_points : List ℕ
stamped_points = take 4 four_points ++ 2 ∷ 0 ∷ 0 ∷ 0 ∷ [] ++ take 24 (drop 8 four_points) ++ words stamp_words ++ drop 32 four_points

stamped_sound : verdict stamped_points ≡ None
unfolding verdict index_in stamp_at body_at header_at layers_at layer_at rows_at row_at ids_at layer_ids_at
stamped_sound = refl

stamped_broken : Gets (edited stamped_points 4 3) (Malformed 4 Version) × Gets (edited stamped_points 32 3) (Malformed 32 Stamp) × Gets (edited stamped_points 36 0) (Malformed 36 Stamp) × Gets (edited stamped_points 52 2) (Malformed 52 Stamp)
    × Gets (edited stamped_points 60 1) (Malformed 60 Stamp) × Gets (edited stamped_points 84 3) (Malformed 84 Stamp) × Gets (edited stamped_points 96 1) (Malformed 96 Stamp) × Gets (edited stamped_points 136 3) (Malformed 136 Degree)
unfolding verdict index_in stamp_at body_at header_at layers_at layer_at rows_at row_at ids_at layer_ids_at
stamped_broken = (refl, refl, refl, refl, refl, refl, refl, refl)

stamped_cut : Gets (take 32 stamped_points) (Malformed 32 Short) × Gets (take 87 stamped_points) (Malformed 87 Short) × Gets (take 103 stamped_points) (Malformed 103 Short) × Gets (take 135 stamped_points) (Malformed 135 Short)
    × Gets (take 139 stamped_points) (Malformed 139 Short)
unfolding verdict index_in stamp_at body_at header_at layers_at layer_at rows_at row_at ids_at layer_ids_at
stamped_cut = (refl, refl, refl, refl, refl)
