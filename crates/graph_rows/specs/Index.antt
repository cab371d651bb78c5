-- The contents of an index, and the bytes of its file.
use Rattle.std.specs.Prelude.{ℕ, List, [], ◌∷◌, ◌++◌, map, length, max, Option, Some, None}
use Rattle.std.specs.List.{flat_map, enumerate_from, sum_by, fold}
use Rattle.std.specs.Int.{to_le_bytes, w32, w64}
use Rattle.graph_rows.specs.declared.stamp.Stamp.{Stamp}

-- an index: its kind's code, its four numbers, its layers from 0 on, each as its ids with their rows, and its stamp
pub record Contents : Type 0 where
  pub kind : ℕ
  pub count : ℕ
  pub dim : ℕ
  pub degree : ℕ
  pub start : ℕ
  pub layers : List (List (ℕ × List ℕ))
  pub stamp : Option Stamp

-- the ids of a layer
abbrev pub layer_ids : List (ℕ × List ℕ) → List ℕ
layer_ids layer = map (λ e. e.0) layer

-- the rows of a layer, in the order of its ids
abbrev pub layer_rows : List (ℕ × List ℕ) → List (List ℕ)
layer_rows layer = map (λ e. e.1) layer

-- an index with one layer and no stamp: a row for each id from 0 on
abbrev pub flat_contents : ℕ → ℕ → ℕ → ℕ → ℕ → List (List ℕ) → Contents
flat_contents kind count dim degree start rows =
    record { kind = kind; count = count; dim = dim; degree = degree; start = start; layers = enumerate_from 0 rows ∷ []; stamp = None }

-- a number in four bytes, the least significant first
abbrev pub word : ℕ → List ℕ
word n = to_le_bytes w32 n

abbrev pub words : List ℕ → List ℕ
words ns = flat_map word ns

-- a row: its length, then its ids
abbrev pub row_bytes : List ℕ → List ℕ
row_bytes row = word (length row) ++ words row

-- rows one after another
abbrev pub rows_bytes : List (List ℕ) → List ℕ
rows_bytes rows = flat_map row_bytes rows

-- a further layer: its count, its ids, its rows
abbrev pub layer_bytes : List (ℕ × List ℕ) → List ℕ
layer_bytes layer = word (length layer) ++ words (layer_ids layer) ++ rows_bytes (layer_rows layer)

-- layer 0 as its rows alone, then the further layers
abbrev pub layers_bytes : List (List (ℕ × List ℕ)) → List ℕ
layers_bytes [] = []
layers_bytes (base ∷ upper) = rows_bytes (layer_rows base) ++ flat_map layer_bytes upper

-- the words of a stamp before its seed, in the order of the file
abbrev pub stamp_numbers : Stamp → List ℕ
stamp_numbers s =
    s.element ∷ s.order ∷ s.start_kind ∷ s.beam ∷ s.num ∷ s.den ∷ s.cap ∷ s.bits ∷ s.max_level ∷ s.list ∷ s.trees ∷ s.leaf ∷ s.rounds ∷ s.passes ∷ []

-- a stamp: these words, seed and floor in eight bytes each, and the digest
abbrev pub stamp_bytes : Stamp → List ℕ
stamp_bytes s = words (stamp_numbers s) ++ to_le_bytes w64 s.seed ++ to_le_bytes w64 s.floor ++ s.digest

-- the bytes of a stamp, none where there is none
abbrev pub stamp_text : Option Stamp → List ℕ
stamp_text None = []
stamp_text (Some s) = stamp_bytes s

-- the version of an index with a stamp, and of one without
abbrev pub version_of : Option Stamp → ℕ
version_of None = 1
version_of (Some s) = 2

-- the eight words before the layers: the text PANN, the version, the kind, the numbers, how many layers there are
abbrev pub header_words : Contents → List ℕ
header_words i = 1313751376 ∷ version_of i.stamp ∷ i.kind ∷ i.count ∷ i.dim ∷ i.degree ∷ i.start ∷ length i.layers ∷ []

-- the one text of an index
unfoldable pub text_of : Contents → List ℕ
text_of i = words (header_words i) ++ stamp_text i.stamp ++ layers_bytes i.layers

-- how many ids all rows of all layers have
abbrev pub edges_of : Contents → ℕ
edges_of i = sum_by (λ layer. sum_by (λ row. length row) (layer_rows layer)) i.layers

-- the length of the longest of these rows
abbrev pub longest_in : List (List ℕ) → ℕ
longest_in rows = fold (λ most row. max most (length row)) 0 rows

-- the length of the longest row of all layers
abbrev pub longest_of : Contents → ℕ
longest_of i = fold (λ most layer. max most (longest_in (layer_rows layer))) 0 i.layers
