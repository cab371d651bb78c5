-- The rules of a well-formed index, and the limits.
use Rattle.std.specs.Prelude.{◌≡◌, ◌≢◌, ℕ, ◌+◌, ◌*◌, ◌^◌, ◌<◌, ◌≤◌, ◌==◌, ◌&&◌, Bool, true, nat_lt, nat_eq, if◌then◌else◌, List, [], ◌∷◌, drop, length, slice_index_or}
use Rattle.std.specs.List.{All, IsDistinct, range_with_len, sum_by}
use Rattle.ann_defs.specs.declared.limits.TheConstants.{MAX_POINTS, MAX_DIM, MAX_WORDS, MAX_DEGREE}
use Rattle.ann_defs.specs.Graph.{has}
use Rattle.graph_rows.specs.Index.{Contents, layer_ids}
use Rattle.ann_defs.specs.Ordered.{Ascends}
use Rattle.graph_rows.specs.Stamps.{IsStamped}

-- whether a kind may have so many layers
abbrev pub layers_fit : ℕ → ℕ → Bool
layers_fit kind layers = if kind == 2 then nat_lt 0 layers && nat_lt layers 17 else layers == 1

-- the greatest length of a row of layer 0
abbrev pub base_bound : ℕ → ℕ → ℕ
base_bound kind degree = if kind == 2 then degree + degree else degree

-- a row of a layer that holds these ids: at most `bound` distinct ids of the layer other than its own
pub record IsRowIn (held : ℕ → Bool) (bound own : ℕ) (row : List ℕ) : Type 0 where
  pub inside : All (λ v. held v ≡ true) row
  pub distinct : IsDistinct nat_eq row
  pub others : All (λ v. v ≢ own) row
  pub short : length row ≤ bound

-- the rows of a layer that holds these ids
abbrev pub AreRowsOf : (ℕ → Bool) → ℕ → List (ℕ × List ℕ) → Type 0
AreRowsOf held bound layer = All (λ e. IsRowIn held bound e.0 e.1) layer

-- a layer over one that holds the ids `below`
pub record IsFurtherLayer (start degree : ℕ) (below : ℕ → Bool) (layer : List (ℕ × List ℕ)) : Type 0 where
  pub some : 1 ≤ length layer
  pub ascend : Ascends (layer_ids layer)
  pub inside : All (λ v. below v ≡ true) (layer_ids layer)
  pub has_start : has (layer_ids layer) start ≡ true
  pub rows : AreRowsOf (λ v. has (layer_ids layer) v) degree layer

-- further layers, each over the one before
abbrev pub AreFurtherLayers : ℕ → ℕ → (ℕ → Bool) → List (List (ℕ × List ℕ)) → Type 0
AreFurtherLayers start degree below [] = Unit {0}
AreFurtherLayers start degree below (layer ∷ layers) = IsFurtherLayer start degree below layer × AreFurtherLayers start degree (λ v. has (layer_ids layer) v) layers

-- layer 0
abbrev pub base_of : Contents → List (ℕ × List ℕ)
base_of i = slice_index_or i.layers 0 []

-- an index that a file may hold
pub record IsWellFormed (i : Contents) : Type 0 where
  pub kind : (1 ≤ i.kind) × (i.kind ≤ 3)
  pub count : (1 ≤ i.count) × (i.count < 2 ^ 32)
  pub dim : (1 ≤ i.dim) × (i.dim < 2 ^ 32)
  pub degree : (1 ≤ i.degree) × (i.degree < 2 ^ 32)
  pub start : i.start < i.count
  pub layers : layers_fit i.kind (length i.layers) ≡ true
  pub base : layer_ids (base_of i) ≡ range_with_len 0 i.count
  pub rows : AreRowsOf (λ v. nat_lt v i.count) (base_bound i.kind i.degree) (base_of i)
  pub upper : AreFurtherLayers i.start i.degree (λ v. nat_lt v i.count) (drop 1 i.layers)
  pub stamp : IsStamped i.kind i.stamp

-- the greatest degree of a kind
abbrev pub greatest_degree : ℕ → ℕ
greatest_degree kind = if kind == 2 then 64 else MAX_DEGREE

-- the words of a layer in memory
abbrev pub layer_words : ℕ → ℕ → ℕ
layer_words members bound = members * (bound + 1)

-- the words of all layers
abbrev pub words_of : Contents → ℕ
words_of i = layer_words i.count (base_bound i.kind i.degree) + sum_by (λ layer. layer_words (length layer) i.degree) (drop 1 i.layers)

-- an index that is not too large to read
pub record IsWithinLimits (i : Contents) : Type 0 where
  pub count : i.count ≤ MAX_POINTS
  pub dim : i.dim ≤ MAX_DIM
  pub degree : i.degree ≤ greatest_degree i.kind
  pub words : words_of i ≤ MAX_WORDS
