-- What a file of an index holds: each part from its place on, or the part's first broken rule.
use Rattle.std.specs.Prelude.{ℕ, zero, suc, ◌+◌, ◌-◌, ◌*◌, Bool, not, ◌||◌, ◌==◌, List, [], ◌∷◌, ◌++◌, length, take, drop, Option, Some, None, Result, Ok, Err, nat_lt, if◌then◌else◌}
use Rattle.std.specs.List.{enumerate_from, range_with_len, zip}
use Rattle.bin_files.specs.Points.{u32_at}
use Rattle.ann_shelf.specs.declared.slip.Quantity.TheVariants.{Words}
use Rattle.ann_defs.specs.declared.limits.TheConstants.{MAX_WORDS}
use Rattle.ann_defs.specs.Graph.{has}
use Rattle.graph_files.specs.declared.header.Header.{Header}
use Rattle.graph_files.specs.declared.fault.IndexFault.{IndexFault}
use Rattle.graph_files.specs.declared.fault.IndexFault.TheVariants.{Malformed, TooLarge}
use Rattle.graph_files.specs.declared.fault.IndexRule.TheVariants.{ShortHeader, Degree, LayerIds, IdRange, SelfEdge, DoubleEdge, Short, Trailing}
use Rattle.graph_rows.specs.declared.stamp.Stamp.{Stamp}
use Rattle.graph_rows.specs.Index.{Contents}
use Rattle.graph_rows.specs.Stamps.{stamped}
use Rattle.graph_rows.specs.WellFormed.{base_bound, layer_words}
use Rattle.graph_files.specs.Header.{header_in, form_fault, limit_fault}
use Rattle.graph_files.specs.Stamping.{stamp_in, stamp_fault}

-- one step after another, up to the first fault
infixl 10 ◌>>=◌
abbrev pub ◌>>=◌ : {A B : Type 0} → Result A IndexFault → (A → Result B IndexFault) → Result B IndexFault
(Ok x) >>= f = f x
(Err e) >>= f = Err e

-- a check, and then a step
abbrev pub unless : {A : Type 0} → Option IndexFault → Result A IndexFault → Result A IndexFault
unless (Some fault) step = Err fault
unless None step = step

-- the word at a place
abbrev pub word_at : List ℕ → ℕ → Result ℕ IndexFault
word_at bytes at = if nat_lt (length (drop at bytes)) 4 then Err (Malformed (at + length (drop at bytes)) Short) else Ok (u32_at bytes at)

-- the first rule that an id breaks after these ids of its row
abbrev pub id_fault : (ℕ → Bool) → ℕ → ℕ → List ℕ → ℕ → Option IndexFault
id_fault held own at ids id =
    if not (held id) then Some (Malformed at IdRange)
    else if id == own then Some (Malformed at SelfEdge)
    else if has ids id then Some (Malformed at DoubleEdge)
    else None

-- so many more ids of a row, from a place on, after these
unfoldable pub ids_at : (ℕ → Bool) → ℕ → List ℕ → ℕ → ℕ → List ℕ → Result (List ℕ) IndexFault
ids_at held own bytes zero at ids = Ok ids
ids_at held own bytes (suc more) at ids = do
  id ← word_at bytes at
  unless (id_fault held own at ids id) (ids_at held own bytes more (at + 4) (ids ++ id ∷ []))

-- a row: its length, then its ids
unfoldable pub row_at : (ℕ → Bool) → ℕ → ℕ → List ℕ → ℕ → Result (List ℕ) IndexFault
row_at held bound own bytes at = do
  len ← word_at bytes at
  if nat_lt bound len then Err (Malformed at Degree) else ids_at held own bytes len (at + 4) []

-- how many bytes a row takes
abbrev pub row_size : List ℕ → ℕ
row_size ids = 4 + 4 * length ids

-- the rows of these ids, after those that were read, and the place behind them
unfoldable pub rows_at : (ℕ → Bool) → ℕ → List ℕ → List ℕ → ℕ → List (List ℕ) → Result (List (List ℕ) × ℕ) IndexFault
rows_at held bound bytes [] at rows = Ok (rows, at)
rows_at held bound bytes (own ∷ owns) at rows = do
  row ← row_at held bound own bytes at
  rows_at held bound bytes owns (at + row_size row) (rows ++ row ∷ [])

-- the first rule that an id of a further layer breaks: the ids ascend, and are in the layer below
abbrev pub layer_id_fault : (ℕ → Bool) → ℕ → ℕ → ℕ → Option IndexFault
layer_id_fault below at least id = if nat_lt id least || not (below id) then Some (Malformed at LayerIds) else None

-- so many more ids of a layer, from a least one on, after these
unfoldable pub layer_ids_at : (ℕ → Bool) → List ℕ → ℕ → ℕ → ℕ → List ℕ → Result (List ℕ) IndexFault
layer_ids_at below bytes zero at least ids = Ok ids
layer_ids_at below bytes (suc more) at least ids = do
  id ← word_at bytes at
  unless (layer_id_fault below at least id) (layer_ids_at below bytes more (at + 4) (id + 1) (ids ++ id ∷ []))

-- the first rule that the count of a further layer breaks
abbrev pub members_fault : ℕ → ℕ → ℕ → ℕ → ℕ → Option IndexFault
members_fault degree below words at members =
    if members == 0 then Some (Malformed at LayerIds)
    else if nat_lt below members then Some (Malformed at LayerIds)
    else if nat_lt MAX_WORDS (words + layer_words members degree) then Some (TooLarge Words (words + layer_words members degree) MAX_WORDS)
    else None

-- the start is to be among the ids of each layer
abbrev pub start_fault : ℕ → ℕ → List ℕ → Option IndexFault
start_fault start at ids = if has ids start then None else Some (Malformed at LayerIds)

-- a further layer as its ids and its rows, with the place behind it
unfoldable pub layer_at : ℕ → ℕ → (ℕ → Bool) → ℕ → ℕ → List ℕ → ℕ → Result (List ℕ × List (List ℕ) × ℕ) IndexFault
layer_at start degree below count words bytes at = do
  members ← word_at bytes at
  ids ← unless (members_fault degree count words at members) (layer_ids_at below bytes members (at + 4) 0 [])
  rows ← unless (start_fault start at ids) (rows_at (λ id. has ids id) degree bytes ids (at + 4 + 4 * members) [])
  Ok (ids, rows.0, rows.1)

-- so many further layers, after those that were read, and the place behind them
unfoldable pub layers_at : ℕ → ℕ → (ℕ → Bool) → ℕ → ℕ → List ℕ → ℕ → ℕ → List (List (ℕ × List ℕ)) → Result (List (List (ℕ × List ℕ)) × ℕ) IndexFault
layers_at start degree below count words bytes zero at layers = Ok (layers, at)
layers_at start degree below count words bytes (suc more) at layers = do
  layer ← layer_at start degree below count words bytes at
  layers_at start degree (λ id. has layer.0 id) (length layer.0) (words + layer_words (length layer.0) degree) bytes more layer.2 (layers ++ zip layer.0 layer.1 ∷ [])

-- the header, within the limits
unfoldable pub header_at : List ℕ → Result Header IndexFault
header_at bytes =
    if nat_lt (length bytes) 32 then Err (Malformed (length bytes) ShortHeader)
    else unless (form_fault (header_in bytes)) (unless (limit_fault (header_in bytes)) (Ok (header_in bytes)))

-- nothing is to stand at a place and behind it
abbrev pub end_fault : List ℕ → ℕ → Option IndexFault
end_fault bytes at = if length (drop at bytes) == 0 then None else Some (Malformed at Trailing)

-- the stamp, where there is one
unfoldable pub stamp_at : Header → List ℕ → Result (Option Stamp) IndexFault
stamp_at h bytes =
    if h.version == 1 then Ok None
    else unless (stamp_fault h.kind (take 136 bytes)) (Ok (Some (stamp_in (take 136 bytes))))

-- where the layers begin
abbrev pub layers_place : (version : ℕ) → ℕ
layers_place version = if version == 1 then 32 else 136

-- the layers from a place on, and nothing behind them: the index but for its stamp
unfoldable pub body_at : Header → List ℕ → ℕ → Result Contents IndexFault
body_at h bytes at = do
  base ← rows_at (λ id. nat_lt id h.count) (base_bound h.kind h.degree) bytes (range_with_len 0 h.count) at []
  upper ← layers_at h.start h.degree (λ id. nat_lt id h.count) h.count (layer_words h.count (base_bound h.kind h.degree)) bytes (h.layers - 1) base.1 []
  unless (end_fault bytes upper.1) (Ok (record { kind = h.kind; count = h.count; dim = h.dim; degree = h.degree; start = h.start; layers = enumerate_from 0 base.0 ∷ upper.0; stamp = None }))

-- what a file holds, or its first fault
unfoldable pub index_in : List ℕ → Result Contents IndexFault
index_in bytes = do
  h ← header_at bytes
  stamp ← stamp_at h bytes
  body ← body_at h bytes (layers_place h.version)
  Ok (stamped stamp body)

-- none, or the first broken rule of a file with its place
unfoldable pub verdict : List ℕ → Option IndexFault
verdict bytes = elim (index_in bytes) [ Ok index ↦ None | Err fault ↦ Some fault ]
