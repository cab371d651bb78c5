-- Further layers, one after another.
use Rattle.std.proofs.Common.{◌≡◌, ℕ, suc, ◌+◌, ◌-◌, ◌<◌, ◌≤◌, Bool, List, [], ◌∷◌, ◌++◌, map, length, get_or, Result, Ok, refl, sym, ap, ◌∙◌, arith}
use Rattle.std.specs.List.{zip}
use Rattle.std.proofs.lemmas.List.{length-map, get_or-map}
use Rattle.ann_defs.specs.Graph.{has}
use Rattle.graph_files.specs.declared.fault.IndexFault.{IndexFault}
use Rattle.graph_files.specs.Grammar.{◌>>=◌, layer_at, layers_at}
use Rattle.graph_rows.specs.Index.{layer_ids, layer_rows}
use Rattle.graph_rows.specs.Layers.{Layered}
use Rattle.graph_rows.specs.Members.{held_over, count_over}
use Rattle.graph_files.specs.Reading.{Fails}
use Rattle.graph_rows.specs.WellFormed.{IsFurtherLayer, AreFurtherLayers, layer_words}
use Rattle.graph_files.proofs.RowLoop.{fails_before, fails_along}
use Rattle.graph_rows.proofs.Totals.{entries_of}

abbrev pub Entries : Type 0
Entries = List (ℕ × List ℕ)

abbrev pub holding : Entries → ℕ → Bool
holding layer id = has (layer_ids layer) id

pub zip_parts : (layer : Entries) → zip (layer_ids layer) (layer_rows layer) ≡ layer
zip_parts [] = refl
zip_parts (e ∷ layer) = ap (λ xs. e ∷ xs) (zip_parts layer)

-- the layer on top
pub held_push : (below : ℕ → Bool) (layers : List Entries) (layer : Entries) → held_over below (layers ++ layer ∷ []) ≡ holding layer
held_push below [] layer = refl
held_push below (l ∷ layers) layer = held_push (holding l) layers layer

pub count_push : (count : ℕ) (layers : List Entries) (layer : Entries) → count_over count (layers ++ layer ∷ []) ≡ length layer
count_push count [] layer = refl
count_push count (l ∷ layers) layer = count_push (length l) layers layer

pub further_push : (start degree : ℕ) (below : ℕ → Bool) (layers : List Entries) (layer : Entries) → AreFurtherLayers start degree below layers → IsFurtherLayer start degree (held_over below layers) layer
    → AreFurtherLayers start degree below (layers ++ layer ∷ [])
further_push start degree below [] layer are is = (is, tt)
further_push start degree below (l ∷ layers) layer are is = (are.0, further_push start degree (holding l) layers layer are.1 is)

last_of : (l m : Entries) (layers : List Entries) (d : Entries) → get_or (m ∷ layers) (length (m ∷ layers) - 1) d ≡ get_or (l ∷ m ∷ layers) (length (l ∷ m ∷ layers) - 1) d
last_of l m layers d = let e : length (l ∷ m ∷ layers) - 1 ≡ suc (length (m ∷ layers) - 1) = omega arith in sym (ap (λ k. get_or (l ∷ m ∷ layers) k d) e)

pub held_last : (below : ℕ → Bool) (layers : List Entries) (d : Entries) → 0 < length layers → held_over below layers ≡ holding (get_or layers (length layers - 1) d)
held_last below [] d some = absurd (omega arith)
held_last below (l ∷ []) d some = refl
held_last below (l ∷ m ∷ layers) d some = held_last (holding l) (m ∷ layers) d (omega arith) ∙ ap (λ layer. holding layer) (last_of l m layers d)

pub count_last : (count : ℕ) (layers : List Entries) (d : Entries) → 0 < length layers → count_over count layers ≡ length (get_or layers (length layers - 1) d)
count_last count [] d some = absurd (omega arith)
count_last count (l ∷ []) d some = refl
count_last count (l ∷ m ∷ layers) d some = count_last (length l) (m ∷ layers) d (omega arith) ∙ ap length (last_of l m layers d)

pub entries_push : (layers : List Layered) (layer : Layered) → map entries_of (layers ++ layer ∷ []) ≡ map entries_of layers ++ layer.entries ∷ []
entries_push [] layer = refl
entries_push (l ∷ layers) layer = ap (λ xs. l.entries ∷ xs) (entries_push layers layer)

-- the layer on top, as it lies in memory
pub top_held : (below : ℕ → Bool) (layers : List Layered) (layer d : Layered) → 0 < length layers → get_or layers (length layers - 1) d ≡ layer → held_over below (map entries_of layers) ≡ holding layer.entries
top_held below layers layer d some is =
    let many : length (map entries_of layers) ≡ length layers = length-map layers entries_of in
    held_last below (map entries_of layers) d.entries (omega arith)
    ∙ ap (λ k. holding (get_or (map entries_of layers) (k - 1) d.entries)) many
    ∙ ap (λ e. holding e) (get_or-map entries_of layers (length layers - 1) d d.entries (omega arith) ∙ ap entries_of is)

pub top_count : (count : ℕ) (layers : List Layered) (layer d : Layered) → 0 < length layers → get_or layers (length layers - 1) d ≡ layer → count_over count (map entries_of layers) ≡ length layer.entries
top_count count layers layer d some is =
    let many : length (map entries_of layers) ≡ length layers = length-map layers entries_of in
    count_last count (map entries_of layers) d.entries (omega arith)
    ∙ ap (λ k. length (get_or (map entries_of layers) (k - 1) d.entries)) many
    ∙ ap length (get_or-map entries_of layers (length layers - 1) d d.entries (omega arith) ∙ ap entries_of is)

pub no_layers : (layers : List Layered) → length layers ≡ 0 → map entries_of layers ≡ []
no_layers [] none = refl
no_layers (l ∷ layers) none = absurd (omega arith)

abbrev pub Read : Type 0
Read = Result (List Entries × ℕ) IndexFault

module _ (start degree : ℕ) (file : List ℕ) where
  -- one more layer
  pub layers_on : (below : ℕ → Bool) (count words most i at next : ℕ) (layers : List Entries) (layer : Entries) (total : Read) → i < most
      → layer_at start degree below count words file at ≡ Ok (layer_ids layer, layer_rows layer, next) → layers_at start degree below count words file (most - i) at layers ≡ total
      → layers_at start degree (holding layer) (length layer) (words + layer_words (length layer) degree) file (most - (i + 1)) next (layers ++ layer ∷ []) ≡ total
  unfolding layers_at
  layers_on below count words most i at next layers layer total lt step so_far =
      let k : most - i ≡ suc (most - (i + 1)) = omega arith in
      let one : layers_at start degree below count words file (most - i) at layers
      ≡ layers_at start degree (holding layer) (length (layer_ids layer)) (words + layer_words (length (layer_ids layer)) degree) file (most - (i + 1)) next (layers ++ zip (layer_ids layer) (layer_rows layer) ∷ []) = rw (k, step) refl in
      let many : length (layer_ids layer) ≡ length layer = length-map layer (λ (e : ℕ × List ℕ). e.0) in
      sym (ap (λ n. layers_at start degree (holding layer) n (words + layer_words n degree) file (most - (i + 1)) next (layers ++ zip (layer_ids layer) (layer_rows layer) ∷ [])) many
      ∙ ap (λ (e : Entries). layers_at start degree (holding layer) (length layer) (words + layer_words (length layer) degree) file (most - (i + 1)) next (layers ++ e ∷ [])) (zip_parts layer))
      ∙ sym one ∙ so_far

  -- the next layer breaks a rule
  pub layers_broken : (fault : IndexFault) (below : ℕ → Bool) (count words most i at : ℕ) (layers : List Entries) (total : Read) → i < most → Fails fault (layer_at start degree below count words file at)
      → layers_at start degree below count words file (most - i) at layers ≡ total → Fails fault total
  unfolding layers_at
  layers_broken fault below count words most i at layers total lt broken so_far =
      let k : most - i ≡ suc (most - (i + 1)) = omega arith in
      let F : List ℕ × List (List ℕ) × ℕ → Read = λ l. layers_at start degree (λ id. has l.0 id) (length l.0) (words + layer_words (length l.0) degree) file (most - (i + 1)) l.2 (layers ++ zip l.0 l.1 ∷ []) in
      let one : (layer_at start degree below count words file at >>= F) ≡ layers_at start degree below count words file (most - i) at layers = rw k refl in
      fails_along fault _ total (one ∙ so_far) (fails_before fault (layer_at start degree below count words file at) F broken)

  pub layers_done : (below : ℕ → Bool) (count words most i at : ℕ) (layers : List Entries) (total : Read) → most ≤ i → layers_at start degree below count words file (most - i) at layers ≡ total → total ≡ Ok (layers, at)
  unfolding layers_at
  layers_done below count words most i at layers total le so_far =
      let k : most - i ≡ 0 = omega arith in
      let one : layers_at start degree below count words file (most - i) at layers ≡ Ok (layers, at) = rw k refl in
      sym so_far ∙ one
