use Rattle.std.proofs.Common.{◌≡◌, ℕ, ◌+◌, ◌-◌, ◌*◌, ◌≤◌, ◌++◌, ◌∷◌, [], Bool, List, map, length, nat_lt, sym, ap, subst, ◌∙◌, arith, Ok, IfSome, length-append}
use Rattle.std.specs.List.{sum_by}
use Rattle.std.proofs.lemmas.List.{length-map}
use Rattle.std.proofs.lemmas.List.Sums.{sum_by_push}
use Rattle.ann_shelf.specs.Files.{bytes_of}
use Rattle.ann_shelf.proofs.Only.{only_reads_same, only_reads_then}
use Rattle.bin_files.proofs.Pieces.{told_then, both_told}
use Rattle.ann_defs.specs.Graph.{has}
use Rattle.graph_files.specs.Grammar.{layers_at, layer_at}
use Rattle.graph_rows.specs.Index.{layer_ids, layer_rows}
use Rattle.graph_rows.specs.Layers.{Layered}
use Rattle.graph_rows.specs.Members.{holds, count_in, held_over, count_over}
use Rattle.graph_files.specs.Reading.{Shows}
use Rattle.graph_rows.specs.WellFormed.{AreFurtherLayers, IsFurtherLayer, layer_words}
use Rattle.graph_files.proofs.Told.{gives_err}
use Rattle.graph_files.proofs.RowLoop.{fails_along}
use Rattle.graph_files.proofs.Shown.{bytes_on}
use Rattle.graph_rows.proofs.Totals.{entries_of}
use Rattle.graph_files.proofs.UpperLoop.{Entries, Read, entries_push, held_push, count_push, further_push, layers_on, layers_broken, layers_done}
use Rattle.graph_files.proofs.read_layers.read_layers.Goals as goal

abbrev words_in : ℕ → Entries → ℕ
words_in degree layer = layer_words (length layer) degree

pub loop-i-init : goal.loop-i-init
loop-i-init g c =
    let h = c.args.h in
    let base : ℕ → Bool = λ id. nat_lt id h.count in
    let none : map entries_of c.new-layers.result.items ≡ [] = ap (map entries_of) c.new-layers.ensures.items in
    record {
      layers = told_then (g.F.Shelf.shown c.args.shelf.now).held c.requires.shows (λ files shows.
          ap (λ (ls : List Entries). layers_at h.start h.degree (held_over base ls) (count_over h.count ls) c.args.words (bytes_of files c.args.name.now) (h.layers - 1) c.args.at ls) none);
      sound = subst (AreFurtherLayers h.start h.degree base) (sym none) tt;
      count = omega (arith, ap (λ (ls : List Layered). length ls) c.new-layers.ensures.items);
      few = subst (λ (ls : List Entries). count_over h.count ls ≤ 4194304) (sym none) c.requires.count;
      sum = let zero : c.args.words + 0 ≡ c.args.words = omega arith in sym (ap (λ (ls : List Entries). c.args.words + sum_by (words_in h.degree) ls) none ∙ zero);
      limit = c.requires.words;
      bytes = told_then (g.F.Shelf.shown c.args.shelf.now).held c.requires.shows (λ files shows i low high. absurd (omega arith));
      end = omega arith;
      shows = c.requires.shows;
      only_reads = only_reads_same _ _ (λ never. never);
    }

pub read_layer-requires : goal.read_layer-requires
read_layer-requires g c =
    let n : count_in c.top-below.result ≡ count_over c.args.h.count (map entries_of c.loop-i.layers.items) =
    c.top-below.ensures.count ∙ ap (λ (ls : List Layered). count_over c.args.h.count (map entries_of ls)) c.deref.ensures.value in
    record {
      place = omega (arith, c.loop-i.invariant.end, c.loop-i-test.true, c.requires.layers.1, c.requires.place);
      degree = c.requires.degree;
      count = subst (λ k. k ≤ 4194304) (sym n) c.loop-i.invariant.few;
      words = c.loop-i.invariant.limit;
      ascending = c.top-below.ensures.ascending;
      shows = subst (λ o. IfSome o (λ files. Shows (bytes_of files c.args.name.now) c.loop-i.window)) (sym c.loop-i.invariant.only_reads.held) c.loop-i.invariant.shows;
    }

pub returns-in_err-read-clause-layers : goal.returns-in_err-read-clause-layers
returns-in_err-read-clause-layers g c = both_told (g.F.Shelf.shown c.args.shelf.now).held (g.F.Shelf.shown c.loop-i.shelf).held c.loop-i.invariant.only_reads.held c.loop-i.invariant.layers c.in_err-read.ensures.layer (λ files so_far broken.
    let h = c.args.h in
    let base : ℕ → Bool = λ id. nat_lt id h.count in
    let file = bytes_of files c.args.name.now in
    let layers : List Entries = map entries_of c.loop-i.layers.items in
    let held : holds c.top-below.result ≡ held_over base layers = c.top-below.ensures.held ∙ ap (λ (ls : List Layered). held_over base (map entries_of ls)) c.deref.ensures.value in
    let count : count_in c.top-below.result ≡ count_over h.count layers = c.top-below.ensures.count ∙ ap (λ (ls : List Layered). count_over h.count (map entries_of ls)) c.deref.ensures.value in
    let same : layer_at h.start h.degree (holds c.top-below.result) (count_in c.top-below.result) c.loop-i.total file c.loop-i.place ≡ layer_at h.start h.degree (held_over base layers) (count_over h.count layers) c.loop-i.total file c.loop-i.place =
    ap (λ (f : ℕ → Bool). layer_at h.start h.degree f (count_in c.top-below.result) c.loop-i.total file c.loop-i.place) held
    ∙ ap (λ k. layer_at h.start h.degree (held_over base layers) k c.loop-i.total file c.loop-i.place) count in
    let total : Read = layers_at h.start h.degree base h.count c.args.words file (h.layers - 1) c.args.at [] in
    gives_err _ c.from_residual.result c.in_err-read.field-0.0 _ c.from_residual.ensures.1 (layers_broken h.start h.degree file c.in_err-read.field-0.0 (held_over base layers) (count_over h.count layers) c.loop-i.total h.layers c.loop-i.i c.loop-i.place layers total c.loop-i-test.true
    (fails_along c.in_err-read.field-0.0 _ _ same broken) so_far))

pub loop-i-preserved : goal.loop-i-preserved
loop-i-preserved g c =
    let h = c.args.h in
    let base : ℕ → Bool = λ id. nat_lt id h.count in
    let layers : List Entries = map entries_of c.loop-i.layers.items in
    let layer : Entries = c.in_ok-read.read.0.entries in
    let held : holds c.top-below.result ≡ held_over base layers = c.top-below.ensures.held ∙ ap (λ (ls : List Layered). held_over base (map entries_of ls)) c.deref.ensures.value in
    let count : count_in c.top-below.result ≡ count_over h.count layers = c.top-below.ensures.count ∙ ap (λ (ls : List Layered). count_over h.count (map entries_of ls)) c.deref.ensures.value in
    let items : c.push.new.self.items ≡ c.loop-i.layers.items ++ c.in_ok-read.read.0 ∷ [] = c.in-Ok.ensures.items in
    let grown : map entries_of c.push.new.self.items ≡ layers ++ layer ∷ [] = ap (map entries_of) items ∙ entries_push c.loop-i.layers.items c.in_ok-read.read.0 in
    let many : length c.ids.result.now ≡ length layer = ap length c.ids.ensures.value ∙ length-map layer (λ (e : ℕ × List ℕ). e.0) in
    let next : ℕ = c.in_ok-read.read.1 in
    record {
      layers = both_told (g.F.Shelf.shown c.args.shelf.now).held (g.F.Shelf.shown c.loop-i.shelf).held c.loop-i.invariant.only_reads.held c.loop-i.invariant.layers c.in_ok-read.ensures.layer (λ files so_far step.
          let file = bytes_of files c.args.name.now in
          let total : Read = layers_at h.start h.degree base h.count c.args.words file (h.layers - 1) c.args.at [] in
          let read : layer_at h.start h.degree (held_over base layers) (count_over h.count layers) c.loop-i.total file c.loop-i.place ≡ Ok (layer_ids layer, layer_rows layer, next) =
          sym (ap (λ (f : ℕ → Bool). layer_at h.start h.degree f (count_in c.top-below.result) c.loop-i.total file c.loop-i.place) held
          ∙ ap (λ k. layer_at h.start h.degree (held_over base layers) k c.loop-i.total file c.loop-i.place) count) ∙ step in
          ap (λ (ls : List Entries). layers_at h.start h.degree (held_over base ls) (count_over h.count ls) (c.loop-i.total + length c.ids.result.now * (h.degree + 1)) file (h.layers - (c.loop-i.i + 1)) next ls) grown
          ∙ ap (λ (f : ℕ → Bool). layers_at h.start h.degree f (count_over h.count (layers ++ layer ∷ [])) (c.loop-i.total + length c.ids.result.now * (h.degree + 1)) file (h.layers - (c.loop-i.i + 1)) next (layers ++ layer ∷ [])) (held_push base layers layer)
          ∙ ap (λ k. layers_at h.start h.degree (λ id. has (layer_ids layer) id) k (c.loop-i.total + length c.ids.result.now * (h.degree + 1)) file (h.layers - (c.loop-i.i + 1)) next (layers ++ layer ∷ [])) (count_push h.count layers layer)
          ∙ ap (λ k. layers_at h.start h.degree (λ id. has (layer_ids layer) id) (length layer) (c.loop-i.total + k * (h.degree + 1)) file (h.layers - (c.loop-i.i + 1)) next (layers ++ layer ∷ [])) many
          ∙ layers_on h.start h.degree file (held_over base layers) (count_over h.count layers) c.loop-i.total h.layers c.loop-i.i c.loop-i.place next layers layer total c.loop-i-test.true read so_far);
      sound = subst (AreFurtherLayers h.start h.degree base) (sym grown) (further_push h.start h.degree base layers layer c.loop-i.invariant.sound (subst (λ (f : ℕ → Bool). IsFurtherLayer h.start h.degree f layer) held c.in_ok-read.ensures.sound));
      count = omega (arith, ap (λ (ls : List Layered). length ls) items, length-append c.loop-i.layers.items (c.in_ok-read.read.0 ∷ []), c.loop-i.invariant.count);
      few = subst (λ (ls : List Entries). count_over h.count ls ≤ 4194304) (sym grown) (subst (λ k. k ≤ 4194304) (sym (count_push h.count layers layer)) c.in_ok-read.ensures.count);
      sum = let more : sum_by (words_in h.degree) (map entries_of c.push.new.self.items) ≡ sum_by (words_in h.degree) layers + length layer * (h.degree + 1) =
          ap (λ (ls : List Entries). sum_by (words_in h.degree) ls) grown ∙ sum_by_push (words_in h.degree) layers layer in
          let here : length c.ids.result.now * (h.degree + 1) ≡ length layer * (h.degree + 1) = ap (λ k. k * (h.degree + 1)) many in
          omega (arith, c.loop-i.invariant.sum, more, here);
      limit = let here : length c.ids.result.now * (h.degree + 1) ≡ length layer * (h.degree + 1) = ap (λ k. k * (h.degree + 1)) many in omega (arith, c.in_ok-read.ensures.words, here);
      bytes = both_told (g.F.Shelf.shown c.args.shelf.now).held (g.F.Shelf.shown c.loop-i.shelf).held c.loop-i.invariant.only_reads.held c.loop-i.invariant.bytes c.in_ok-read.ensures.bytes (λ files so_far more.
          bytes_on (bytes_of files c.args.name.now) c.args.at c.loop-i.place next so_far more);
      end = omega (arith, c.in_ok-read.ensures.end, c.loop-i.invariant.end);
      shows = subst (λ o. IfSome o (λ files. Shows (bytes_of files c.args.name.now) c.read_layer.new.window)) c.loop-i.invariant.only_reads.held c.in_ok-read.ensures.shows;
      only_reads = only_reads_then _ _ _ _ c.loop-i.invariant.only_reads c.in_ok-read.ensures.only_reads (λ never. absurd never);
    }

pub returns-clause-layers : goal.returns-clause-layers
returns-clause-layers g c = told_then (g.F.Shelf.shown c.args.shelf.now).held c.loop-i.invariant.layers (λ files so_far.
    let h = c.args.h in
    let base : ℕ → Bool = λ id. nat_lt id h.count in
    let layers : List Entries = map entries_of c.loop-i.layers.items in
    layers_done h.start h.degree (bytes_of files c.args.name.now) (held_over base layers) (count_over h.count layers) c.loop-i.total h.layers c.loop-i.i c.loop-i.place layers
    (layers_at h.start h.degree base h.count c.args.words (bytes_of files c.args.name.now) (h.layers - 1) c.args.at []) c.loop-i-test.false so_far)
