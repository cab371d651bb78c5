use Rattle.std.proofs.Common.{◌≡◌, ◌+◌, ◌-◌, ◌*◌, ◌≤◌, [], map, length, nat_lt, IfSome}
use Rattle.std.specs.List.{sum_by}
use Rattle.ann_shelf.specs.Shown.{OnlyReads}
use Rattle.ann_shelf.specs.Files.{bytes_of}
use Rattle.graph_files.specs.Grammar.{layers_at}
use Rattle.graph_rows.specs.Members.{held_over, count_over}
use Rattle.graph_files.specs.Reading.{AreBytesIn, Shows}
use Rattle.graph_rows.specs.WellFormed.{AreFurtherLayers, layer_words}
use Rattle.graph_rows.proofs.Totals.{entries_of}
use Rattle.graph_files.proofs.UpperLoop.{Entries}
use Rattle.graph_files.proofs.read_layers.read_layers.Given as goal

abbrev pub invariant-loop-i : goal.invariant-loop-i
invariant-loop-i g l = record {
  layers : IfSome (g.F.Shelf.shown l.fn.shelf).held (λ files.
      layers_at l.h.start l.h.degree (held_over (λ id. nat_lt id l.h.count) (map entries_of l.layers.items)) (count_over l.h.count (map entries_of l.layers.items)) l.total (bytes_of files l.name) (l.h.layers - l.i) l.place (map entries_of l.layers.items)
      ≡ layers_at l.h.start l.h.degree (λ id. nat_lt id l.h.count) l.h.count l.words (bytes_of files l.name) (l.h.layers - 1) l.at []);
  sound : AreFurtherLayers l.h.start l.h.degree (λ id. nat_lt id l.h.count) (map entries_of l.layers.items);
  count : length l.layers.items + 1 ≡ l.i;
  few : count_over l.h.count (map entries_of l.layers.items) ≤ 4194304;
  sum : l.total ≡ l.words + sum_by (λ (layer : Entries). layer_words (length layer) l.h.degree) (map entries_of l.layers.items);
  limit : l.total ≤ 134217728;
  bytes : IfSome (g.F.Shelf.shown l.fn.shelf).held (λ files. AreBytesIn (bytes_of files l.name) l.at l.place);
  end : l.place ≤ l.at + 4294967296 * l.i;
  shows : IfSome (g.F.Shelf.shown l.fn.shelf).held (λ files. Shows (bytes_of files l.name) l.window);
  only_reads : OnlyReads (g.F.Shelf.shown l.fn.shelf) (g.F.Shelf.shown l.shelf) l.name ⊥;
}
