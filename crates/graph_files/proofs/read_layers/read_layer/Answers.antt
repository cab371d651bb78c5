use Rattle.std.proofs.Common.{◌≡◌, ℕ, List, ◌+◌, ◌*◌, ◌≤◌, ◌∙◌, [], length, sym, ap, subst, arith, Ok, None, Some}
use Rattle.ann_shelf.specs.Files.{bytes_of}
use Rattle.bin_files.proofs.Pieces.{told_then, both_told}
use Rattle.graph_files.specs.Grammar.{rows_at, members_fault, start_fault}
use Rattle.ann_defs.specs.Graph.{has}
use Rattle.graph_rows.specs.Members.{holds, count_in, AreRows}
use Rattle.graph_files.specs.Reading.{Fails}
use Rattle.graph_files.proofs.Told.{three_told, gives_err}
use Rattle.graph_rows.specs.Index.{layer_ids}
use Rattle.ann_defs.specs.Ordered.{Ascends}
use Rattle.graph_rows.specs.Layers.{Layered}
use Rattle.graph_rows.specs.WellFormed.{IsFurtherLayer}
use Rattle.graph_rows.proofs.LayerLists.{length-zip}
use Rattle.graph_files.proofs.Layering.{further, parts_of}
use Rattle.graph_files.proofs.Shown.{bytes_on}
use Rattle.graph_files.proofs.LayerLaws.{layer_short, layer_count, layer_ids_fail, layer_start, layer_rows_fail, layer_is, sound_start, sound_count}
use Rattle.graph_files.proofs.read_layers.read_layer.Goals as goal

pub returns-in_err-count-clause-layer : goal.returns-in_err-count-clause-layer
returns-in_err-count-clause-layer g c = told_then (g.F.Shelf.shown c.args.shelf.now).held c.in_err-count.ensures.word (λ files short.
    gives_err _ c.from_residual.result c.in_err-count.field-0.0 _ c.from_residual.ensures.1 (layer_short c.args.start c.args.degree (holds c.args.below) (count_in c.args.below) c.args.words (bytes_of files c.args.name.now) c.args.at c.in_err-count.field-0.0 short))

pub returns-in-Some-clause-layer : goal.returns-in-Some-clause-layer
returns-in-Some-clause-layer g c = told_then (g.F.Shelf.shown c.args.shelf.now).held c.in_ok-count.ensures.word (λ files word.
    layer_count c.args.start c.args.degree (holds c.args.below) (count_in c.args.below) c.args.words (bytes_of files c.args.name.now) c.args.at c.in-Some.fault c.in_ok-count.count word
    (subst (λ k. Some c.in-Some.fault ≡ members_fault c.args.degree k c.args.words c.args.at c.in_ok-count.count) c.count.ensures.count c.in-Some.ensures))

pub returns-in_err-ids-clause-layer : goal.returns-in_err-ids-clause-layer
returns-in_err-ids-clause-layer g c = both_told (g.F.Shelf.shown c.args.shelf.now).held (g.F.Shelf.shown c.word.new.shelf).held c.in_ok-count.ensures.only_reads.held c.in_ok-count.ensures.word c.in_err-ids.ensures.ids (λ files word broken.
    gives_err _ c.from_residual-in_err-ids.result c.in_err-ids.field-0.0 _ c.from_residual-in_err-ids.ensures.1 (layer_ids_fail c.args.start c.args.degree (holds c.args.below) (count_in c.args.below) c.args.words (bytes_of files c.args.name.now) c.args.at c.in_err-ids.field-0.0 c.in_ok-count.count word
    (subst (λ k. None ≡ members_fault c.args.degree k c.args.words c.args.at c.in_ok-count.count) c.count.ensures.count c.in-None.ensures) broken))

pub returns-in-Some-fault_of_start-clause-layer : goal.returns-in-Some-fault_of_start-clause-layer
returns-in-Some-fault_of_start-clause-layer g c = both_told (g.F.Shelf.shown c.args.shelf.now).held (g.F.Shelf.shown c.word.new.shelf).held c.in_ok-count.ensures.only_reads.held c.in_ok-count.ensures.word c.in_ok-ids.ensures.ids (λ files word step.
    layer_start c.args.start c.args.degree (holds c.args.below) (count_in c.args.below) c.args.words (bytes_of files c.args.name.now) c.args.at c.in-Some-fault_of_start.fault c.in_ok-count.count c.in_ok-ids.ids.items word
    (subst (λ k. None ≡ members_fault c.args.degree k c.args.words c.args.at c.in_ok-count.count) c.count.ensures.count c.in-None.ensures) step
    (subst (λ xs. Some c.in-Some-fault_of_start.fault ≡ start_fault c.args.start c.args.at xs) c.deref.ensures.value c.in-Some-fault_of_start.ensures))

pub returns-in_err-graph-clause-layer : goal.returns-in_err-graph-clause-layer
returns-in_err-graph-clause-layer g c = three_told (g.F.Shelf.shown c.args.shelf.now).held (g.F.Shelf.shown c.word.new.shelf).held (g.F.Shelf.shown c.read_listed.new.shelf).held c.in_ok-count.ensures.only_reads.held c.in_ok-ids.ensures.only_reads.held
    c.in_ok-count.ensures.word c.in_ok-ids.ensures.ids c.in_err-graph.ensures.rows (λ files word step broken.
    let Broken : List ℕ → Type 0 = λ xs. Fails c.in_err-graph.field-0.0 (rows_at (λ id. has xs id) c.args.degree (bytes_of files c.args.name.now) xs (c.args.at + 4 + 4 * c.in_ok-count.count) []) in
    gives_err _ c.from_residual-in_err-graph.result c.in_err-graph.field-0.0 _ c.from_residual-in_err-graph.ensures.1 (layer_rows_fail c.args.start c.args.degree (holds c.args.below) (count_in c.args.below) c.args.words (bytes_of files c.args.name.now) c.args.at c.in_err-graph.field-0.0 c.in_ok-count.count c.in_ok-ids.ids.items word
    (subst (λ k. None ≡ members_fault c.args.degree k c.args.words c.args.at c.in_ok-count.count) c.count.ensures.count c.in-None.ensures) step
    (subst (λ xs. None ≡ start_fault c.args.start c.args.at xs) c.deref.ensures.value c.in-None-fault_of_start.ensures)
    (subst Broken c.deref-2.ensures.value broken)))

pub read_graph-requires-clause-ascending : goal.read_graph-requires-clause-ascending
read_graph-requires-clause-ascending g c = subst Ascends (sym c.deref-2.ensures.value) c.in_ok-ids.ensures.sound.ascend

pub of-requires : goal.of-requires
of-requires g c =
    let ids : List ℕ = c.in_ok-ids.ids.items in
    let counted = sound_count c.args.degree (count_in c.args.below) c.args.words c.args.at c.in_ok-count.count (subst (λ k. None ≡ members_fault c.args.degree k c.args.words c.args.at c.in_ok-count.count) c.count.ensures.count c.in-None.ensures) in
    let many : length ids ≡ c.in_ok-count.count = c.in_ok-ids.ensures.count in
    record {
      some = omega (arith, counted.some);
      few = omega (arith, counted.within, c.requires.count);
      same = c.in_ok-graph.ensures.shape.1 ∙ ap length c.deref-2.ensures.value;
      ascend = c.in_ok-ids.ensures.sound.ascend;
    }

pub returns-clause-layer : goal.returns-clause-layer
returns-clause-layer g c = three_told (g.F.Shelf.shown c.args.shelf.now).held (g.F.Shelf.shown c.word.new.shelf).held (g.F.Shelf.shown c.read_listed.new.shelf).held c.in_ok-count.ensures.only_reads.held c.in_ok-ids.ensures.only_reads.held
    c.in_ok-count.ensures.word c.in_ok-ids.ensures.ids c.in_ok-graph.ensures.rows (λ files word step last.
    let ids : List ℕ = c.in_ok-ids.ids.items in
    let rows : List (List ℕ) = c.in_ok-graph.graph.0.rows in
    let same : length rows ≡ length ids = c.in_ok-graph.ensures.shape.1 ∙ ap length c.deref-2.ensures.value in
    let parts = parts_of ids rows c.of.result.entries same (ap (λ (l : Layered). l.entries) c.of.ensures) in
    let Rows : List ℕ → Type 0 = λ xs. rows_at (λ id. has xs id) c.args.degree (bytes_of files c.args.name.now) xs (c.args.at + 4 + 4 * c.in_ok-count.count) [] ≡ Ok (c.in_ok-graph.graph.0.rows, c.in_ok-graph.graph.1) in
    layer_is c.args.start c.args.degree (holds c.args.below) (count_in c.args.below) c.args.words (bytes_of files c.args.name.now) c.args.at c.in_ok-count.count c.in_ok-ids.ids.items c.in_ok-graph.graph.0.rows c.in_ok-graph.graph.1 word
    (subst (λ k. None ≡ members_fault c.args.degree k c.args.words c.args.at c.in_ok-count.count) c.count.ensures.count c.in-None.ensures) step
    (subst (λ xs. None ≡ start_fault c.args.start c.args.at xs) c.deref.ensures.value c.in-None-fault_of_start.ensures)
    (subst Rows c.deref-2.ensures.value last)
    ∙ ap (λ xs. Ok (xs, rows, c.in_ok-graph.graph.1)) parts.0
    ∙ ap (λ (rs : List (List ℕ)). Ok (layer_ids c.of.result.entries, rs, c.in_ok-graph.graph.1)) parts.1)

pub returns-clause-sound : goal.returns-clause-sound
returns-clause-sound g c =
    let ids : List ℕ = c.in_ok-ids.ids.items in
    let rows : List (List ℕ) = c.in_ok-graph.graph.0.rows in
    let same : length rows ≡ length ids = c.in_ok-graph.ensures.shape.1 ∙ ap length c.deref-2.ensures.value in
    let Rows : List ℕ → Type 0 = λ xs. AreRows (λ id. has xs id) c.args.degree xs (length rows) rows in
    let counted = sound_count c.args.degree (count_in c.args.below) c.args.words c.args.at c.in_ok-count.count (subst (λ k. None ≡ members_fault c.args.degree k c.args.words c.args.at c.in_ok-count.count) c.count.ensures.count c.in-None.ensures) in
    subst (IsFurtherLayer c.args.start c.args.degree (holds c.args.below)) (sym (ap (λ (l : Layered). l.entries) c.of.ensures))
    (further c.args.start c.args.degree (holds c.args.below) ids rows (subst (λ k. 1 ≤ k) (sym c.in_ok-ids.ensures.count) counted.some) c.in_ok-ids.ensures.sound
    (sound_start c.args.start c.args.at ids (subst (λ xs. None ≡ start_fault c.args.start c.args.at xs) c.deref.ensures.value c.in-None-fault_of_start.ensures))
    same (subst Rows c.deref-2.ensures.value c.in_ok-graph.ensures.sound))

pub returns-clause-words : goal.returns-clause-words
returns-clause-words g c =
    let ids : List ℕ = c.in_ok-ids.ids.items in
    let same : length c.in_ok-graph.graph.0.rows ≡ length ids = c.in_ok-graph.ensures.shape.1 ∙ ap length c.deref-2.ensures.value in
    let many : length c.of.result.entries ≡ c.in_ok-count.count = ap (λ (l : Layered). length l.entries) c.of.ensures ∙ length-zip ids c.in_ok-graph.graph.0.rows same ∙ c.in_ok-ids.ensures.count in
    subst (λ k. c.args.words + k * (c.args.degree + 1) ≤ 134217728) (sym many)
    (sound_count c.args.degree (count_in c.args.below) c.args.words c.args.at c.in_ok-count.count (subst (λ k. None ≡ members_fault c.args.degree k c.args.words c.args.at c.in_ok-count.count) c.count.ensures.count c.in-None.ensures)).fits

pub returns-clause-count : goal.returns-clause-count
returns-clause-count g c =
    let ids : List ℕ = c.in_ok-ids.ids.items in
    let same : length c.in_ok-graph.graph.0.rows ≡ length ids = c.in_ok-graph.ensures.shape.1 ∙ ap length c.deref-2.ensures.value in
    let many : length c.of.result.entries ≡ c.in_ok-count.count = ap (λ (l : Layered). length l.entries) c.of.ensures ∙ length-zip ids c.in_ok-graph.graph.0.rows same ∙ c.in_ok-ids.ensures.count in
    omega (arith, (sound_count c.args.degree (count_in c.args.below) c.args.words c.args.at c.in_ok-count.count (subst (λ k. None ≡ members_fault c.args.degree k c.args.words c.args.at c.in_ok-count.count) c.count.ensures.count c.in-None.ensures)).within, c.requires.count)

pub returns-clause-bytes : goal.returns-clause-bytes
returns-clause-bytes g c = three_told (g.F.Shelf.shown c.args.shelf.now).held (g.F.Shelf.shown c.word.new.shelf).held (g.F.Shelf.shown c.read_listed.new.shelf).held c.in_ok-count.ensures.only_reads.held c.in_ok-ids.ensures.only_reads.held
    c.in_ok-count.ensures.bytes c.in_ok-ids.ensures.bytes c.in_ok-graph.ensures.bytes (λ files counted listed rows.
    let file = bytes_of files c.args.name.now in
    bytes_on file c.args.at (c.args.at + 4) c.in_ok-graph.graph.1 counted (bytes_on file (c.args.at + 4) (c.args.at + 4 + 4 * c.in_ok-count.count) c.in_ok-graph.graph.1 listed rows))
