use Rattle.std.proofs.Common.{◌≡◌, ℕ, List, ◌+◌, ◌-◌, ◌∷◌, ◌∙◌, [], ◌≤◌, length, map, sym, ap, subst, Ok, None, nat_lt}
use Rattle.std.specs.List.{range_with_len, enumerate_from, sum_by}
use Rattle.std.proofs.lemmas.List.{length-map}
use Rattle.graph_rows.specs.Index.{Contents}
use Rattle.ann_shelf.specs.Files.{bytes_of}
use Rattle.bin_files.proofs.Pieces.{told_then, both_told}
use Rattle.graph_files.specs.declared.fault.IndexFault.TheVariants.{Malformed}
use Rattle.graph_files.specs.declared.fault.IndexRule.TheVariants.{Trailing}
use Rattle.graph_files.specs.Grammar.{rows_at, layers_at}
use Rattle.graph_files.specs.Reading.{Fails}
use Rattle.graph_rows.specs.WellFormed.{layer_words}
use Rattle.graph_rows.proofs.Totals.{entries_of}
use Rattle.graph_rows.specs.View.{kind_code}
use Rattle.graph_files.proofs.BodyFacts.{body_formed, body_limits}
use Rattle.graph_files.proofs.ReadLaws.{bytes_to_end}
use Rattle.graph_files.proofs.UpperLoop.{Entries}
use Rattle.graph_files.proofs.Told.{three_told, gives_err}
use Rattle.graph_files.proofs.BodyLaws.{body_base, body_upper, body_end, body_is, something, nothing}
use Rattle.graph_files.proofs.read.read_body.Goals as goal

pub returns-in_err-base-clause-body : goal.returns-in_err-base-clause-body
returns-in_err-base-clause-body g c = told_then (g.F.Shelf.shown c.args.shelf.now).held c.in_err-base.ensures.rows (λ files broken.
    let h = c.args.h in
    let Broken : ℕ → Type 0 = λ b. Fails c.in_err-base.field-0.0 (rows_at (λ id. nat_lt id h.count) b (bytes_of files c.args.name.now) (range_with_len 0 h.count) c.args.at []) in
    gives_err _ c.from_residual.result c.in_err-base.field-0.0 _ c.from_residual.ensures.1 (body_base h (bytes_of files c.args.name.now) c.args.at c.in_err-base.field-0.0 (subst Broken c.bound_of-bound.ensures broken)))

pub returns-in_err-upper-clause-body : goal.returns-in_err-upper-clause-body
returns-in_err-upper-clause-body g c = both_told (g.F.Shelf.shown c.args.shelf.now).held (g.F.Shelf.shown c.read_graph.new.shelf).held c.in_ok-base.ensures.only_reads.held c.in_ok-base.ensures.rows c.in_err-upper.ensures.layers (λ files rows broken.
    let h = c.args.h in
    let Rows : ℕ → Type 0 = λ b. rows_at (λ id. nat_lt id h.count) b (bytes_of files c.args.name.now) (range_with_len 0 h.count) c.args.at [] ≡ Ok (c.in_ok-base.base.0.rows, c.in_ok-base.base.1) in
    let Broken : ℕ → Type 0 = λ b. Fails c.in_err-upper.field-0.0 (layers_at h.start h.degree (λ id. nat_lt id h.count) h.count (layer_words h.count b) (bytes_of files c.args.name.now) (h.layers - 1) c.in_ok-base.base.1 []) in
    gives_err _ c.from_residual-in_err-upper.result c.in_err-upper.field-0.0 _ c.from_residual-in_err-upper.ensures.1 (body_upper h (bytes_of files c.args.name.now) c.args.at c.in_err-upper.field-0.0 (c.in_ok-base.base.0.rows, c.in_ok-base.base.1) (subst Rows c.bound_of-bound.ensures rows) (subst Broken c.bound_of-bound.ensures broken)))

pub returns-then-more-clause-body : goal.returns-then-more-clause-body
returns-then-more-clause-body g c = three_told (g.F.Shelf.shown c.args.shelf.now).held (g.F.Shelf.shown c.read_graph.new.shelf).held (g.F.Shelf.shown c.read_layers.new.shelf).held c.in_ok-base.ensures.only_reads.held c.in_ok-upper.ensures.only_reads.held
    c.in_ok-base.ensures.rows c.in_ok-upper.ensures.layers c.in_ok-more.ensures.end (λ files rows layers end.
    let h = c.args.h in
    let Rows : ℕ → Type 0 = λ b. rows_at (λ id. nat_lt id h.count) b (bytes_of files c.args.name.now) (range_with_len 0 h.count) c.args.at [] ≡ Ok (c.in_ok-base.base.0.rows, c.in_ok-base.base.1) in
    let Layers : ℕ → Type 0 = λ b. layers_at h.start h.degree (λ id. nat_lt id h.count) h.count (layer_words h.count b) (bytes_of files c.args.name.now) (h.layers - 1) c.in_ok-base.base.1 [] ≡ Ok (map entries_of c.in_ok-upper.upper.0.items, c.in_ok-upper.upper.1) in
    body_end h (bytes_of files c.args.name.now) c.args.at (Malformed c.in_ok-upper.upper.1 Trailing) (c.in_ok-base.base.0.rows, c.in_ok-base.base.1) (map entries_of c.in_ok-upper.upper.0.items, c.in_ok-upper.upper.1)
    (subst Rows c.bound_of-bound.ensures rows) (subst Layers c.bound_of-bound.ensures layers) (something (bytes_of files c.args.name.now) c.in_ok-upper.upper.1 c.in_ok-more.more end c.if-more.true))

pub returns-clause-body : goal.returns-clause-body
returns-clause-body g c = three_told (g.F.Shelf.shown c.args.shelf.now).held (g.F.Shelf.shown c.read_graph.new.shelf).held (g.F.Shelf.shown c.read_layers.new.shelf).held c.in_ok-base.ensures.only_reads.held c.in_ok-upper.ensures.only_reads.held
    c.in_ok-base.ensures.rows c.in_ok-upper.ensures.layers c.in_ok-more.ensures.end (λ files rows layers end.
    let h = c.args.h in
    let Rows : ℕ → Type 0 = λ b. rows_at (λ id. nat_lt id h.count) b (bytes_of files c.args.name.now) (range_with_len 0 h.count) c.args.at [] ≡ Ok (c.in_ok-base.base.0.rows, c.in_ok-base.base.1) in
    let Layers : ℕ → Type 0 = λ b. layers_at h.start h.degree (λ id. nat_lt id h.count) h.count (layer_words h.count b) (bytes_of files c.args.name.now) (h.layers - 1) c.in_ok-base.base.1 [] ≡ Ok (map entries_of c.in_ok-upper.upper.0.items, c.in_ok-upper.upper.1) in
    let At : ℕ → Contents = λ k. record { kind = k; count = h.count; dim = h.dim; degree = h.degree; start = h.start; layers = enumerate_from 0 c.in_ok-base.base.0.rows ∷ map entries_of c.in_ok-upper.upper.0.items; stamp = None } in
    body_is h (bytes_of files c.args.name.now) c.args.at (c.in_ok-base.base.0.rows, c.in_ok-base.base.1) (map entries_of c.in_ok-upper.upper.0.items, c.in_ok-upper.upper.1)
    (subst Rows c.bound_of-bound.ensures rows) (subst Layers c.bound_of-bound.ensures layers) (nothing (bytes_of files c.args.name.now) c.in_ok-upper.upper.1 c.in_ok-more.more end c.if-more.false)
    ∙ ap (λ k. Ok (At k)) (sym c.kind_of.ensures))

pub returns-clause-well_formed : goal.returns-clause-well_formed
returns-clause-well_formed g c =
    let upper : List Entries = map entries_of c.in_ok-upper.upper.0.items in
    body_formed c.args.h (kind_code c.kind_of.result) c.in_ok-base.base.0.rows upper c.requires.form c.requires.limits c.kind_of.ensures c.bound_of-bound.result c.bound_of-bound.ensures
    c.in_ok-base.ensures.shape.1 c.in_ok-base.ensures.sound c.in_ok-upper.ensures.sound (ap (λ n. n + 1) (length-map c.in_ok-upper.upper.0.items entries_of) ∙ c.in_ok-upper.ensures.count)

pub returns-clause-limits : goal.returns-clause-limits
returns-clause-limits g c =
    let upper : List Entries = map entries_of c.in_ok-upper.upper.0.items in
    let Fits : ℕ → Type 0 = λ b. layer_words c.args.h.count b + sum_by (λ (layer : Entries). layer_words (length layer) c.args.h.degree) upper ≤ 134217728 in
    body_limits c.args.h (kind_code c.kind_of.result) c.in_ok-base.base.0.rows upper c.requires.form c.requires.limits c.kind_of.ensures (subst Fits c.bound_of-bound.ensures c.in_ok-upper.ensures.words)

pub returns-clause-bytes : goal.returns-clause-bytes
returns-clause-bytes g c = three_told (g.F.Shelf.shown c.args.shelf.now).held (g.F.Shelf.shown c.read_graph.new.shelf).held (g.F.Shelf.shown c.read_layers.new.shelf).held c.in_ok-base.ensures.only_reads.held c.in_ok-upper.ensures.only_reads.held
    c.in_ok-base.ensures.bytes c.in_ok-upper.ensures.bytes c.in_ok-more.ensures.end (λ files first second end.
    bytes_to_end (bytes_of files c.args.name.now) c.args.at c.in_ok-base.base.1 c.in_ok-upper.upper.1 c.in_ok-more.more first second end c.if-more.false)
