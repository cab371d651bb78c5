use Rattle.std.proofs.Common.{Ok, refl, sym, ap, subst, ◌∙◌}
use Rattle.ann_shelf.specs.Files.{bytes_of}
use Rattle.ann_shelf.proofs.Only.{only_reads_then}
use Rattle.bin_files.proofs.Pieces.{told_then, both_told}
use Rattle.graph_files.specs.Grammar.{◌>>=◌, index_in, layers_place, body_at}
use Rattle.graph_rows.specs.Stamps.{stamped}
use Rattle.graph_files.specs.Reading.{Fails}
use Rattle.graph_rows.specs.Index.{text_of}
use Rattle.graph_files.proofs.RowLoop.{fails_before, fails_along}
use Rattle.graph_files.proofs.Told.{gives_err, three_told}
use Rattle.graph_files.proofs.BodyLaws.{index_header, index_stamp, index_body}
use Rattle.graph_files.proofs.ReadLaws.{fronted, text_read, complete_read}
use Rattle.graph_files.proofs.read.read_index.Goals as goal

pub returns-in_err-header-clause-index : goal.returns-in_err-header-clause-index
returns-in_err-header-clause-index g c = told_then (g.F.Shelf.shown c.args.shelf.now).held c.in_err-header.ensures.header (λ files broken. gives_err _ c.from_residual.result c.in_err-header.field-0.0 _ c.from_residual.ensures.1 (index_header c.in_err-header.field-0.0 (bytes_of files c.args.name.now) broken))

pub returns-in_err-header-clause-complete : goal.returns-in_err-header-clause-complete
returns-in_err-header-clause-complete g c = complete_read (g.F.Shelf.shown c.args.shelf.now).held c.args.name.now c.from_residual.result (returns-in_err-header-clause-index g c)

pub returns-in_err-stamp-clause-index : goal.returns-in_err-stamp-clause-index
returns-in_err-stamp-clause-index g c = three_told (g.F.Shelf.shown c.args.shelf.now).held (g.F.Shelf.shown c.args.shelf.now).held (g.F.Shelf.shown c.args.shelf.now).held refl refl c.in_ok-header.ensures.header c.in_ok-header.ensures.shows c.in_ok-header.ensures.ends (λ files step shows ends.
    gives_err _ c.from_residual-in_err-stamp.result c.in_err-stamp.field-0.0 _ c.from_residual-in_err-stamp.ensures.1
    (index_stamp c.in_err-stamp.field-0.0 (bytes_of files c.args.name.now) c.in_ok-header.header step (c.in_err-stamp.ensures.stamp (bytes_of files c.args.name.now) shows ends)))

pub returns-in_err-stamp-clause-complete : goal.returns-in_err-stamp-clause-complete
returns-in_err-stamp-clause-complete g c = complete_read (g.F.Shelf.shown c.args.shelf.now).held c.args.name.now c.from_residual-in_err-stamp.result (returns-in_err-stamp-clause-index g c)

pub returns-in_err-index-clause-index : goal.returns-in_err-index-clause-index
returns-in_err-index-clause-index g c = both_told (g.F.Shelf.shown c.args.shelf.now).held (g.F.Shelf.shown c.read_header.new.shelf).held c.in_ok-header.ensures.only_reads.held
    (fronted (g.F.Shelf.shown c.args.shelf.now).held c.args.name.now c.read_header.new.window c.in_ok-header.header c.in_ok-stamp.stamp c.in_ok-header.ensures.header c.in_ok-header.ensures.shows c.in_ok-header.ensures.ends c.in_ok-header.ensures.bytes c.in_ok-stamp.ensures.stamp c.in_ok-stamp.ensures.bytes)
    c.in_err-index.ensures.body (λ files low broken.
    let file = bytes_of files c.args.name.now in
    let h = c.in_ok-header.header in
    let here : Fails c.in_err-index.field-0.0 (body_at h file (layers_place h.version)) = subst (λ k. Fails c.in_err-index.field-0.0 (body_at h file k)) c.place_of_layers-place.ensures.value broken in
    gives_err _ c.from_residual-in_err-index.result c.in_err-index.field-0.0 _ c.from_residual-in_err-index.ensures.1
    (fails_along c.in_err-index.field-0.0 _ (index_in file) (sym (index_body file h c.in_ok-stamp.stamp low.header low.stamp_is)) (fails_before c.in_err-index.field-0.0 (body_at h file (layers_place h.version)) (λ i. Ok (stamped c.in_ok-stamp.stamp i)) here)))

pub returns-in_err-index-clause-complete : goal.returns-in_err-index-clause-complete
returns-in_err-index-clause-complete g c = complete_read (g.F.Shelf.shown c.args.shelf.now).held c.args.name.now c.from_residual-in_err-index.result (returns-in_err-index-clause-index g c)

pub returns-clause-index : goal.returns-clause-index
returns-clause-index g c = both_told (g.F.Shelf.shown c.args.shelf.now).held (g.F.Shelf.shown c.read_header.new.shelf).held c.in_ok-header.ensures.only_reads.held
    (fronted (g.F.Shelf.shown c.args.shelf.now).held c.args.name.now c.read_header.new.window c.in_ok-header.header c.in_ok-stamp.stamp c.in_ok-header.ensures.header c.in_ok-header.ensures.shows c.in_ok-header.ensures.ends c.in_ok-header.ensures.bytes c.in_ok-stamp.ensures.stamp c.in_ok-stamp.ensures.bytes)
    c.in_ok-index.ensures.body (λ files low body.
    let file = bytes_of files c.args.name.now in
    let h = c.in_ok-header.header in
    index_body file h c.in_ok-stamp.stamp low.header low.stamp_is
    ∙ ap (λ r. r >>= (λ i. Ok (stamped c.in_ok-stamp.stamp i))) (ap (body_at h file) (sym c.place_of_layers-place.ensures.value) ∙ body)
    ∙ ap (λ i. Ok i) (sym c.with_stamp.ensures.value))

pub returns-clause-text : goal.returns-clause-text
returns-clause-text g c =
    told_then (g.F.Shelf.shown c.args.shelf.now).held
    (text_read (g.F.Shelf.shown c.args.shelf.now).held (g.F.Shelf.shown c.read_header.new.shelf).held c.args.name.now c.in_ok-header.header c.in_ok-stamp.stamp c.place_of_layers-place.result c.in_ok-header.ensures.only_reads.held c.place_of_layers-place.ensures.value
    (fronted (g.F.Shelf.shown c.args.shelf.now).held c.args.name.now c.read_header.new.window c.in_ok-header.header c.in_ok-stamp.stamp c.in_ok-header.ensures.header c.in_ok-header.ensures.shows c.in_ok-header.ensures.ends c.in_ok-header.ensures.bytes c.in_ok-stamp.ensures.stamp c.in_ok-stamp.ensures.bytes)
    (Ok c.in_ok-index.index) c.in_ok-index.ensures.body c.in_ok-index.ensures.bytes)
    (λ files is. is ∙ ap text_of (sym c.with_stamp.ensures.value))

pub returns-clause-complete : goal.returns-clause-complete
returns-clause-complete g c = complete_read (g.F.Shelf.shown c.args.shelf.now).held c.args.name.now (Ok c.with_stamp.result) (returns-clause-index g c)

pub returns-clause-only_reads : goal.returns-clause-only_reads
returns-clause-only_reads g c = only_reads_then _ _ _ _ c.in_ok-header.ensures.only_reads c.in_ok-index.ensures.only_reads (λ never. absurd cc)
