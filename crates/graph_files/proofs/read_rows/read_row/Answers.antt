use Rattle.std.proofs.Common.{◌+◌, ◌∙◌, [], arith, refl, sym}
use Rattle.ann_shelf.specs.Files.{bytes_of}
use Rattle.bin_files.proofs.Pieces.{told_then, both_told}
use Rattle.graph_files.specs.Grammar.{ids_at, row_at}
use Rattle.graph_rows.specs.Members.{holds}
use Rattle.graph_files.proofs.Told.{gives_err}
use Rattle.graph_files.proofs.RowLoop.{row_is, row_long, row_short, fails_along}
use Rattle.graph_files.proofs.read_rows.read_row.Goals as goal

pub returns-in_err-len-clause-row : goal.returns-in_err-len-clause-row
returns-in_err-len-clause-row g c = told_then (g.F.Shelf.shown c.args.shelf.now).held c.in_err-len.ensures.word (λ files short.
    gives_err _ c.from_residual.result c.in_err-len.field-0.0 _ c.from_residual.ensures.1 (row_short (holds c.args.members) c.args.own (bytes_of files c.args.name.now) c.in_err-len.field-0.0 c.args.bound c.args.at short))

pub returns-then-bound-len-clause-row : goal.returns-then-bound-len-clause-row
returns-then-bound-len-clause-row g c = told_then (g.F.Shelf.shown c.args.shelf.now).held c.in_ok-len.ensures.word (λ files word.
    row_long (holds c.args.members) c.args.own (bytes_of files c.args.name.now) c.args.bound c.args.at c.in_ok-len.len word (omega arith))

pub returns-clause-row : goal.returns-clause-row
returns-clause-row g c = both_told (g.F.Shelf.shown c.args.shelf.now).held (g.F.Shelf.shown c.word.new.shelf).held c.in_ok-len.ensures.only_reads.held c.in_ok-len.ensures.word c.in_ok-read_ids.ensures.ids (λ files word ids.
    row_is (holds c.args.members) c.args.own (bytes_of files c.args.name.now) c.args.bound c.args.at c.in_ok-len.len word (omega arith) ∙ ids)

pub returns-in_err-read_ids-clause-row : goal.returns-in_err-read_ids-clause-row
returns-in_err-read_ids-clause-row g c = both_told (g.F.Shelf.shown c.args.shelf.now).held (g.F.Shelf.shown c.word.new.shelf).held c.in_ok-len.ensures.only_reads.held c.in_ok-len.ensures.word c.in_err-read_ids.ensures.ids (λ files word ids.
    gives_err _ c.from_residual-in_err-read_ids.result c.in_err-read_ids.field-0.0 _ c.from_residual-in_err-read_ids.ensures.1 (fails_along c.in_err-read_ids.field-0.0 (ids_at (holds c.args.members) c.args.own (bytes_of files c.args.name.now) c.in_ok-len.len (c.args.at + 4) [])
    (row_at (holds c.args.members) c.args.bound c.args.own (bytes_of files c.args.name.now) c.args.at)
    (sym (row_is (holds c.args.members) c.args.own (bytes_of files c.args.name.now) c.args.bound c.args.at c.in_ok-len.len word (omega arith))) ids))

pub returns-then-read_shown-clause-row : goal.returns-then-read_shown-clause-row
returns-then-read_shown-clause-row g c = both_told (g.F.Shelf.shown c.args.shelf.now).held (g.F.Shelf.shown c.args.shelf.now).held refl c.in_ok-len.ensures.word c.in_ok-len.ensures.shows (λ files word shows.
    row_is (holds c.args.members) c.args.own (bytes_of files c.args.name.now) c.args.bound c.args.at c.in_ok-len.len word (omega arith) ∙ c.read_shown.ensures.ids c.if-read_shown.true (bytes_of files c.args.name.now) shows)
