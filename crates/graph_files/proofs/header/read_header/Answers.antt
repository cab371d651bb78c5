use Rattle.std.proofs.Common.{◌∙◌, arith, length-drop}
use Rattle.ann_shelf.specs.Files.{bytes_of}
use Rattle.bin_files.proofs.Pieces.{told_then}
use Rattle.graph_files.proofs.HeaderLaws.{shown_header, header_short, header_form, header_limit, header_sound}
use Rattle.graph_files.proofs.Shown.{shown_all}
use Rattle.graph_files.proofs.header.read_header.Goals as goal

pub returns-then-window-lt32-clause-header : goal.returns-then-window-lt32-clause-header
returns-then-window-lt32-clause-header g c = told_then (g.F.Shelf.shown c.args.shelf.now).held c.in_ok-move_to.ensures.ends (λ files ends.
    header_short (bytes_of files c.args.name.now) c.move_to.new.self.len (omega arith) (ends (omega arith)))

pub returns-in-Some-clause-header : goal.returns-in-Some-clause-header
returns-in-Some-clause-header g c = told_then (g.F.Shelf.shown c.args.shelf.now).held c.in_ok-move_to.ensures.shows (λ files shows.
    header_form (bytes_of files c.args.name.now) c.header_of-header.result c.in-Some.fault (omega (arith, shows.within, c.in_ok-move_to.ensures.place, length-drop c.move_to.new.self.from (bytes_of files c.args.name.now)))
    (c.header_of-header.ensures.value ∙ shown_header (bytes_of files c.args.name.now) c.move_to.new.self shows c.in_ok-move_to.ensures.place (omega arith)) c.in-Some.ensures)

pub returns-in-Some-limit_of-clause-header : goal.returns-in-Some-limit_of-clause-header
returns-in-Some-limit_of-clause-header g c = told_then (g.F.Shelf.shown c.args.shelf.now).held c.in_ok-move_to.ensures.shows (λ files shows.
    header_limit (bytes_of files c.args.name.now) c.header_of-header.result c.in-Some-limit_of.fault (omega (arith, shows.within, c.in_ok-move_to.ensures.place, length-drop c.move_to.new.self.from (bytes_of files c.args.name.now)))
    (c.header_of-header.ensures.value ∙ shown_header (bytes_of files c.args.name.now) c.move_to.new.self shows c.in_ok-move_to.ensures.place (omega arith)) c.in-None.ensures c.in-Some-limit_of.ensures)

pub returns-in-None-limit_of-clause-header : goal.returns-in-None-limit_of-clause-header
returns-in-None-limit_of-clause-header g c = told_then (g.F.Shelf.shown c.args.shelf.now).held c.in_ok-move_to.ensures.shows (λ files shows.
    header_sound (bytes_of files c.args.name.now) c.header_of-header.result (omega (arith, shows.within, c.in_ok-move_to.ensures.place, length-drop c.move_to.new.self.from (bytes_of files c.args.name.now)))
    (c.header_of-header.ensures.value ∙ shown_header (bytes_of files c.args.name.now) c.move_to.new.self shows c.in_ok-move_to.ensures.place (omega arith)) c.in-None.ensures c.in-None-limit_of.ensures)

pub returns-in-None-limit_of-clause-bytes : goal.returns-in-None-limit_of-clause-bytes
returns-in-None-limit_of-clause-bytes g c = told_then (g.F.Shelf.shown c.args.shelf.now).held c.in_ok-move_to.ensures.shows (λ files shows.
    shown_all (bytes_of files c.args.name.now) c.move_to.new.self 32 shows c.in_ok-move_to.ensures.place (omega arith) c.header_of-header.ensures.are_bytes)
