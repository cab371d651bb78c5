use Rattle.std.proofs.Common.{arith, ◌-◌}
use Rattle.bin_files.proofs.Pieces.{told_then}
use Rattle.ann_shelf.specs.Files.{bytes_of}
use Rattle.graph_files.proofs.Shown.{shown_word, shown_bytes}
use Rattle.graph_files.proofs.window.Window.word.Goals as goal

pub returns-then-at-self-clause-word : goal.returns-then-at-self-clause-word
returns-then-at-self-clause-word g c = told_then (g.F.Shelf.shown c.args.shelf.now).held c.requires.shows (λ files shows.
    shown_word (bytes_of files c.args.name.now) c.args.self.now (c.args.at - c.args.self.now.from) c.args.at c.u32_le.result shows (omega arith) (omega arith) c.u32_le.ensures.value)

pub returns-clause-word : goal.returns-clause-word
returns-clause-word g c = told_then (g.F.Shelf.shown c.args.shelf.now).held c.move_to.ensures.shows (λ files shows.
    shown_word (bytes_of files c.args.name.now) c.move_to.new.self 0 c.args.at c.u32_le-2.result shows (omega arith) (omega (arith, c.in_ok-move_to.ensures.place)) c.u32_le-2.ensures.value)

pub returns-then-at-self-clause-bytes : goal.returns-then-at-self-clause-bytes
returns-then-at-self-clause-bytes g c = told_then (g.F.Shelf.shown c.args.shelf.now).held c.requires.shows (λ files shows.
    shown_bytes (bytes_of files c.args.name.now) c.args.self.now (c.args.at - c.args.self.now.from) c.args.at shows (omega arith) (omega arith) c.u32_le.ensures.are_bytes)

pub returns-clause-bytes : goal.returns-clause-bytes
returns-clause-bytes g c = told_then (g.F.Shelf.shown c.args.shelf.now).held c.move_to.ensures.shows (λ files shows.
    shown_bytes (bytes_of files c.args.name.now) c.move_to.new.self 0 c.args.at shows (omega arith) (omega (arith, c.in_ok-move_to.ensures.place)) c.u32_le-2.ensures.are_bytes)
