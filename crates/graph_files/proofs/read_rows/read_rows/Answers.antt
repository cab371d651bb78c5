use Rattle.std.proofs.Common.{◌≡◌, ◌+◌, ◌*◌, ◌++◌, ◌∷◌, [], ◌<◌, ◌∙◌, length, take, drop, set, arith, sym, ap, subst, List, ℕ, Ok, IfSome, rules, length-set}
use Rattle.std.proofs.lemmas.List.{length-take-le, take_all}
use Rattle.ann_shelf.specs.Files.{bytes_of}
use Rattle.ann_shelf.proofs.Only.{only_reads_then}
use Rattle.graph_rows.specs.Flat.{Flat}
use Rattle.bin_files.proofs.Pieces.{told_then, both_told}
use Rattle.graph_files.specs.Grammar.{rows_at}
use Rattle.graph_rows.specs.Members.{holds, owns, AreRows}
use Rattle.graph_rows.specs.WellFormed.{IsRowIn}
use Rattle.graph_files.proofs.Told.{gives_err}
use Rattle.graph_files.proofs.Shown.{bytes_on}
use Rattle.graph_files.specs.Reading.{Shows}
use Rattle.graph_files.proofs.RowLoop.{take_rows_more}
use Rattle.graph_files.proofs.RowsLoop.{rows_on, rows_broken, rows_done, rows_sound}
use Rattle.graph_files.proofs.read_rows.read_rows.Goals as goal

pub returns-in_err-len-clause-rows : goal.returns-in_err-len-clause-rows
returns-in_err-len-clause-rows g c = both_told (g.F.Shelf.shown c.args.shelf.now).held (g.F.Shelf.shown c.loop-i.shelf).held c.loop-i.invariant.only_reads.held c.loop-i.invariant.rows c.in_err-len.ensures.row (λ files so_far broken.
    gives_err _ c.from_residual.result c.in_err-len.field-0.0 _ c.from_residual.ensures.1 (rows_broken (holds c.args.members) c.args.bound (bytes_of files c.args.name.now) c.in_err-len.field-0.0 (owns c.args.members) c.loop-i.i c.loop-i.place c.at-own.result (take c.loop-i.i c.loop-i.graph.rows)
    (rows_at (holds c.args.members) c.args.bound (bytes_of files c.args.name.now) (owns c.args.members) c.args.at []) (omega (arith, c.count-i-end.ensures)) c.at-own.ensures broken so_far))

pub loop-i-preserved : goal.loop-i-preserved
loop-i-preserved g c =
    let held = holds c.args.members in
    let own = owns c.args.members in
    let i = c.loop-i.i in
    let row : List ℕ = take c.in_ok-len.len c.read_row.new.ids in
    let in_rows : i < length c.loop-i.graph.rows = omega (arith, c.count-i-end.ensures) in
    let in_own : i < length own = omega (arith, c.count-i-end.ensures) in
    let long : length row ≡ c.in_ok-len.len = length-take-le c.in_ok-len.len c.read_row.new.ids (omega (arith, c.in_ok-len.ensures.len)) in
    let is : c.set_row.new.self.rows ≡ set c.loop-i.graph.rows i row = ap (λ (g : Flat). g.rows) c.set_row.ensures in
    let grown : take (i + 1) c.set_row.new.self.rows ≡ take i c.loop-i.graph.rows ++ row ∷ [] = ap (take (i + 1)) is ∙ take_rows_more c.loop-i.graph.rows i row in_rows in
    record {
      rows = both_told (g.F.Shelf.shown c.args.shelf.now).held (g.F.Shelf.shown c.loop-i.shelf).held c.loop-i.invariant.only_reads.held c.loop-i.invariant.rows c.in_ok-len.ensures.row (λ files so_far step.
          ap (λ xs. rows_at held c.args.bound (bytes_of files c.args.name.now) (drop (i + 1) own) (c.loop-i.place + (4 + 4 * c.in_ok-len.len)) xs) grown
          ∙ rows_on held c.args.bound (bytes_of files c.args.name.now) own i c.loop-i.place (c.loop-i.place + (4 + 4 * c.in_ok-len.len)) c.at-own.result row (take i c.loop-i.graph.rows)
          (rows_at held c.args.bound (bytes_of files c.args.name.now) own c.args.at []) in_own c.at-own.ensures (omega (arith, long)) step so_far);
      sound = subst (AreRows held c.args.bound own (i + 1)) (sym is) (rows_sound held c.args.bound [] own i row c.loop-i.graph.rows in_rows
          (subst (λ k. IsRowIn held c.args.bound k row) c.at-own.ensures c.in_ok-len.ensures.is_row) c.loop-i.invariant.sound);
      bytes = both_told (g.F.Shelf.shown c.args.shelf.now).held (g.F.Shelf.shown c.loop-i.shelf).held c.loop-i.invariant.only_reads.held c.loop-i.invariant.bytes c.in_ok-len.ensures.bytes (λ files so_far more.
          bytes_on (bytes_of files c.args.name.now) c.args.at c.loop-i.place (c.loop-i.place + (4 + 4 * c.in_ok-len.len)) so_far more);
      width = ap (λ (g : Flat). g.width) c.set_row.ensures ∙ c.loop-i.invariant.width;
      count = ap length is ∙ length-set c.loop-i.graph.rows i row ∙ c.loop-i.invariant.count;
      room = search rules;
      end = omega (arith, c.in_ok-len.ensures.len);
      shows = subst (λ o. IfSome o (λ files. Shows (bytes_of files c.args.name.now) c.read_row.new.window)) c.loop-i.invariant.only_reads.held c.in_ok-len.ensures.shows;
      only_reads = only_reads_then _ _ _ _ c.loop-i.invariant.only_reads c.in_ok-len.ensures.only_reads (λ never. absurd never);
    }

pub returns-clause-rows : goal.returns-clause-rows
returns-clause-rows g c = told_then (g.F.Shelf.shown c.args.shelf.now).held c.loop-i.invariant.rows (λ files so_far.
    let all : take c.loop-i.i c.loop-i.graph.rows ≡ c.loop-i.graph.rows = take_all c.loop-i.i c.loop-i.graph.rows (omega (arith, c.count-i-end.ensures)) in
    rows_done (holds c.args.members) c.args.bound (bytes_of files c.args.name.now) (owns c.args.members) c.loop-i.i c.loop-i.place (take c.loop-i.i c.loop-i.graph.rows)
    (rows_at (holds c.args.members) c.args.bound (bytes_of files c.args.name.now) (owns c.args.members) c.args.at []) (omega (arith, c.count-i-end.ensures)) so_far
    ∙ ap (λ rows. Ok (rows, c.loop-i.place)) all)
