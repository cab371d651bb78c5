use Rattle.std.proofs.Common.{◌≡◌, ◌+◌, ◌*◌, ◌++◌, ◌∷◌, [], ◌<◌, length, take, arith, refl, subst, List, ℕ, IfSome, rules}
use Rattle.std.proofs.lemmas.List.{length-take-le}
use Rattle.ann_shelf.specs.Files.{bytes_of}
use Rattle.ann_shelf.proofs.Only.{only_reads_as, only_reads_then}
use Rattle.bin_files.proofs.Pieces.{told_always, both_told}
use Rattle.graph_files.specs.declared.fault.IndexFault.{IndexFault}
use Rattle.graph_files.specs.Grammar.{rows_at}
use Rattle.graph_files.specs.Reading.{Fails, Shows}
use Rattle.graph_rows.specs.Members.{holds, owns}
use Rattle.graph_files.proofs.RowsLoop.{rows_on, rows_broken}
use Rattle.graph_files.proofs.Told.{broken_err}
use Rattle.graph_files.proofs.row_room.see_room.Goals as goal

pub loop-i-init : goal.loop-i-init
loop-i-init g c = record {
  rows = told_always (g.F.Shelf.shown c.args.shelf.now).held (λ files. ([], refl));
  room = search rules;
  end = omega arith;
  shows = c.requires.shows;
  only_reads = only_reads_as _ _ _ c.in_ok-is_short.ensures.only_reads (λ never. absurd never);
}

pub returns-in_err-len-clause-broken : goal.returns-in_err-len-clause-broken
returns-in_err-len-clause-broken g c =
    let held = holds c.args.members in
    let own = owns c.args.members in
    broken_err c.from_residual-in_err-len.result c.in_err-len.field-0.0 (λ (fault : IndexFault). IfSome (g.F.Shelf.shown c.args.shelf.now).held (λ files. Fails fault (rows_at held c.args.bound (bytes_of files c.args.name.now) own c.args.at []))) c.from_residual-in_err-len.ensures.1
    (both_told (g.F.Shelf.shown c.args.shelf.now).held (g.F.Shelf.shown c.loop-i.shelf).held c.loop-i.invariant.only_reads.held c.loop-i.invariant.rows c.in_err-len.ensures.row (λ files so_far broken.
    rows_broken held c.args.bound (bytes_of files c.args.name.now) c.in_err-len.field-0.0 own c.loop-i.i c.loop-i.place c.at-own.result so_far.0
    (rows_at held c.args.bound (bytes_of files c.args.name.now) own c.args.at []) (omega (arith, c.count-i-end.ensures.owns)) c.at-own.ensures broken so_far.1))

pub loop-i-preserved : goal.loop-i-preserved
loop-i-preserved g c =
    let held = holds c.args.members in
    let own = owns c.args.members in
    let row : List ℕ = take c.in_ok-len.len c.read_row.new.ids in
    let in_own : c.loop-i.i < length own = omega (arith, c.count-i-end.ensures.owns) in
    let long : length row ≡ c.in_ok-len.len = length-take-le c.in_ok-len.len c.read_row.new.ids (omega (arith, c.in_ok-len.ensures.len)) in
    record {
      rows = both_told (g.F.Shelf.shown c.args.shelf.now).held (g.F.Shelf.shown c.loop-i.shelf).held c.loop-i.invariant.only_reads.held c.loop-i.invariant.rows c.in_ok-len.ensures.row (λ files so_far step. (
        so_far.0 ++ row ∷ [],
        rows_on held c.args.bound (bytes_of files c.args.name.now) own c.loop-i.i c.loop-i.place (c.loop-i.place + (4 + 4 * c.in_ok-len.len)) c.at-own.result row so_far.0
            (rows_at held c.args.bound (bytes_of files c.args.name.now) own c.args.at []) in_own c.at-own.ensures (omega (arith, long)) step so_far.1,
      ));
      room = search rules;
      end = omega (arith, c.in_ok-len.ensures.len);
      shows = subst (λ o. IfSome o (λ files. Shows (bytes_of files c.args.name.now) c.read_row.new.window)) c.loop-i.invariant.only_reads.held c.in_ok-len.ensures.shows;
      only_reads = only_reads_then _ _ _ _ c.loop-i.invariant.only_reads c.in_ok-len.ensures.only_reads (λ never. absurd never);
    }
