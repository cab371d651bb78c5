use Rattle.std.proofs.Common.{◌≡◌, ◌+◌, ◌*◌, ◌++◌, ◌∷◌, [], ◌<◌, ◌∙◌, length, take, set, arith, sym, ap, subst, None, Ok, ◌-◌, IfSome, rules}
use Rattle.ann_shelf.specs.Files.{bytes_of}
use Rattle.ann_shelf.proofs.Only.{only_reads_same, only_reads_then}
use Rattle.bin_files.proofs.Pieces.{told_then, both_told}
use Rattle.graph_files.specs.Grammar.{ids_at, id_fault}
use Rattle.graph_rows.specs.Members.{holds}
use Rattle.graph_files.specs.Reading.{Shows}
use Rattle.graph_rows.specs.WellFormed.{IsRowIn}
use Rattle.graph_files.proofs.Shown.{bytes_more}
use Rattle.graph_files.proofs.Told.{gives_err}
use Rattle.graph_files.proofs.RowLoop.{ids_on, ids_short, ids_broken, ids_done, row_push, row_nil, take_set_more}
use Rattle.graph_files.proofs.read_rows.read_ids.Goals as goal

pub loop-i-init : goal.loop-i-init
loop-i-init g c = record {
  ids = told_then (g.F.Shelf.shown c.args.shelf.now).held c.requires.shows (λ files shows.
      let at : c.args.at + 0 ≡ c.args.at = omega arith in
      let all : c.args.len - 0 ≡ c.args.len = omega arith in
      ap (λ n. ids_at (holds c.args.members) c.args.own (bytes_of files c.args.name.now) n (c.args.at + 0) []) all
      ∙ ap (λ k. ids_at (holds c.args.members) c.args.own (bytes_of files c.args.name.now) c.args.len k []) at);
  row = row_nil (holds c.args.members) c.args.own;
  bytes = told_then (g.F.Shelf.shown c.args.shelf.now).held c.requires.shows (λ files shows i low high. absurd (omega arith));
  room = c.requires.room;
  shows = c.requires.shows;
  only_reads = only_reads_same _ _ (λ never. never);
}

pub returns-in_err-id-clause-ids : goal.returns-in_err-id-clause-ids
returns-in_err-id-clause-ids g c = both_told (g.F.Shelf.shown c.args.shelf.now).held (g.F.Shelf.shown c.loop-i.shelf).held c.loop-i.invariant.only_reads.held c.loop-i.invariant.ids c.in_err-id.ensures.word (λ files so_far short.
    gives_err (λ _. take c.args.len c.loop-i.ids) c.from_residual.result c.in_err-id.field-0.0 _ c.from_residual.ensures.1
    (ids_short (holds c.args.members) c.args.own (bytes_of files c.args.name.now) c.in_err-id.field-0.0 c.args.len c.loop-i.i (c.args.at + 4 * c.loop-i.i) (take c.loop-i.i c.loop-i.ids)
    (ids_at (holds c.args.members) c.args.own (bytes_of files c.args.name.now) c.args.len c.args.at []) (omega arith) short so_far))

pub returns-in-Some-clause-ids : goal.returns-in-Some-clause-ids
returns-in-Some-clause-ids g c = both_told (g.F.Shelf.shown c.args.shelf.now).held (g.F.Shelf.shown c.loop-i.shelf).held c.loop-i.invariant.only_reads.held c.loop-i.invariant.ids c.in_ok-id.ensures.word (λ files so_far word.
    ids_broken (holds c.args.members) c.args.own (bytes_of files c.args.name.now) c.in-Some.fault c.args.len c.loop-i.i (c.args.at + 4 * c.loop-i.i) c.in_ok-id.id (take c.loop-i.i c.loop-i.ids)
    (ids_at (holds c.args.members) c.args.own (bytes_of files c.args.name.now) c.args.len c.args.at []) (omega arith) word c.in-Some.ensures so_far)

pub loop-i-preserved : goal.loop-i-preserved
loop-i-preserved g c =
    let sound : None ≡ id_fault (holds c.args.members) c.args.own (c.args.at + 4 * c.loop-i.i) (take c.loop-i.i c.loop-i.ids) c.in_ok-id.id = c.in-None.ensures in
    let below : c.loop-i.i < length c.loop-i.ids = omega arith in
    let grown : take (c.loop-i.i + 1) (set c.loop-i.ids c.loop-i.i c.in_ok-id.id) ≡ take c.loop-i.i c.loop-i.ids ++ c.in_ok-id.id ∷ [] = take_set_more c.loop-i.ids c.loop-i.i c.in_ok-id.id below in
    record {
      ids = both_told (g.F.Shelf.shown c.args.shelf.now).held (g.F.Shelf.shown c.loop-i.shelf).held c.loop-i.invariant.only_reads.held c.loop-i.invariant.ids c.in_ok-id.ensures.word (λ files so_far word.
          ap (λ xs. ids_at (holds c.args.members) c.args.own (bytes_of files c.args.name.now) (c.args.len - (c.loop-i.i + 1)) (c.args.at + 4 * (c.loop-i.i + 1)) xs) grown
          ∙ ids_on (holds c.args.members) c.args.own (bytes_of files c.args.name.now) c.args.len c.loop-i.i (c.args.at + 4 * c.loop-i.i) (c.args.at + 4 * (c.loop-i.i + 1)) c.in_ok-id.id (take c.loop-i.i c.loop-i.ids)
          (ids_at (holds c.args.members) c.args.own (bytes_of files c.args.name.now) c.args.len c.args.at []) (omega arith) (omega arith) word sound so_far);
      row = subst (IsRowIn (holds c.args.members) (c.loop-i.i + 1) c.args.own) (sym grown) (row_push (holds c.args.members) c.loop-i.i c.args.own (c.args.at + 4 * c.loop-i.i) c.in_ok-id.id (take c.loop-i.i c.loop-i.ids) sound c.loop-i.invariant.row);
      bytes = both_told (g.F.Shelf.shown c.args.shelf.now).held (g.F.Shelf.shown c.loop-i.shelf).held c.loop-i.invariant.only_reads.held c.loop-i.invariant.bytes c.in_ok-id.ensures.bytes (λ files so_far more.
          bytes_more (bytes_of files c.args.name.now) c.args.at (c.args.at + 4 * c.loop-i.i) (c.args.at + 4 * c.loop-i.i + 4) (c.args.at + 4 * (c.loop-i.i + 1)) so_far more (omega arith));
      room = search rules;
      shows = subst (λ o. IfSome o (λ files. Shows (bytes_of files c.args.name.now) c.word.new.self)) c.loop-i.invariant.only_reads.held c.in_ok-id.ensures.shows;
      only_reads = only_reads_then _ _ _ _ c.loop-i.invariant.only_reads c.in_ok-id.ensures.only_reads (λ never. absurd never);
    }

pub returns-clause-ids : goal.returns-clause-ids
returns-clause-ids g c = told_then (g.F.Shelf.shown c.args.shelf.now).held c.loop-i.invariant.ids (λ files so_far.
    let is : c.loop-i.i ≡ c.args.len = omega arith in
    ids_done (holds c.args.members) c.args.own (bytes_of files c.args.name.now) c.args.len c.loop-i.i (c.args.at + 4 * c.loop-i.i) (take c.loop-i.i c.loop-i.ids)
    (ids_at (holds c.args.members) c.args.own (bytes_of files c.args.name.now) c.args.len c.args.at []) (omega arith) so_far
    ∙ ap (λ k. Ok (take k c.loop-i.ids)) is)
