use Rattle.std.proofs.Common.{◌≡◌, ◌+◌, ◌*◌, ◌++◌, ◌∷◌, [], ◌<◌, ◌∙◌, length, take, set, arith, refl, ap, subst, None, Ok, ◌-◌, IfSome, length-set}
use Rattle.std.proofs.lemmas.List.{take_all}
use Rattle.ann_shelf.specs.Files.{bytes_of}
use Rattle.ann_shelf.proofs.Only.{only_reads_same, only_reads_then}
use Rattle.bin_files.proofs.Pieces.{told_then, both_told}
use Rattle.graph_files.specs.Grammar.{layer_ids_at, layer_id_fault}
use Rattle.graph_rows.specs.Members.{holds}
use Rattle.graph_files.specs.Reading.{Shows}
use Rattle.graph_files.proofs.Told.{gives_err}
use Rattle.graph_files.proofs.Shown.{bytes_more}
use Rattle.graph_files.proofs.RowLoop.{take_set_more}
use Rattle.graph_files.proofs.MembersLoop.{members_on, members_short, members_broken, members_done, members_push, below_push}
use Rattle.graph_files.proofs.read_layers.read_members.Goals as goal

pub loop-i-init : goal.loop-i-init
loop-i-init g c = record {
  ids = told_then (g.F.Shelf.shown c.args.shelf.now).held c.requires.shows (λ files shows.
      let at : c.args.at + 0 ≡ c.args.at = omega arith in
      let all : length c.args.ids.now - 0 ≡ length c.args.ids.now = omega arith in
      ap (λ n. layer_ids_at (holds c.args.below) (bytes_of files c.args.name.now) n (c.args.at + 0) 0 []) all
      ∙ ap (λ k. layer_ids_at (holds c.args.below) (bytes_of files c.args.name.now) (length c.args.ids.now) k 0 []) at);
  members = record { ascend = λ j k less last. absurd (omega arith); inside = λ k less. absurd (omega arith) };
  least = λ k less. absurd (omega arith);
  bytes = told_then (g.F.Shelf.shown c.args.shelf.now).held c.requires.shows (λ files shows i low high. absurd (omega arith));
  count = refl;
  shows = c.requires.shows;
  only_reads = only_reads_same _ _ (λ never. never);
}

pub returns-in_err-id-clause-ids : goal.returns-in_err-id-clause-ids
returns-in_err-id-clause-ids g c = both_told (g.F.Shelf.shown c.args.shelf.now).held (g.F.Shelf.shown c.loop-i.shelf).held c.loop-i.invariant.only_reads.held c.loop-i.invariant.ids c.in_err-id.ensures.word (λ files so_far short.
    gives_err _ c.from_residual.result c.in_err-id.field-0.0 _ c.from_residual.ensures.1 (members_short (holds c.args.below) (bytes_of files c.args.name.now) c.in_err-id.field-0.0 (length c.args.ids.now) c.loop-i.i (c.args.at + 4 * c.loop-i.i) c.loop-i.least (take c.loop-i.i c.loop-i.ids)
    (layer_ids_at (holds c.args.below) (bytes_of files c.args.name.now) (length c.args.ids.now) c.args.at 0 []) (omega arith) short so_far))

pub returns-in-Some-clause-ids : goal.returns-in-Some-clause-ids
returns-in-Some-clause-ids g c = both_told (g.F.Shelf.shown c.args.shelf.now).held (g.F.Shelf.shown c.loop-i.shelf).held c.loop-i.invariant.only_reads.held c.loop-i.invariant.ids c.in_ok-id.ensures.word (λ files so_far word.
    members_broken (holds c.args.below) (bytes_of files c.args.name.now) c.in-Some.fault (length c.args.ids.now) c.loop-i.i (c.args.at + 4 * c.loop-i.i) c.loop-i.least c.in_ok-id.id (take c.loop-i.i c.loop-i.ids)
    (layer_ids_at (holds c.args.below) (bytes_of files c.args.name.now) (length c.args.ids.now) c.args.at 0 []) (omega arith) word c.in-Some.ensures so_far)

pub loop-i-preserved : goal.loop-i-preserved
loop-i-preserved g c =
    let below = holds c.args.below in
    let i = c.loop-i.i in
    let id = c.in_ok-id.id in
    let sound : None ≡ layer_id_fault below (c.args.at + 4 * i) c.loop-i.least id = c.in-None.ensures in
    let in_ids : i < length c.loop-i.ids = omega arith in
    let grown : take (i + 1) (set c.loop-i.ids i id) ≡ take i c.loop-i.ids ++ id ∷ [] = take_set_more c.loop-i.ids i id in_ids in
    record {
      ids = both_told (g.F.Shelf.shown c.args.shelf.now).held (g.F.Shelf.shown c.loop-i.shelf).held c.loop-i.invariant.only_reads.held c.loop-i.invariant.ids c.in_ok-id.ensures.word (λ files so_far word.
          ap (λ xs. layer_ids_at below (bytes_of files c.args.name.now) (length c.args.ids.now - (i + 1)) (c.args.at + 4 * (i + 1)) (id + 1) xs) grown
          ∙ members_on below (bytes_of files c.args.name.now) (length c.args.ids.now) i (c.args.at + 4 * i) (c.args.at + 4 * (i + 1)) c.loop-i.least id (take i c.loop-i.ids)
          (layer_ids_at below (bytes_of files c.args.name.now) (length c.args.ids.now) c.args.at 0 []) (omega arith) (omega arith) word sound so_far);
      members = members_push below (c.args.at + 4 * i) c.loop-i.least id i c.loop-i.ids in_ids sound c.loop-i.invariant.least c.loop-i.invariant.members;
      least = below_push below (c.args.at + 4 * i) c.loop-i.least id i c.loop-i.ids in_ids sound c.loop-i.invariant.least;
      bytes = both_told (g.F.Shelf.shown c.args.shelf.now).held (g.F.Shelf.shown c.loop-i.shelf).held c.loop-i.invariant.only_reads.held c.loop-i.invariant.bytes c.in_ok-id.ensures.bytes (λ files so_far more.
          bytes_more (bytes_of files c.args.name.now) c.args.at (c.args.at + 4 * i) (c.args.at + 4 * i + 4) (c.args.at + 4 * (i + 1)) so_far more (omega arith));
      count = length-set c.loop-i.ids i id ∙ c.loop-i.invariant.count;
      shows = subst (λ o. IfSome o (λ files. Shows (bytes_of files c.args.name.now) c.word.new.self)) c.loop-i.invariant.only_reads.held c.in_ok-id.ensures.shows;
      only_reads = only_reads_then _ _ _ _ c.loop-i.invariant.only_reads c.in_ok-id.ensures.only_reads (λ never. absurd never);
    }

pub returns-clause-ids : goal.returns-clause-ids
returns-clause-ids g c = told_then (g.F.Shelf.shown c.args.shelf.now).held c.loop-i.invariant.ids (λ files so_far.
    members_done (holds c.args.below) (bytes_of files c.args.name.now) (length c.args.ids.now) c.loop-i.i (c.args.at + 4 * c.loop-i.i) c.loop-i.least (take c.loop-i.i c.loop-i.ids)
    (layer_ids_at (holds c.args.below) (bytes_of files c.args.name.now) (length c.args.ids.now) c.args.at 0 []) (omega arith) so_far
    ∙ ap (λ xs. Ok xs) (take_all c.loop-i.i c.loop-i.ids (omega arith)))
