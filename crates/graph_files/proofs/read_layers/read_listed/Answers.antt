use Rattle.std.proofs.Common.{◌≡◌, ◌∙◌, [], length, sym, ap, arith, Ok}
use Rattle.std.proofs.lemmas.List.{take_at}
use Rattle.ann_shelf.specs.Files.{bytes_of}
use Rattle.bin_files.proofs.Pieces.{told_then}
use Rattle.graph_files.specs.Grammar.{layer_ids_at}
use Rattle.graph_rows.specs.Members.{holds}
use Rattle.graph_files.proofs.read_layers.read_listed.Goals as goal

pub returns-clause-ids : goal.returns-clause-ids
returns-clause-ids g c = told_then (g.F.Shelf.shown c.args.shelf.now).held c.in_ok-read_members.ensures.ids (λ files step.
    let n : length c.deref_mut.result.now ≡ c.args.count = omega (arith, c.deref_mut.ensures.len, c.in-Ok.ensures.len) in
    let m : length c.read_members.new.ids ≡ c.in-Ok.ids.len = omega (arith, c.deref_mut.ensures.len, c.read_members.auto.ids) in
    ap (λ k. layer_ids_at (holds c.args.below) (bytes_of files c.args.name.now) k c.args.at 0 []) (sym n) ∙ step ∙ ap (λ xs. Ok xs) (sym (take_at c.read_members.new.ids _ c.in-Ok.ids.len m)))
