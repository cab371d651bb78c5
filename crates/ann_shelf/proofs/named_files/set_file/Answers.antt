use Rattle.std.proofs.Common.{ap, ◌∙◌}
use Rattle.ann_shelf.proofs.Places.{files_of-change, files_of-push}
use Rattle.ann_shelf.specs.NamedFiles.{files_of}
use Rattle.ann_shelf.proofs.named_files.set_file.Goals as goal

pub returns-in-Some-clause-ok : goal.returns-in-Some-clause-ok
returns-in-Some-clause-ok c =
    files_of-change c.args.name.now c.args.files.now.items c.in-Some.i c.index_mut.result.now c.args.bytes (rw c.deref.ensures.value at c.in-Some.ensures.place) c.index_mut.ensures.value

pub returns-in_ok-push-in-None-clause-ok : goal.returns-in_ok-push-in-None-clause-ok
returns-in_ok-push-in-None-clause-ok c =
    ap files_of c.in_ok-push-in-None.ensures.items
    ∙ files_of-push c.args.name.now c.args.files.now.items (c.in_ok-key-in-None.key, c.args.bytes) (rw c.deref.ensures.value at c.in-None.ensures.place) c.in_ok-key-in-None.ensures.ok
