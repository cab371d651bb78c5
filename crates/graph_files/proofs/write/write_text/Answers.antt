use Rattle.std.proofs.Common.{take, ap, inr}
use Rattle.ann_shelf.proofs.Only.{only_writes_then}
use Rattle.graph_rows.specs.Index.{Contents, layers_bytes, text_of}
use Rattle.graph_rows.specs.View.{contents}
use Rattle.graph_files.specs.Writing.{pending}
use Rattle.graph_files.proofs.Grown.{on_ok_both}
use Rattle.graph_files.proofs.IndexBytes.{adds_all, text_from}
use Rattle.graph_files.proofs.write.write_text.Goals as goal

pub returns-clause-ok : goal.returns-clause-ok
returns-clause-ok g c =
    let i : Contents = contents c.args.index.now in
    on_ok_both c.flush.result c.flush.ensures.ok c.flush.ensures.empty (λ added empty.
    adds_all (g.F.Shelf.shown c.args.shelf.now).begun (g.F.Shelf.shown c.write_body.new.shelf).begun (g.F.Shelf.shown c.flush.new.shelf).begun c.args.name.now
    (pending c.push_mark.new.self) (pending c.write_body.new.pieces) (pending c.flush.new.self) (layers_bytes i.layers) (text_of i)
    c.in_ok-write_body.ensures.ok added (ap (λ n. take n c.flush.new.self.bytes) empty)
    (text_from i (pending c.push_all.new.self) (pending c.new-pieces.result) (pending c.push_mark.new.self) c.header_of.result c.push_all.ensures.bytes c.new-pieces.ensures.empty c.header_of.ensures c.push_mark.ensures.bytes))

pub returns-clause-only_writes : goal.returns-clause-only_writes
returns-clause-only_writes g c = only_writes_then _ _ _ _ c.in_ok-write_body.ensures.only_writes c.flush.ensures.only_writes (λ told. inr told)
