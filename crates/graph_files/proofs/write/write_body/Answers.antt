use Rattle.std.proofs.Common.{List, subst, inr}
use Rattle.ann_shelf.proofs.Only.{only_writes_then}
use Rattle.graph_rows.specs.Layers.{Layered}
use Rattle.graph_files.specs.Writing.{pending, Adds}
use Rattle.graph_files.proofs.Grown.{on_ok_then}
use Rattle.graph_files.proofs.IndexBytes.{upper_bytes, body_added}
use Rattle.graph_files.proofs.write.write_body.Goals as goal

pub returns-clause-ok : goal.returns-clause-ok
returns-clause-ok g c =
    on_ok_then c.write_layers.result c.write_layers.ensures.ok (λ layers.
    body_added (g.F.Shelf.shown c.args.shelf.now).begun (g.F.Shelf.shown c.write_rows.new.shelf).begun (g.F.Shelf.shown c.write_layers.new.shelf).begun c.args.name.now (pending c.args.pieces.now) (pending c.write_rows.new.pieces) (pending c.write_layers.new.pieces)
    c.args.index.now.base.rows c.args.index.now.upper.items c.in_ok-write_rows.ensures.ok
    (subst (λ (ls : List Layered). Adds (g.F.Shelf.shown c.write_rows.new.shelf).begun (g.F.Shelf.shown c.write_layers.new.shelf).begun c.args.name.now (pending c.write_rows.new.pieces) (pending c.write_layers.new.pieces) (upper_bytes ls)) c.deref.ensures.value layers))

pub returns-clause-only_writes : goal.returns-clause-only_writes
returns-clause-only_writes g c = only_writes_then _ _ _ _ c.in_ok-write_rows.ensures.only_writes c.write_layers.ensures.only_writes (λ told. inr told)
