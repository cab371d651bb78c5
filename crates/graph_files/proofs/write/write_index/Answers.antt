use Rattle.std.proofs.Common.{◌∙◌, [], inr}
use Rattle.ann_shelf.proofs.Grow.{grows_then, finished}
use Rattle.ann_shelf.proofs.Only.{only_writes_then}
use Rattle.ann_shelf.proofs.Results.{passed_on}
use Rattle.graph_rows.specs.Index.{text_of}
use Rattle.graph_rows.specs.View.{contents}
use Rattle.graph_files.proofs.Grown.{on_ok_then}
use Rattle.graph_files.proofs.write.write_index.Goals as goal

pub returns-in_err-write_text-clause-only_writes : goal.returns-in_err-write_text-clause-only_writes
returns-in_err-write_text-clause-only_writes g c =
    only_writes_then _ _ _ _ c.in_ok-begin.ensures.only_writes c.in_err-write_text.ensures.only_writes (λ told. inr (passed_on c.from_residual-in_err-write_text.result _ _ c.from_residual-in_err-write_text.ensures.1 told))

pub returns-clause-ok : goal.returns-clause-ok
returns-clause-ok g c =
    let text = text_of (contents c.args.index.now) in
    on_ok_then c.finish.result c.finish.ensures.ok (λ end.
    finished (g.F.Shelf.shown c.args.shelf.now).begun (g.F.Shelf.shown c.write_text.new.shelf).begun (g.F.Shelf.shown c.args.shelf.now).held (g.F.Shelf.shown c.write_text.new.shelf).held (g.F.Shelf.shown c.finish.new.self).held c.args.name.now text
    (g.met.F.Shelf.tells_begun c.args.shelf.now)
    (grows_then (g.F.Shelf.shown c.args.shelf.now).begun (g.F.Shelf.shown c.begin.new.self).begun (g.F.Shelf.shown c.write_text.new.shelf).begun c.args.name.now [] text c.in_ok-begin.ensures.ok c.in_ok-write_text.ensures.ok)
    (c.in_ok-write_text.ensures.held ∙ c.in_ok-begin.ensures.held) end)

pub returns-clause-only_writes : goal.returns-clause-only_writes
returns-clause-only_writes g c =
    only_writes_then _ _ _ _ (only_writes_then _ _ _ _ {R = ⊥} c.in_ok-begin.ensures.only_writes c.in_ok-write_text.ensures.only_writes (λ never. absurd never))
    c.finish.ensures.only_writes (λ told. inr told)
