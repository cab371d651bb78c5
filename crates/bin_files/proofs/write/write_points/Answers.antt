use Rattle.std.proofs.Common.{◌≡◌, ◌++◌, [], ap, subst, inr, ◌∙◌, Some, IfSome}
use Rattle.std.proofs.lemmas.Result.{on_ok_weaker}
use Rattle.ann_shelf.specs.Files.{with_file}
use Rattle.ann_shelf.proofs.Grow.{grows_then, finished}
use Rattle.ann_shelf.proofs.Only.{only_writes_then}
use Rattle.ann_shelf.proofs.Results.{passed_on}
use Rattle.bin_files.specs.Points.{file_bytes, text}
use Rattle.bin_files.specs.Rows.{cells}
use Rattle.bin_files.proofs.write.write_points.Goals as goal

pub returns-in_err-append_all-clause-only_writes : goal.returns-in_err-append_all-clause-only_writes
returns-in_err-append_all-clause-only_writes g c =
    only_writes_then _ _ _ _ c.in_ok-begin.ensures.only_writes c.in_err-append_all.ensures.only_writes
    (λ told. inr (passed_on c.from_residual-in_err-append_all.result _ _ c.from_residual-in_err-append_all.ensures.1 told))

pub returns-in_err-append_points-clause-only_writes : goal.returns-in_err-append_points-clause-only_writes
returns-in_err-append_points-clause-only_writes g c =
    only_writes_then _ _ _ _ (only_writes_then _ _ _ _ c.in_ok-begin.ensures.only_writes c.in_ok-append_all.ensures.only_writes (λ told. inr told)) c.in_err-append_points.ensures.only_writes
    (λ told. inr (passed_on c.from_residual-in_err-append_points.result _ _ c.from_residual-in_err-append_points.ensures.1 told))

pub returns-clause-ok : goal.returns-clause-ok
returns-clause-ok g c =
    let X = c.args.points.now in
    let name = c.args.name.now in
    let body = file_bytes X.element (cells X.vectors) in
    let begun0 = (g.F.Shelf.shown c.args.shelf.now).begun in
    let begun1 = (g.F.Shelf.shown c.begin.new.self).begun in
    let begun2 = (g.F.Shelf.shown c.append_all.new.shelf).begun in
    let begun3 = (g.F.Shelf.shown c.append_points.new.shelf).begun in
    let header = c.header_of-header.result in
    let whole = grows_then begun0 begun2 begun3 name header body (grows_then begun0 begun1 begun2 name [] header c.in_ok-begin.ensures.ok c.in_ok-append_all.ensures.ok) c.in_ok-append_points.ensures.ok in
    on_ok_weaker _
    (finished begun0 begun3 (g.F.Shelf.shown c.args.shelf.now).held (g.F.Shelf.shown c.append_points.new.shelf).held (g.F.Shelf.shown c.finish.new.self).held name (text X)
    (g.met.F.Shelf.tells_begun c.args.shelf.now)
    (subst (λ t. IfSome begun0 (λ files. begun3 ≡ Some (with_file files name t))) (ap (λ h. h ++ body) c.header_of-header.ensures) whole)
    (c.in_ok-append_points.ensures.held ∙ c.in_ok-append_all.ensures.held ∙ c.in_ok-begin.ensures.held))
    c.finish.ensures.ok

pub returns-clause-only_writes : goal.returns-clause-only_writes
returns-clause-only_writes g c =
    only_writes_then _ _ _ _
    (only_writes_then _ _ _ _ (only_writes_then _ _ _ _ c.in_ok-begin.ensures.only_writes c.in_ok-append_all.ensures.only_writes (λ told. inr told)) c.in_ok-append_points.ensures.only_writes (λ told. inr told))
    c.finish.ensures.only_writes (λ told. inr told)
