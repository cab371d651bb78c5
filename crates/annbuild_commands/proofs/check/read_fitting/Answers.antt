use Rattle.std.proofs.Common.{◌∙◌, [], sym, refl, Some}
use Rattle.ann_shelf.specs.Files.{bytes_of}
use Rattle.bin_files.proofs.Pieces.{both_told}
use Rattle.graph_rows.specs.View.{contents}
use Rattle.ann_shelf.specs.Written.{Got}
use Rattle.command_shapes.specs.Ends.{Ends}
use Rattle.command_shapes.proofs.Told.{on_fault}
use Rattle.command_shapes.proofs.Ending.{fails_rest}
use Rattle.annbuild_commands.specs.Checking.{checking}
use Rattle.annbuild_commands.proofs.FailedReads.{fails_among}
use Rattle.annbuild_commands.proofs.Fits.{index_only, index_unfit_read}
use Rattle.annbuild_commands.proofs.check.read_fitting.Goals as goal

pub returns-in_err-both-clause-failed : goal.returns-in_err-both-clause-failed
returns-in_err-both-clause-failed g c =
    let names = c.args.request.now.names in
    let doing = checking names.first.now names.second.now c.args.request.now.settings in
    on_fault c.from_residual.result _ (λ fault. (had : Got) → Ends doing (g.F.Shelf.shown c.args.shelf.now) (g.F.Shelf.shown c.read_indexed.new.shelf) had had (Some fault)) c.from_residual.ensures.1
    (λ had. fails_among doing [] _ _ _ had _ refl c.in_err-both.ensures.failed)

pub returns-in-Some-clause-failed : goal.returns-in-Some-clause-failed
returns-in-Some-clause-failed g c had =
    let names = c.args.request.now.names in
    let both = c.in_ok-both.both in
    let indexed = c.in_ok-both.ensures.indexed in
    fails_rest (checking names.first.now names.second.now c.args.request.now.settings) _ _ had c.in-Some.fault (index_only both.points (contents both.index) c.in-Some.fault (sym c.in-Some.ensures)) c.in_ok-both.ensures.read
    (both_told _ _ refl indexed.points indexed.index (λ files of is.
    index_unfit_read c.args.request.now.settings.element (bytes_of files names.first.now) (bytes_of files names.second.now) both.points (contents both.index) of is ∙ sym c.in-Some.ensures))
