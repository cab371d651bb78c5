use Rattle.std.proofs.Common.{◌∙◌, [], ◌∷◌, sym, refl, subst, Some, IfSome}
use Rattle.ann_shelf.specs.Files.{bytes_of}
use Rattle.bin_files.proofs.Pieces.{both_told}
use Rattle.graph_rows.specs.View.{contents}
use Rattle.command_options.specs.declared.role.Role.TheVariants.{Base, Index, Queries}
use Rattle.ann_shelf.specs.Written.{Got}
use Rattle.command_shapes.specs.Ends.{Ends}
use Rattle.command_shapes.specs.Reading.{AreOf, IsOf, points_read}
use Rattle.command_shapes.proofs.Told.{on_fault, both_pair}
use Rattle.command_shapes.proofs.ReadFacts.{have_both}
use Rattle.command_shapes.proofs.Ending.{fails_at, fails_rest}
use Rattle.annbuild_commands.specs.Indexed.{indexed_reads}
use Rattle.annbuild_commands.specs.Querying.{querying}
use Rattle.annbuild_commands.proofs.FailedReads.{fails_among}
use Rattle.annbuild_commands.proofs.Fits.{unfit_only, unfit_read}
use Rattle.annbuild_commands.proofs.inputs.read_inputs.Goals as goal

pub returns-in_err-indexed-clause-failed : goal.returns-in_err-indexed-clause-failed
returns-in_err-indexed-clause-failed g c =
    let names = c.args.request.now.names in
    let doing = querying names.first.now names.second.now names.third.now c.args.request.now.settings in
    on_fault c.from_residual.result _ (λ fault. (had : Got) → Ends doing (g.F.Shelf.shown c.args.shelf.now) (g.F.Shelf.shown c.read_indexed.new.shelf) had had (Some fault)) c.from_residual.ensures.1
    (λ had. fails_among doing (points_read Queries names.third.now ∷ []) _ _ _ had _ refl c.in_err-indexed.ensures.failed)

pub returns-in_err-queries-clause-failed : goal.returns-in_err-queries-clause-failed
returns-in_err-queries-clause-failed g c =
    let names = c.args.request.now.names in
    let doing = querying names.first.now names.second.now names.third.now c.args.request.now.settings in
    let old = g.F.Shelf.shown c.args.shelf.now in
    let new = g.F.Shelf.shown c.read_points_of.new.shelf in
    on_fault c.from_residual-in_err-queries.result _ (λ fault. (had : Got) → Ends doing old new had had (Some fault)) c.from_residual-in_err-queries.ensures.1
    (λ had. fails_at doing (indexed_reads names.first.now names.second.now) [] (points_read Queries names.third.now) refl old (g.F.Shelf.shown c.read_indexed.new.shelf) new had _ c.in_ok-indexed.ensures.read c.in_err-queries.ensures.failed)

pub returns-in-Some-clause-failed : goal.returns-in-Some-clause-failed
returns-in-Some-clause-failed g c had =
    let names = c.args.request.now.names in
    let o = c.args.request.now.settings in
    let X = c.in_ok-indexed.indexed.points in
    let i = contents c.in_ok-indexed.indexed.index in
    let Q = c.in_ok-queries.queries in
    let old = g.F.Shelf.shown c.args.shelf.now in
    let mid = g.F.Shelf.shown c.read_indexed.new.shelf in
    let new = g.F.Shelf.shown c.read_points_of.new.shelf in
    let read = have_both (indexed_reads names.first.now names.second.now) (points_read Queries names.third.now ∷ []) old mid new c.in_ok-indexed.ensures.read c.in_ok-queries.ensures.read in
    fails_rest (querying names.first.now names.second.now names.third.now o) old new had c.in-Some.fault (unfit_only X i Q.vectors c.in-Some.fault (sym c.in-Some.ensures)) read
    (both_told old.held mid.held c.in_ok-indexed.ensures.read.only.held
    (both_pair (λ files. AreOf Base o.element (bytes_of files names.first.now) X) (λ files. IsOf Index (bytes_of files names.second.now) i) old.held old.held refl c.in_ok-indexed.ensures.indexed.points c.in_ok-indexed.ensures.indexed.index)
    c.in_ok-queries.ensures.points (λ files both of.
    unfit_read o (bytes_of files names.first.now) (bytes_of files names.second.now) (bytes_of files names.third.now) X Q i both.0 both.1 of ∙ sym c.in-Some.ensures))

pub returns-in-None-clause-queries : goal.returns-in-None-clause-queries
returns-in-None-clause-queries g c = subst (λ h. IfSome h (λ files. AreOf Queries c.args.request.now.settings.element (bytes_of files c.args.request.now.names.third.now) c.in_ok-queries.queries)) c.in_ok-indexed.ensures.read.only.held c.in_ok-queries.ensures.points

pub returns-in-None-clause-read : goal.returns-in-None-clause-read
returns-in-None-clause-read g c =
    let names = c.args.request.now.names in
    have_both (indexed_reads names.first.now names.second.now) (points_read Queries names.third.now ∷ []) (g.F.Shelf.shown c.args.shelf.now) (g.F.Shelf.shown c.read_indexed.new.shelf) (g.F.Shelf.shown c.read_points_of.new.shelf) c.in_ok-indexed.ensures.read c.in_ok-queries.ensures.read
