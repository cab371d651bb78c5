use Rattle.std.proofs.Common.{◌∙◌, [], ◌∷◌, sym, refl, subst, Some, IfSome}
use Rattle.ann_shelf.specs.Files.{bytes_of}
use Rattle.ann_shelf.specs.Written.{Got}
use Rattle.bin_files.proofs.Pieces.{both_told}
use Rattle.command_options.specs.declared.role.Role.TheVariants.{Base, Queries}
use Rattle.command_shapes.specs.Ends.{Ends}
use Rattle.command_shapes.specs.Reading.{AreOf, points_read}
use Rattle.command_shapes.proofs.Told.{on_fault}
use Rattle.command_shapes.proofs.ReadFacts.{none_read, have_both}
use Rattle.command_shapes.proofs.Ending.{fails_at, fails_rest}
use Rattle.annbuild_commands.specs.Living.{living, live_refusal}
use Rattle.annbuild_commands.proofs.LiveFacts.{live_fault}
use Rattle.annbuild_commands.proofs.live_inputs.read_live.Goals as goal

pub returns-in_err-points-clause-failed : goal.returns-in_err-points-clause-failed
returns-in_err-points-clause-failed g c =
    let names = c.args.request.now.names in
    let doing = living names.first.now names.second.now names.third.now c.args.request.now.settings in
    let old = g.F.Shelf.shown c.args.shelf.now in
    on_fault c.from_residual.result _ (λ fault. (had : Got) → Ends doing old (g.F.Shelf.shown c.read_points_of.new.shelf) had had (Some fault)) c.from_residual.ensures.1
    (λ had. fails_at doing [] (points_read Queries names.third.now ∷ []) (points_read Base names.first.now) refl old old (g.F.Shelf.shown c.read_points_of.new.shelf) had _ (none_read old) c.in_err-points.ensures.failed)

pub returns-in_err-queries-clause-failed : goal.returns-in_err-queries-clause-failed
returns-in_err-queries-clause-failed g c =
    let names = c.args.request.now.names in
    let doing = living names.first.now names.second.now names.third.now c.args.request.now.settings in
    let old = g.F.Shelf.shown c.args.shelf.now in
    on_fault c.from_residual-in_err-queries.result _ (λ fault. (had : Got) → Ends doing old (g.F.Shelf.shown c.read_points_of-2.new.shelf) had had (Some fault)) c.from_residual-in_err-queries.ensures.1
    (λ had. fails_at doing (points_read Base names.first.now ∷ []) [] (points_read Queries names.third.now) refl old (g.F.Shelf.shown c.read_points_of.new.shelf) (g.F.Shelf.shown c.read_points_of-2.new.shelf) had _ c.in_ok-points.ensures.read c.in_err-queries.ensures.failed)

pub returns-in-Err-clause-failed : goal.returns-in-Err-clause-failed
returns-in-Err-clause-failed g c had =
    let names = c.args.request.now.names in
    let o = c.args.request.now.settings in
    let X = c.in_ok-points.points in
    let Q = c.in_ok-queries.queries in
    let old = g.F.Shelf.shown c.args.shelf.now in
    let mid = g.F.Shelf.shown c.read_points_of.new.shelf in
    let new = g.F.Shelf.shown c.read_points_of-2.new.shelf in
    let read = have_both (points_read Base names.first.now ∷ []) (points_read Queries names.third.now ∷ []) old mid new c.in_ok-points.ensures.read c.in_ok-queries.ensures.read in
    fails_rest (living names.first.now names.second.now names.third.now o) old new had c.in-Err.fault (live_fault X.vectors Q.vectors o c.in-Err.fault c.in-Err.ensures.err) read
    (both_told old.held mid.held c.in_ok-points.ensures.read.only.held c.in_ok-points.ensures.points c.in_ok-queries.ensures.points (λ files of asked.
    (λ i. live_refusal (sym of.points_are i).vectors (sym asked.points_are i).vectors o) ∙ c.in-Err.ensures.err))

pub returns-in-Ok-clause-queries : goal.returns-in-Ok-clause-queries
returns-in-Ok-clause-queries g c = subst (λ h. IfSome h (λ files. AreOf Queries c.args.request.now.settings.element (bytes_of files c.args.request.now.names.third.now) c.in_ok-queries.queries)) c.in_ok-points.ensures.read.only.held c.in_ok-queries.ensures.points

pub returns-in-Ok-clause-read : goal.returns-in-Ok-clause-read
returns-in-Ok-clause-read g c =
    let names = c.args.request.now.names in
    have_both (points_read Base names.first.now ∷ []) (points_read Queries names.third.now ∷ []) (g.F.Shelf.shown c.args.shelf.now) (g.F.Shelf.shown c.read_points_of.new.shelf) (g.F.Shelf.shown c.read_points_of-2.new.shelf) c.in_ok-points.ensures.read c.in_ok-queries.ensures.read
