use Rattle.std.proofs.Common.{rules, ◌≡◌, ◌∙◌, [], inl, inr, refl, sym, subst, ap, length, Some, None, IfSome}
use Rattle.std.specs.Prelude.{◌⊎◌}
use Rattle.std.proofs.lemmas.Result.{IfErr-weaker}
use Rattle.ann_shelf.specs.Files.{bytes_of}
use Rattle.bin_files.proofs.Pieces.{told_then}
use Rattle.ann_defs.specs.Distance.{PointSet}
use Rattle.ann_defs.specs.declared.limits.TheConstants.{MAX_WORDS}
use Rattle.ann_shelf.specs.declared.slip.Quantity.TheVariants.{Words}
use Rattle.graph_rows.specs.View.{contents}
use Rattle.command_options.specs.declared.role.Role.TheVariants.{Base}
use Rattle.annbuild_lines.specs.declared.fault.Fault.TheVariants.{NoMemory}
use Rattle.ann_shelf.specs.Written.{Got}
use Rattle.command_shapes.specs.Ends.{Ends}
use Rattle.command_shapes.specs.Reading.{points_read}
use Rattle.command_shapes.proofs.Told.{on_fault}
use Rattle.command_shapes.proofs.ReadFacts.{none_read}
use Rattle.command_shapes.proofs.Ending.{fails_at, fails_rest, fails_memory}
use Rattle.annbuild_commands.specs.Building.{building, IsIndexOf}
use Rattle.index_build.specs.Limits.{words_refusal}
use Rattle.index_build.specs.IndexOf.{index_of, words_of}
use Rattle.command_options.specs.declared.verb.Verb.TheVariants as verbs
use Rattle.annbuild_commands.proofs.IndexFacts.{limit_fault, both_ok, for_build}
use Rattle.command_shapes.proofs.Refusals.{points_text}
use Rattle.annbuild_commands.proofs.build.prepared.Goals as goal

pub returns-in_err-points-clause-failed : goal.returns-in_err-points-clause-failed
returns-in_err-points-clause-failed g c = on_fault c.from_residual.result _
    (λ fault. (had : Got) → Ends (building c.args.request.now.names.first.now c.args.request.now.names.second.now c.args.request.now.settings) (g.F.Shelf.shown c.args.shelf.now) (g.F.Shelf.shown c.read_points_of.new.shelf) had had (Some fault)) c.from_residual.ensures.1
    (λ had. fails_at (building c.args.request.now.names.first.now c.args.request.now.names.second.now c.args.request.now.settings) [] [] (points_read Base c.args.request.now.names.first.now) refl (g.F.Shelf.shown c.args.shelf.now) (g.F.Shelf.shown c.args.shelf.now) (g.F.Shelf.shown c.read_points_of.new.shelf) had _ (none_read (g.F.Shelf.shown c.args.shelf.now)) c.in_err-points.ensures.failed)

pub index_for-requires : goal.index_for-requires
index_for-requires g c = let h = for_build verbs.Build c.args.request.now.settings refl c.requires in search rules

pub returns-clause-failed : goal.returns-clause-failed
returns-clause-failed g c =
    let o = c.args.request.now.settings in
    let first = c.args.request.now.names.first.now in
    let points = c.in_ok-points.points in
    let doing = building first c.args.request.now.names.second.now o in
    let old = g.F.Shelf.shown c.args.shelf.now in
    let new = g.F.Shelf.shown c.read_points_of.new.shelf in
    IfErr-weaker c.index_for.result (λ fault. (words_refusal (words_of (length points.vectors) o) ≡ Some fault) ⊎ (fault ≡ NoMemory)) (λ fault. (had : Got) → Ends doing old new had had (Some fault))
    (λ fault why had. elim why as (λ _. Ends doing old new had had (Some fault)) [
      | inl over ↦ fails_rest doing old new had fault (limit_fault Words (words_of (length points.vectors) o) MAX_WORDS fault over) c.in_ok-points.ensures.read
          (told_then old.held c.in_ok-points.ensures.points (λ files of. ap (λ (X : PointSet). words_refusal (words_of (length X.vectors) o)) (sym of.points_are) ∙ over))
      | inr is ↦ subst (λ f. Ends doing old new had had (Some f)) (sym is) (fails_memory doing old new had c.in_ok-points.ensures.read.only.held)
    ]) c.index_for.ensures.failed

pub returns-clause-index : goal.returns-clause-index
returns-clause-index g c =
    let o = c.args.request.now.settings in
    let first = c.args.request.now.names.first.now in
    let points = c.in_ok-points.points in
    let old = g.F.Shelf.shown c.args.shelf.now in
    both_ok c.index_for.result (words_refusal (words_of (length points.vectors) o) ≡ None) (λ i. contents i ≡ index_of points o) (λ i. IfSome old.held (λ files. IsIndexOf (bytes_of files first) o (contents i)))
    (λ i fits is. told_then old.held c.in_ok-points.ensures.points (λ files of. record {
      accepted = of.accepted;
      fits = ap (λ (X : PointSet). words_refusal (words_of (length X.vectors) o)) (sym of.points_are) ∙ fits;
      meant = points_text Base o.element (bytes_of files first) points of;
      index_is = is ∙ ap (λ (X : PointSet). index_of X o) of.points_are;
    })) c.index_for.ensures.fits c.index_for.ensures.index
