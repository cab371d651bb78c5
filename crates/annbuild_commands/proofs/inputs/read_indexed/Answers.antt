use Rattle.std.proofs.Common.{[], ◌∷◌, refl, subst, IfSome}
use Rattle.ann_shelf.specs.Files.{bytes_of}
use Rattle.graph_rows.specs.View.{contents}
use Rattle.command_options.specs.declared.role.Role.TheVariants.{Base, Index}
use Rattle.command_shapes.specs.Reading.{IsOf, points_read, index_read}
use Rattle.command_shapes.proofs.Told.{on_fault}
use Rattle.command_shapes.proofs.ReadFacts.{none_read, have_both}
use Rattle.annbuild_commands.specs.Indexed.{FailedAmong, indexed_reads}
use Rattle.annbuild_commands.proofs.inputs.read_indexed.Goals as goal

pub returns-in_err-points-clause-failed : goal.returns-in_err-points-clause-failed
returns-in_err-points-clause-failed g c =
    let names = c.args.request.now.names in
    let old = g.F.Shelf.shown c.args.shelf.now in
    on_fault c.from_residual.result _ (FailedAmong (indexed_reads names.first.now names.second.now) old (g.F.Shelf.shown c.read_points_of.new.shelf)) c.from_residual.ensures.1 (record {
      before = [];
      read = points_read Base names.first.now;
      behind = index_read Index names.second.now ∷ [];
      all = refl;
      mid = old;
      so_far = none_read old;
      failed = c.in_err-points.ensures.failed;
    })

pub returns-in_err-index-clause-failed : goal.returns-in_err-index-clause-failed
returns-in_err-index-clause-failed g c =
    let names = c.args.request.now.names in
    on_fault c.from_residual-in_err-index.result _ (FailedAmong (indexed_reads names.first.now names.second.now) (g.F.Shelf.shown c.args.shelf.now) (g.F.Shelf.shown c.read_index_of.new.shelf)) c.from_residual-in_err-index.ensures.1 (record {
      before = points_read Base names.first.now ∷ [];
      read = index_read Index names.second.now;
      behind = [];
      all = refl;
      mid = g.F.Shelf.shown c.read_points_of.new.shelf;
      so_far = c.in_ok-points.ensures.read;
      failed = c.in_err-index.ensures.failed;
    })

pub returns-clause-indexed : goal.returns-clause-indexed
returns-clause-indexed g c = record {
  points = c.in_ok-points.ensures.points;
  index = subst (λ h. IfSome h (λ files. IsOf Index (bytes_of files c.args.request.now.names.second.now) (contents c.in_ok-index.index))) c.in_ok-points.ensures.read.only.held c.in_ok-index.ensures.index;
  well_formed = c.in_ok-index.ensures.well_formed;
}

pub returns-clause-read : goal.returns-clause-read
returns-clause-read g c =
    have_both (points_read Base c.args.request.now.names.first.now ∷ []) (index_read Index c.args.request.now.names.second.now ∷ []) (g.F.Shelf.shown c.args.shelf.now) (g.F.Shelf.shown c.read_points_of.new.shelf) (g.F.Shelf.shown c.read_index_of.new.shelf) c.in_ok-points.ensures.read c.in_ok-index.ensures.read
