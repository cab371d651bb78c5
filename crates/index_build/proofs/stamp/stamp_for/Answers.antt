use Rattle.std.proofs.Common.{sym, subst}
use Rattle.graph_rows.specs.declared.stamp.Stamp.{Stamp}
use Rattle.graph_rows.specs.Stamps.{IsStamp}
use Rattle.graph_rows.specs.View.{kind_code}
use Rattle.index_build.proofs.StampFacts.{Fits, allowed}
use Rattle.index_build.proofs.stamp.stamp_for.Goals as goal

pub returns-clause-allowed : goal.returns-clause-allowed
returns-clause-allowed c =
    let X = c.args.points.now in
    let o = c.args.settings.now in
    let fits : Fits c.stamp_of-stamp.result = record { seed = c.fits.ensures.seed; floor = c.fits.ensures.floor; long = c.fits.ensures.long; bytes = c.fits.ensures.bytes } in
    subst (λ (s : Stamp). IsStamp (kind_code o.kind) s) (sym c.stamp_of-stamp.ensures) (allowed X o c.requires c.keeps_limits.ensures.limits.count (subst Fits c.stamp_of-stamp.ensures fits))
