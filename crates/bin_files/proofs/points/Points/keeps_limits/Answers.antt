use Rattle.std.proofs.Common.{subst}
use Rattle.ann_defs.specs.Distance.{PointSet}
use Rattle.bin_files.specs.Rows.{ArePoints}
use Rattle.bin_files.proofs.Spelled.{are_points}
use Rattle.bin_files.proofs.Turned.{AreBytes}
use Rattle.bin_files.proofs.points.Points.keeps_limits.Goals as goal

pub returns : goal.returns
returns c =
    let Kept : PointSet → Type 0 = λ s. ArePoints s.vectors in
    let are : AreBytes c.self.inside.bytes.items = subst AreBytes c.deref.ensures.value c.are_bytes.ensures in
    subst Kept c.self.view_is (are_points c.self.inside.count c.self.inside.dim c.self.inside.bytes.items c.self.invariant.0 c.self.invariant.1 are)
