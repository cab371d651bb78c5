use Rattle.std.proofs.Common.{◌≤◌, length, sym, ap, ◌∙◌, arith}
use Rattle.std.proofs.Math.Nat.{mul-le-mul_right}
use Rattle.ann_defs.specs.Distance.{dim_of}
use Rattle.bin_files.proofs.RowLaws.{dim_of-rows}
use Rattle.bin_files.proofs.points.Points.dim.Goals as goal

pub returns-clause-value : goal.returns-clause-value
returns-clause-value c =
    let some : 1 ≤ c.self.inside.count = omega arith in
    let fits : c.self.inside.dim ≤ length c.self.inside.bytes.items = omega (arith, mul-le-mul_right {m = 1} {n = c.self.inside.count} c.self.inside.dim some) in
    sym (dim_of-rows c.self.inside.count c.self.inside.dim c.self.inside.bytes.items some fits) ∙ ap (λ s. dim_of s.vectors) c.self.view_is
