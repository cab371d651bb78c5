use Rattle.std.proofs.Common.{◌≡◌, ◌*◌, ◌<◌, ◌≤◌, length, sym, ap, ◌∙◌, arith, [], get_or, take, drop, List, ℕ}
use Rattle.std.proofs.lemmas.List.{length-take-le, length-drop}
use Rattle.std.proofs.Math.Nat.{mul-le-mul_right}
use Rattle.ann_defs.specs.Distance.{PointSet, dim_of}
use Rattle.bin_files.proofs.RowLaws.{length-rows, get_or-rows, row_below, dim_of-rows}
use Rattle.bin_files.proofs.points.Points.at.Goals as goal

pub part-requires : goal.part-requires
part-requires c =
    let below : c.args.i < c.self.inside.count = omega (arith, length-rows c.self.inside.count c.self.inside.dim c.self.inside.bytes.items, ap (λ s. length s.vectors) c.self.view_is) in
    omega (arith, row_below c.self.inside.count c.self.inside.dim c.args.i below)

pub returns-clause-value : goal.returns-clause-value
returns-clause-value c =
    let below : c.args.i < c.self.inside.count = omega (arith, length-rows c.self.inside.count c.self.inside.dim c.self.inside.bytes.items, ap (λ s. length s.vectors) c.self.view_is) in
    let Row : PointSet → List ℕ = λ s. get_or s.vectors c.args.i [] in
    c.part.ensures ∙ ap (λ bytes. take c.self.inside.dim (drop (c.args.i * c.self.inside.dim) bytes)) c.deref.ensures.value
    ∙ sym (get_or-rows c.self.inside.count c.self.inside.dim c.self.inside.bytes.items c.args.i below) ∙ ap Row c.self.view_is

pub returns-clause-dim : goal.returns-clause-dim
returns-clause-dim c =
    let some : 1 ≤ c.self.inside.count = omega arith in
    let fits : c.self.inside.dim ≤ length c.self.inside.bytes.items = omega (arith, mul-le-mul_right {m = 1} {n = c.self.inside.count} c.self.inside.dim some) in
    let below : c.args.i < c.self.inside.count = omega (arith, length-rows c.self.inside.count c.self.inside.dim c.self.inside.bytes.items, ap (λ s. length s.vectors) c.self.view_is) in
    let row = row_below c.self.inside.count c.self.inside.dim c.args.i below in
    let long : length (take c.self.inside.dim (drop (c.args.i * c.self.inside.dim) c.deref.result.now)) ≡ c.self.inside.dim =
    length-take-le c.self.inside.dim (drop (c.args.i * c.self.inside.dim) c.deref.result.now) (omega (arith, row, length-drop (c.args.i * c.self.inside.dim) c.deref.result.now, ap length c.deref.ensures.value)) in
    ap length c.part.ensures ∙ long
    ∙ sym (dim_of-rows c.self.inside.count c.self.inside.dim c.self.inside.bytes.items some fits) ∙ ap (λ s. dim_of s.vectors) c.self.view_is
