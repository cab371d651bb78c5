use Rattle.std.proofs.Common.{sym, ap, ◌∙◌, arith}
use Rattle.bin_files.specs.Rows.{cells}
use Rattle.bin_files.proofs.RowLaws.{cells-rows}
use Rattle.bin_files.proofs.points.Points.as_bytes.Goals as goal

pub returns : goal.returns
returns c = c.deref.ensures.value ∙ sym (cells-rows c.self.inside.count c.self.inside.dim c.self.inside.bytes.items (omega arith)) ∙ ap (λ s. cells s.vectors) c.self.view_is
