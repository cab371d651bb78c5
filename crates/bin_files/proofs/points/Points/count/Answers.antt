use Rattle.std.proofs.Common.{length, sym, ap, ◌∙◌}
use Rattle.bin_files.proofs.RowLaws.{length-rows}
use Rattle.bin_files.proofs.points.Points.count.Goals as goal

pub returns-clause-value : goal.returns-clause-value
returns-clause-value c = sym (length-rows c.self.inside.count c.self.inside.dim c.self.inside.bytes.items) ∙ ap (λ s. length s.vectors) c.self.view_is
