use Rattle.std.proofs.Common.{◌∙◌}
use Rattle.graph_rows.specs.View.{contents}
use Rattle.annbuild_lines.specs.Lines.{checked_text}
use Rattle.annbuild_commands.proofs.IndexFacts.{checked_is}
use Rattle.annbuild_commands.proofs.index_told.line_of_checked.Goals as goal

pub returns : goal.returns
returns c = c.checked_line.ensures ∙ (λ i. checked_text (c.told_by.ensures i) (c.longest.ensures i)) ∙ checked_is (contents c.args.index.now)
