use Rattle.std.proofs.Common.{◌∙◌, ap}
use Rattle.graph_rows.specs.View.{contents}
use Rattle.annbuild_lines.specs.Lines.{built_text}
use Rattle.annbuild_commands.proofs.IndexFacts.{line_is}
use Rattle.annbuild_commands.proofs.index_told.line_of_built.Goals as goal

pub returns : goal.returns
returns c = c.built_line.ensures ∙ ap built_text c.told_by.ensures ∙ line_is (contents c.args.index.now)
