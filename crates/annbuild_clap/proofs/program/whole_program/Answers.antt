use Rattle.std.proofs.Common.{ap, ◌∙◌}
use Rattle.std.proofs.lemmas.Result.{IfOk-weaker}
use Rattle.command_options.specs.Verbs.{every_verb}
use Rattle.annbuild_clap.specs.Program.{program, with_commands}
use Rattle.annbuild_clap.proofs.program.whole_program.Goals as goal

pub returns : goal.returns
unfolding program
returns c = IfOk-weaker c.add_commands.result _ _ (λ r is. is ∙ ap (λ app. with_commands app every_verb) c.bare_program.ensures) c.add_commands.ensures
