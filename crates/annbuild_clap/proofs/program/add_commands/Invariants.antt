use Rattle.std.proofs.Common.{◌≡◌, drop}
use Rattle.clap.specs.Words.{app_of}
use Rattle.annbuild_clap.specs.Program.{with_commands}
use Rattle.annbuild_clap.proofs.program.add_commands.Given as goal

abbrev pub invariant-loop-verb : goal.invariant-loop-verb
invariant-loop-verb l = with_commands (app_of l.program) (drop l.verb-index l.verbs) ≡ with_commands (app_of l.fn.program) l.verbs
