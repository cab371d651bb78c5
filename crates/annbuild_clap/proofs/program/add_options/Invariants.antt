use Rattle.std.proofs.Common.{◌≡◌, drop}
use Rattle.clap.specs.Words.{app_of}
use Rattle.annbuild_clap.specs.Program.{with_options}
use Rattle.annbuild_clap.proofs.program.add_options.Given as goal

abbrev pub invariant-loop-option : goal.invariant-loop-option
invariant-loop-option l = with_options l.verb (app_of l.command) (drop l.option-index l.options) ≡ with_options l.verb (app_of l.fn.command) l.options
