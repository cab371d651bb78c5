use Rattle.std.proofs.Common.{◌≡◌, drop}
use Rattle.clap.specs.Words.{app_of}
use Rattle.annbuild_clap.specs.Program.{with_files}
use Rattle.annbuild_clap.proofs.program.add_files.Given as goal

abbrev pub invariant-loop-role : goal.invariant-loop-role
invariant-loop-role l = with_files (app_of l.command) (drop l.role-index l.roles) ≡ with_files (app_of l.fn.command) l.roles
