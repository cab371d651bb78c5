use Rattle.std.proofs.Common.{ap, ◌∙◌}
use Rattle.std.specs.Prelude.{Err}
use Rattle.annbuild_commands.proofs.Tells.{told_whole, told_part, failed_either}
use Rattle.annbuild_commands.proofs.told.tell.Goals as goal

pub returns-in-Ok : goal.returns-in-Ok
returns-in-Ok g c = told_whole _ (g.O.Out.got c.args.err.now).written _ c.args.fault _ (c.as_slice.ensures.value ∙ c.fault_line-line.ensures) c.in-Ok.ensures.ok

pub returns-in-Err : goal.returns-in-Err
returns-in-Err g c = told_part _ (g.O.Out.got c.args.err.now).written _ c.args.fault _ (c.as_slice.ensures.value ∙ c.fault_line-line.ensures)
    (failed_either _ _ c.in-Err._slip (λ e. c.in-Err.ensures.only_written.cause (ap Err e)) (λ e. c.in-Err.ensures.only_written.want (ap Err e))) c.in-Err.ensures.err
