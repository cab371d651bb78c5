use Rattle.annbuild_commands.proofs.MakeFacts.{points_are}
use Rattle.annbuild_commands.proofs.made.points_for.Goals as goal

pub returns-clause-points : goal.returns-clause-points
returns-clause-points c = points_are c.in_ok-points.points c.args.options.now c.in_ok-points.ensures.vectors c.in_ok-points.ensures.element
