use Rattle.annbuild_commands.proofs.LiveFacts.{asked_of}
use Rattle.annbuild_commands.proofs.live.make_session.Goals as goal

pub returns-clause-asked : goal.returns-clause-asked
returns-clause-asked g c =
    asked_of c.args.inputs.now.points c.args.inputs.now.queries.vectors c.args.options.now c.requires.asked c.in_ok-session.session c.in_ok-session.ensures
