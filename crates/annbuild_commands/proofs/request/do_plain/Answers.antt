use Rattle.command_options.specs.declared.verb.Verb.TheVariants as verbs
use Rattle.annbuild_commands.proofs.Asking.{asked_range, as_asked}
use Rattle.annbuild_commands.proofs.request.do_plain.Goals as goal

pub build-requires-after_bounds : goal.build-requires-after_bounds
build-requires-after_bounds g c κs within = asked_range c.args.parsed.now c.request.result verbs.Build c.request.ensures c.in-Build.is c.requires.allowed

pub query-requires-after_bounds : goal.query-requires-after_bounds
query-requires-after_bounds g c κs within = asked_range c.args.parsed.now c.request.result verbs.Query c.request.ensures c.in-Query.is c.requires.allowed

pub make-requires : goal.make-requires
make-requires g c = asked_range c.args.parsed.now c.request.result verbs.Make c.request.ensures c.in-Make.is c.requires.allowed

pub trial-requires-after_bounds : goal.trial-requires-after_bounds
trial-requires-after_bounds g c κs within = asked_range c.args.parsed.now c.request.result verbs.Trial c.request.ensures c.in-Trial.is c.requires.allowed

pub returns-in-Build : goal.returns-in-Build
returns-in-Build g c = as_asked c.args.parsed.now c.request.result verbs.Build _ _ _ _ _ c.request.ensures c.in-Build.is c.build.ensures

pub returns-in-Query : goal.returns-in-Query
returns-in-Query g c = as_asked c.args.parsed.now c.request.result verbs.Query _ _ _ _ _ c.request.ensures c.in-Query.is c.query.ensures

pub returns-in-Check : goal.returns-in-Check
returns-in-Check g c = as_asked c.args.parsed.now c.request.result verbs.Check _ _ _ _ _ c.request.ensures c.in-Check.is c.check.ensures

pub returns-in-Make : goal.returns-in-Make
returns-in-Make g c = as_asked c.args.parsed.now c.request.result verbs.Make _ _ _ _ _ c.request.ensures c.in-Make.is c.make.ensures

pub returns-in-Trial : goal.returns-in-Trial
returns-in-Trial g c = as_asked c.args.parsed.now c.request.result verbs.Trial _ _ _ _ _ c.request.ensures c.in-Trial.is (c.trial.ensures _)
