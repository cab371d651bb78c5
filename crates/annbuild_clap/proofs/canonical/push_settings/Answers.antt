use Rattle.annbuild_words.specs.Asked.{command_of}
use Rattle.annbuild_clap.proofs.SetWords.{one_more}
use Rattle.annbuild_clap.proofs.canonical.push_settings.Goals as goal

pub loop-option-preserved : goal.loop-option-preserved
loop-option-preserved c = one_more (command_of c.args.request.now) _ _ _ _ _ _ c.loop-option-test.true c.in_ok-push_setting.ensures c.loop-option.invariant
