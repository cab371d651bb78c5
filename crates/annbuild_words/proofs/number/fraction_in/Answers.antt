use Rattle.annbuild_words.proofs.Numbers.{no_fraction}
use Rattle.annbuild_words.proofs.number.fraction_in.Goals as goal

pub returns-in_default : goal.returns-in_default
returns-in_default c = no_fraction c.args.text.now c.split_once.result c.in_default.is c.split_once.ensures.cases
